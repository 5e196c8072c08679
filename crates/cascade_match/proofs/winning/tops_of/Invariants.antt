-- The declarations that are left lead to the best of each name.
use Rattle.std.proofs.Common.{◌≡◌, ℕ, List, None, map, drop}
use Rattle.std.specs.Ordering.{nat_cmp}
use Rattle.std.specs.Cmp.Lexicographic.{slice_cmp}
use Rattle.std.specs.BTreeMap.{get_by}
use Rattle.cascade_match.specs.Tops.{ranked_seen, top}
use Rattle.cascade_match.proofs.winning.tops_of.Given as goal

abbrev pub invariant-loop-i : goal.invariant-loop-i
invariant-loop-i l = (q : List ℕ)
    → top q (get_by (λ k. slice_cmp nat_cmp q k.now) l.tops) l.i (map ranked_seen (drop l.i l.all)) ≡ top q None 0 (map ranked_seen l.all)
