-- The declarations so far and those that are left make up the whole.
use Rattle.std.proofs.Common.{◌≡◌, ◌++◌, map, drop}
use Rattle.cascade_match.specs.Winning.{candidate_of}
use Rattle.cascade_match.specs.Tops.{ranked_seen}
use Rattle.cascade_match.proofs.winning.rank_all.Given as goal

abbrev pub invariant-loop-declaration : goal.invariant-loop-declaration
invariant-loop-declaration l = map ranked_seen l.all.items ++ map (candidate_of l.origin) (drop l.declaration-index l.declarations)
    ≡ map ranked_seen l.initial.all.items ++ map (candidate_of l.origin) l.declarations
