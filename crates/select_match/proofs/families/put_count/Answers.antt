-- A look-up by bytes after the insertion.
use Rattle.std.proofs.Common.{ℕ, Option, unwrap_or, ap, ◌∙◌}
use Rattle.std.specs.Ordering.{nat_cmp}
use Rattle.std.specs.Str.{bytes_eq}
use Rattle.std.specs.Cmp.Lexicographic.{slice_cmp}
use Rattle.std.specs.BTreeMap.{get_by}
use Rattle.std.proofs.lemmas.Map.Text.{btree_map_updates_str}
use Rattle.select_match.proofs.FamilyLemmas.{named-put}
use Rattle.select_match.proofs.families.put_count.Goals as goal

pub returns-in-Ok : goal.returns-in-Ok
returns-in-Ok c = λ q.
    ap (λ (o : Option ℕ). unwrap_or o 0)
    (btree_map_updates_str c.args.name.now c.args.names.now c.insert.new.self _ c.in-Ok.ensures.updates q)
    ∙ named-put (bytes_eq c.args.name.now q) c.args.count (get_by (λ k. slice_cmp nat_cmp q k.now) c.args.names.now)
