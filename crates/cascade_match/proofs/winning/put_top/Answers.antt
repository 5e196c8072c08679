-- A look-up by bytes after the insertion.
use Rattle.std.proofs.lemmas.Map.Text.{btree_map_updates_str}
use Rattle.cascade_match.proofs.winning.put_top.Goals as goal

pub returns-in-Ok : goal.returns-in-Ok
returns-in-Ok c = λ q. btree_map_updates_str c.args.name.now c.args.tops.now c.insert.new.self _ c.in-Ok.ensures.updates q
