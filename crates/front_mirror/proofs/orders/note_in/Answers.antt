-- One id more is noted.
use Rattle.std.proofs.Common.{cond, Some, get_or, arith, ◌∙◌}
use Rattle.std.specs.FinMap as map
use Rattle.client_views.specs.Views.{is_in}
use Rattle.front_mirror.proofs.IdMapLemmas.{puts-insert}
use Rattle.front_mirror.proofs.ShelfLemmas.{noted-turn, noted-end}
use Rattle.front_mirror.proofs.orders.note_in.Goals as goal

pub loop-id-preserved : goal.loop-id-preserved
loop-id-preserved c = λ k.
    noted-turn c.args.ids.now c.loop-id.id-index k c.args.number (map.get c.loop-id.numbers) (map.get c.insert.new.self) c.loop-id-test.true
    (puts-insert c.loop-id.numbers c.insert.new.self (get_or c.args.ids.now c.loop-id.id-index 0) c.args.number c.in_ok-insert.ensures.put)
    ∙ c.loop-id.invariant k

pub returns : goal.returns
returns c = λ k.
    noted-end c.args.ids.now c.loop-id.id-index k c.args.number (map.get c.loop-id.numbers)
    (cond (is_in k c.args.ids.now) (Some c.args.number) (map.get c.args.numbers.now k)) (omega arith) (c.loop-id.invariant k)
