-- Where no shelf is left, all ids are out.
use Rattle.std.proofs.Common.{arith}
use Rattle.front_mirror.proofs.ShelfLemmas.{enough-end}
use Rattle.front_mirror.proofs.orders.Shelves.take_out.Goals as goal

pub returns-clause-enough : goal.returns-clause-enough
returns-clause-enough c =
    enough-end c.args.self.now.items.items c.loop-self.self.items.items c.args.start c.args.wanted c.loop-self.ids.items
    (omega (arith, c.loop-self-test.false, c.len.ensures)) c.loop-self.invariant.rest c.requires.there
