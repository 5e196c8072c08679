-- The id is found in the shelf, behind those that were passed over.
use Rattle.std.proofs.Common.{arith}
use Rattle.front_mirror.proofs.ShelfLemmas.{front-fits, found-in}
use Rattle.front_mirror.proofs.orders.Shelves.noted_place.Goals as goal

pub overflow_add-result : goal.overflow_add-result
overflow_add-result c =
    let fits = front-fits c.args.self.now.items.items c.loop-i.i c.index-shelf.result.now (omega arith) c.index-shelf.ensures in
    omega (arith, fits, c.requires.few, c.loop-i.invariant, c.len-len.ensures, c.if-place-len.true)

pub returns-then-place-len : goal.returns-then-place-len
returns-then-place-len c =
    found-in c.args.self.now.items.items c.loop-i.i c.index-shelf.result.now (omega arith) c.index-shelf.ensures c.args.id
    c.loop-i.before c.place-place.result c.loop-i.invariant c.place-place.ensures (omega (arith, c.len-len.ensures, c.if-place-len.true))

pub overflow_add-before : goal.overflow_add-before
overflow_add-before c =
    let fits = front-fits c.args.self.now.items.items c.loop-i.i c.index-shelf.result.now (omega arith) c.index-shelf.ensures in
    omega (arith, fits, c.requires.few, c.loop-i.invariant, c.len-len.ensures)
