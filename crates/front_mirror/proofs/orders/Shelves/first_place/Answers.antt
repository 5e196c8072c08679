-- The id is found in this shelf, or looked for behind it.
use Rattle.std.proofs.Common.{◌+◌, arith, refl}
use Rattle.number_map.specs.Places.{number_place}
use Rattle.front_mirror.specs.Orders.{ids_in}
use Rattle.front_mirror.proofs.ShelfLemmas.{front-fits, before-turn, first-in, first-turn}
use Rattle.front_mirror.proofs.orders.Shelves.first_place.Goals as goal

pub overflow_add-result : goal.overflow_add-result
overflow_add-result c =
    let fits = front-fits c.args.self.now.items.items c.loop-i.i c.index-shelf.result.now (omega arith) c.index-shelf.ensures in
    omega (arith, fits, c.requires.few, c.loop-i.invariant.before, c.len-len.ensures, c.if-place-len.true)

pub returns-then-place-len : goal.returns-then-place-len
returns-then-place-len c =
    first-in c.args.self.now.items.items c.loop-i.i c.index-shelf.result.now (omega arith) c.index-shelf.ensures c.args.id c.loop-i.before
    c.place-place.result (number_place c.args.id (ids_in c.args.self.now.items.items)) c.loop-i.invariant.place c.place-place.ensures
    (omega (arith, c.len-len.ensures, c.if-place-len.true))

pub overflow_add-before : goal.overflow_add-before
overflow_add-before c =
    let fits = front-fits c.args.self.now.items.items c.loop-i.i c.index-shelf.result.now (omega arith) c.index-shelf.ensures in
    omega (arith, fits, c.requires.few, c.loop-i.invariant.before, c.len-len.ensures)

pub loop-i-preserved : goal.loop-i-preserved
loop-i-preserved c = record {
  before = before-turn c.args.self.now.items.items c.loop-i.i c.index-shelf.result.now (omega arith) c.index-shelf.ensures
      c.loop-i.before c.len-len.result (c.loop-i.before + c.len-len.result) c.loop-i.invariant.before c.len-len.ensures refl;
  place = first-turn c.args.self.now.items.items c.loop-i.i c.index-shelf.result.now (omega arith) c.index-shelf.ensures c.args.id
      c.loop-i.before c.place-place.result c.len-len.result (c.loop-i.before + c.len-len.result)
      (number_place c.args.id (ids_in c.args.self.now.items.items)) c.loop-i.invariant.place c.place-place.ensures c.len-len.ensures
      (omega (arith, c.if-place-len.false)) refl;
}
