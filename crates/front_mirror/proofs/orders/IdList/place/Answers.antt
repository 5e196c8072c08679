-- One id more, or the one that is looked for.
use Rattle.std.proofs.Common.{ap, arith}
use Rattle.number_map.specs.Places.{number_place}
use Rattle.number_map.proofs.PlaceLemmas.{place_here, place_on, number_at}
use Rattle.front_mirror.proofs.orders.IdList.place.Goals as goal

pub returns-then-ids-i : goal.returns-then-ids-i
returns-then-ids-i c =
    let at = number_at c.as_slice-ids.result.now c.loop-i.i c.loop-i-test.true in
    let e = place_here c.args.id c.as_slice-ids.result.now c.loop-i.i _ at c.if-ids-i.true in
    let same = ap (number_place c.args.id) c.as_slice-ids.ensures in
    omega (arith, c.loop-i.invariant, e, same)

pub loop-i-preserved : goal.loop-i-preserved
loop-i-preserved c =
    let at = number_at c.as_slice-ids.result.now c.loop-i.i c.loop-i-test.true in
    let e = place_on c.args.id c.as_slice-ids.result.now c.loop-i.i _ at c.if-ids-i.false in
    omega (arith, c.loop-i.invariant, e)
