-- One number more, or the one that is looked for.
use Rattle.std.proofs.Common.{arith}
use Rattle.number_map.proofs.PlaceLemmas.{place_here, place_on, number_at}
use Rattle.number_map.proofs.scans.scan.Goals as goal

pub returns-then-numbers-i : goal.returns-then-numbers-i
returns-then-numbers-i c =
    let at = number_at c.args.numbers.now c.loop-i.i c.loop-i-test.true in
    let e = place_here c.args.number c.args.numbers.now c.loop-i.i _ at c.if-numbers-i.true in
    omega (arith, c.loop-i.invariant, e)

pub loop-i-preserved : goal.loop-i-preserved
loop-i-preserved c =
    let at = number_at c.args.numbers.now c.loop-i.i c.loop-i-test.true in
    let e = place_on c.args.number c.args.numbers.now c.loop-i.i _ at c.if-numbers-i.false in
    omega (arith, c.loop-i.invariant, e)
