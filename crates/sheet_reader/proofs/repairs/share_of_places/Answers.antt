use Rattle.std.proofs.Common.{ℕ, arith}
use Rattle.sheet_reader.proofs.RepairMoves.{count_inside}
use Rattle.sheet_reader.proofs.repairs.share_of_places.Goals as goal

pub returns-clause-front : goal.returns-clause-front
returns-clause-front c =
    let fits = count_inside (λ (place : ℕ). place) c.args.stretch.start c.args.places.now in
    omega (arith, fits, c.places_up_to.ensures.count)

pub returns-clause-inside : goal.returns-clause-inside
returns-clause-inside c =
    let fits = count_inside (λ (place : ℕ). place) c.args.stretch.end c.args.places.now in
    omega (arith, fits, c.places_up_to-2.ensures.count)
