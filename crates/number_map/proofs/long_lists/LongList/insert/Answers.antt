-- The number comes with its seat; where it does not come, the seats are more than are needed.
use Rattle.std.proofs.Common.{◌∷◌, ap, ◌∙◌}
use Rattle.number_map.specs.Places.{times_in}
use Rattle.number_map.specs.Shelves.{numbers_in}
use Rattle.number_map.proofs.PlaceLemmas.{held-same, held-fewer, times-insert}
use Rattle.number_map.proofs.long_lists.LongList.insert.Goals as goal

pub invariant_of-self-in_err-cut : goal.invariant_of-self-in_err-cut
invariant_of-self-in_err-cut c =
    let old = numbers_in c.self.inside.shelves.items.items in (
      c.insert.ensures.counted,
      held-same c.seat_new.new.seats (λ s. s) old (numbers_in c.insert.new.self.items.items)
          (λ x. ap (times_in x) c.in_err-cut.ensures.kept)
          (held-fewer c.seat_new.new.seats old c.args.number (c.in_ok-seat_new.ensures.ok old c.self.invariant.1)),
    )

pub invariant_of-self-2 : goal.invariant_of-self-2
invariant_of-self-2 c =
    let old = numbers_in c.self.inside.shelves.items.items in
    let new = numbers_in c.insert.new.self.items.items in (
      c.insert.ensures.counted,
      c.seat_moved.ensures new
          (held-same c.seat_new.new.seats (λ s. s) (c.args.number ∷ old) new
          (λ x. ap (times_in x) c.in_ok-cut.ensures.put ∙ times-insert x old c.args.i c.args.number)
          (c.in_ok-seat_new.ensures.ok old c.self.invariant.1)),
    )
