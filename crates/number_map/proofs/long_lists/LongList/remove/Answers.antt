-- The number leaves with its seat.
use Rattle.std.proofs.Common.{◌∷◌, ap}
use Rattle.std.specs.List.{remove}
use Rattle.number_map.specs.Places.{times_in}
use Rattle.number_map.specs.Shelves.{numbers_in}
use Rattle.number_map.proofs.PlaceLemmas.{held-same, times-remove}
use Rattle.number_map.proofs.long_lists.LongList.remove.Goals as goal

pub invariant_of-self : goal.invariant_of-self
invariant_of-self c =
    let old = numbers_in c.self.inside.shelves.items.items in
    let n = c.take-number.result in (
      c.take-number.ensures.counted,
      held-same c.unseat.new.seats (λ s. s) (remove old c.args.i) (numbers_in c.take-number.new.self.items.items)
          (λ x. ap (times_in x) c.take-number.ensures.left)
          (c.unseat.ensures (remove old c.args.i)
          (held-same c.self.inside.seats (λ s. s) old (n ∷ remove old c.args.i)
          (λ x. times-remove x old c.args.i n c.take-number.ensures.was) c.self.invariant.1)),
    )
