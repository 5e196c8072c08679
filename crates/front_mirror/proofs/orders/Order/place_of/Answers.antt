-- The first place, where the id is not found in the shelf that is noted.
use Rattle.std.proofs.Common.{slice_get, ap, ◌∙◌}
use Rattle.number_map.specs.Places.{number_place}
use Rattle.front_mirror.proofs.IdLemmas.{place-got}
use Rattle.front_mirror.proofs.orders.Order.place_of.Goals as goal

pub returns : goal.returns
returns c = record {
  there = λ i at.
      ap (λ k. slice_get c.args.self.now k) (c.first_place.ensures ∙ ap (number_place c.args.id) c.self.view_is)
      ∙ place-got c.args.id c.args.self.now i at;
}
