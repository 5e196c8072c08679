-- A number without a seat stands nowhere, and one with a seat at one place.
use Rattle.std.proofs.Common.{ap, sym, ◌∙◌}
use Rattle.number_map.specs.Places.{number_place}
use Rattle.number_map.specs.Shelves.{numbers_in}
use Rattle.number_map.proofs.PlaceLemmas.{held, seated-place, unseated-place}
use Rattle.number_map.proofs.long_lists.LongList.place.Goals as goal

pub returns-in_default-get : goal.returns-in_default-get
returns-in_default-get c =
    let ks = numbers_in c.self.inside.shelves.items.items in
    c.self.invariant.0.all
    ∙ sym (unseated-place c.in-Some.seats ks c.args.number (held _ _ _ c.in-Some.is c.self.invariant.1)
    (sym c.get.ensures ∙ c.in_default-get.is))
    ∙ ap (number_place c.args.number) c.self.view_is

pub returns-in-Some-place_in : goal.returns-in-Some-place_in
returns-in-Some-place_in c =
    let ks = numbers_in c.self.inside.shelves.items.items in
    sym (seated-place c.in-Some.seats ks c.args.number c.in-Some-place_in.place (held _ _ _ c.in-Some.is c.self.invariant.1)
    c.in-Some-place_in.ensures)
    ∙ ap (number_place c.args.number) c.self.view_is
