use Rattle.sheet_laws.proofs.PlaceCuts.{places_between, between_places, places_ascend, closed_rule_place}
use Rattle.sheet_laws.proofs.laws.place_law.Goals as goal

pub returns : goal.returns
returns c = record { places = places_between; each = between_places; ascend = places_ascend; closed_rule = closed_rule_place }
