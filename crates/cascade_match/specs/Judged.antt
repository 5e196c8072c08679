-- A sheet whose rules are tried, as contracts see it.
use Rattle.cascade_match.specs.declared.matching.Judged.{Judged}
use Rattle.cascade_match.specs.Matched.{Source}

-- a judged sheet as the source of its rules
abbrev pub judged_seen : Judged → Source
judged_seen j = record { place = j.place; id = j.sheet.now.id; origin = j.sheet.now.origin; held = j.held.now }
