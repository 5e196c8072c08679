use Rattle.number_map.proofs.MapLemmas.{keys-none}
use Rattle.number_map.proofs.maps.NumberSet.new.Goals as goal

pub returns : goal.returns
returns c = keys-none _ c.new.ensures
