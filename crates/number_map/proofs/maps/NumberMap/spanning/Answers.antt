use Rattle.number_map.proofs.MapLemmas.{blank-both}
use Rattle.number_map.proofs.maps.NumberMap.spanning.Goals as goal

pub returns : goal.returns
returns c = blank-both _ _ _ c.in_ok-spanning.ensures c.new.ensures.empty
