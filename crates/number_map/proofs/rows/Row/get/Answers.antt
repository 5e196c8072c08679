use Rattle.number_map.proofs.RowLemmas.{row-read}
use Rattle.number_map.proofs.rows.Row.get.Goals as goal

pub returns : goal.returns
returns c = row-read _ _ c.in_ok-place.place _ _ c.in_ok-place.ensures.there c.in_ok-place.ensures.within c.index.ensures
