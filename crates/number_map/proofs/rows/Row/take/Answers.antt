use Rattle.std.proofs.Common.{◌∙◌}
use Rattle.number_map.proofs.RowLemmas.{row-read, row-put}
use Rattle.number_map.proofs.rows.Row.take.Goals as goal

pub returns-clause-was : goal.returns-clause-was
returns-clause-was c = row-read _ _ c.in_ok-place.place _ _ c.in_ok-place.ensures.there c.in_ok-place.ensures.within c.index-number.ensures

pub returns-clause-left : goal.returns-clause-left
returns-clause-left c other =
    c.shorten.ensures other
    ∙ row-put _ _ c.in_ok-place.place _ _ other c.in_ok-place.ensures.there c.in_ok-place.ensures.within
