use Rattle.css_tokens.proofs.Cuts.{none_at_end}
use Rattle.css_tokens.proofs.TableForms.{rows_give, first_is_first, cuts_whole}
use Rattle.css_tokens.proofs.laws.table_law.Goals as goal

pub returns-clause-rows : goal.returns-clause-rows
returns-clause-rows c = rows_give

pub returns-clause-first : goal.returns-clause-first
returns-clause-first c = first_is_first

pub returns-clause-always : goal.returns-clause-always
returns-clause-always c = none_at_end

pub returns-clause-cuts : goal.returns-clause-cuts
returns-clause-cuts c = cuts_whole
