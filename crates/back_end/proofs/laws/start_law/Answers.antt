-- Nothing was done so far.
use Rattle.back_end.proofs.StartLemmas.{IsState-first, stands-first, numbers-differ}
use Rattle.back_end.proofs.laws.start_law.Goals as goal

pub returns-clause-valid : goal.returns-clause-valid
returns-clause-valid c = IsState-first

pub returns-clause-stands : goal.returns-clause-stands
returns-clause-stands c = stands-first

pub returns-clause-numbers : goal.returns-clause-numbers
returns-clause-numbers c = numbers-differ
