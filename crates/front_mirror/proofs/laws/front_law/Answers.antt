use Rattle.front_mirror.proofs.FoldLemmas.{fold-append, fold-more, fold_begins, fold_takes, fold_stays, fold_asks, fold_fetches}
use Rattle.front_mirror.proofs.laws.front_law.Goals as goal

pub returns-clause-goes_on : goal.returns-clause-goes_on
returns-clause-goes_on c = fold-append

pub returns-clause-ask_joins : goal.returns-clause-ask_joins
returns-clause-ask_joins c = fold-more

pub returns-clause-begins : goal.returns-clause-begins
returns-clause-begins c = fold_begins

pub returns-clause-takes : goal.returns-clause-takes
returns-clause-takes c = fold_takes

pub returns-clause-stays : goal.returns-clause-stays
returns-clause-stays c = fold_stays

pub returns-clause-asks : goal.returns-clause-asks
returns-clause-asks c = fold_asks

pub returns-clause-fetches : goal.returns-clause-fetches
returns-clause-fetches c = fold_fetches
