use Rattle.selectors.proofs.NthAgain.{nth_reads}
use Rattle.selectors.proofs.NthTakes.{nth_spells}
use Rattle.selectors.proofs.laws.nth_law.Goals as goal

pub returns-clause-read : goal.returns-clause-read
returns-clause-read c = nth_reads

pub returns-clause-spelled : goal.returns-clause-spelled
returns-clause-spelled c = nth_spells
