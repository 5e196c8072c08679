use Rattle.selectors.proofs.GrammarAgain.{grammar_read}
use Rattle.selectors.proofs.GrammarTakes.{grammar_spells}
use Rattle.selectors.proofs.laws.grammar_law.Goals as goal

pub returns-clause-read : goal.returns-clause-read
returns-clause-read c = grammar_read

pub returns-clause-spelled : goal.returns-clause-spelled
returns-clause-spelled c = grammar_spells
