-- A whole input leaves nothing in the source.
use Rattle.inspect_replay.proofs.AnswerLemmas.{none-left}
use Rattle.inspect_replay.proofs.program.read_input.Goals as goal

pub returns-clause-whole : goal.returns-clause-whole
returns-clause-whole g c = λ input left. none-left _ _ input _ c.in-Ok.ensures.all left
