use Rattle.replay_script.proofs.LineLemmas as lemmas
use Rattle.replay_script.proofs.lines.lines_law.Goals as goal

pub returns : goal.returns
returns c = lemmas.lines_law
