use Rattle.replay_script.proofs.ScriptLemmas as lemmas
use Rattle.replay_script.proofs.script.script_law.Goals as goal

pub returns : goal.returns
returns c = lemmas.script_law
