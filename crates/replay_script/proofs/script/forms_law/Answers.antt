use Rattle.replay_script.proofs.SoundLemmas.{forms_are_sound, first_is_load}
use Rattle.replay_script.proofs.script.forms_law.Goals as goal

pub returns-clause-sound : goal.returns-clause-sound
returns-clause-sound c = forms_are_sound

pub returns-clause-first : goal.returns-clause-first
returns-clause-first c = first_is_load
