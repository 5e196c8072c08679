use Rattle.replay_script.proofs.PairLemmas.{pair_forms_are_sound, pair_first_is_load}
use Rattle.replay_script.proofs.pair_lines.pair_forms_law.Goals as goal

pub returns-clause-sound : goal.returns-clause-sound
returns-clause-sound c = pair_forms_are_sound

pub returns-clause-first : goal.returns-clause-first
returns-clause-first c = pair_first_is_load
