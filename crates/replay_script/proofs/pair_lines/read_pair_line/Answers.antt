-- A form that is read may be carried out.
use Rattle.replay_script.proofs.PairLemmas.{pair_sound_ok, pair_fits_ok, pair_whole_ok}
use Rattle.replay_script.proofs.pair_lines.read_pair_line.Goals as goal

pub returns-clause-sound : goal.returns-clause-sound
returns-clause-sound c =
    pair_sound_ok c.args.number c.args.line.now c.read_pair_form.result c.read_pair_form.ensures.fault c.read_pair_form.ensures.form

pub returns-clause-fits : goal.returns-clause-fits
returns-clause-fits c = pair_fits_ok c.read_pair_form.result
    (pair_sound_ok c.args.number c.args.line.now c.read_pair_form.result c.read_pair_form.ensures.fault c.read_pair_form.ensures.form)

pub returns-clause-whole : goal.returns-clause-whole
returns-clause-whole c = pair_whole_ok c.read_pair_form.result
    (pair_sound_ok c.args.number c.args.line.now c.read_pair_form.result c.read_pair_form.ensures.fault c.read_pair_form.ensures.form)
