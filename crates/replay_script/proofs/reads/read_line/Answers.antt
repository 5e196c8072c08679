-- A form that is read may be carried out.
use Rattle.replay_script.proofs.SoundLemmas.{sound_ok, fits_ok, whole_ok}
use Rattle.replay_script.proofs.reads.read_line.Goals as goal

pub returns-clause-sound : goal.returns-clause-sound
returns-clause-sound c = sound_ok c.args.number c.args.line.now c.read_form.result c.read_form.ensures.fault c.read_form.ensures.form

pub returns-clause-fits : goal.returns-clause-fits
returns-clause-fits c = fits_ok c.read_form.result
    (sound_ok c.args.number c.args.line.now c.read_form.result c.read_form.ensures.fault c.read_form.ensures.form)

pub returns-clause-whole : goal.returns-clause-whole
returns-clause-whole c = whole_ok c.read_form.result
    (sound_ok c.args.number c.args.line.now c.read_form.result c.read_form.ensures.fault c.read_form.ensures.form)
