-- A load that was read off its tokens.
use Rattle.page_forms.specs.Pages.{loaded_page}
use Rattle.replay_script.proofs.PairLemmas.{load_read}
use Rattle.replay_script.proofs.pair_lines.read_pair_form.Goals as goal

pub returns-in-Ok-clause-fault : goal.returns-in-Ok-clause-fault
returns-in-Ok-clause-fault c = (load_read c.args.number c.args.line.now (loaded_page c.in-Ok.page) c.in-Ok.ensures).0

pub returns-in-Ok-clause-form : goal.returns-in-Ok-clause-form
returns-in-Ok-clause-form c = (load_read c.args.number c.args.line.now (loaded_page c.in-Ok.page) c.in-Ok.ensures).1
