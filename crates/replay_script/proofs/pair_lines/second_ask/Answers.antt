use Rattle.serde_json.specs.View.{view}
use Rattle.replay_script.specs.declared.line_kinds.LineKind.TheVariants as kind
use Rattle.replay_script.specs.Forms.{form_by}
use Rattle.replay_script.proofs.PairLemmas.{second_refused}
use Rattle.replay_script.proofs.pair_lines.second_ask.Goals as goal

pub returns-in-Err-clause-fault : goal.returns-in-Err-clause-fault
returns-in-Err-clause-fault c = second_refused c.in-Err.error (form_by kind.Ask (view c.args.value.now)) c.in-Err.ensures.fault
