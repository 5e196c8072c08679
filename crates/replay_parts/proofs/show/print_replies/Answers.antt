-- Where there is no memory for the text, nothing is written.
use Rattle.replay_parts.proofs.StopLemmas.{wrote-nothing}
use Rattle.replay_parts.proofs.show.print_replies.Goals as goal

pub returns-in_err-text-clause-err : goal.returns-in_err-text-clause-err
returns-in_err-text-clause-err g c = wrote-nothing c.from_residual.result (g.K.Sink.taken c.args.out.now) _
