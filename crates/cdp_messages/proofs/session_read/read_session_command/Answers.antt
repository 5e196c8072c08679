use Rattle.std.proofs.Common.{false, Some}
use Rattle.serde_json.specs.View.{view}
use Rattle.cdp_messages.proofs.Commands.{answers_fit}
use Rattle.cdp_messages.proofs.session_read.read_session_command.Goals as goal

pub returns-in-Some-clause-fits : goal.returns-in-Some-clause-fits
returns-in-Some-clause-fits c = answers_fit false (Some (view c.without_session.result)) c.asked_by.result c.asked_by.ensures
