use Rattle.std.proofs.Common.{option_map}
use Rattle.serde_json.specs.View.{view}
use Rattle.cdp_messages.proofs.Commands.{answers_fit}
use Rattle.cdp_messages.proofs.read.read_command.Goals as goal

pub returns-clause-fits : goal.returns-clause-fits
returns-clause-fits c = answers_fit c.args.own (option_map view c.in-Ok.found) c.asked_by.result c.asked_by.ensures
