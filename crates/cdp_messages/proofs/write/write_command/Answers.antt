use Rattle.std.proofs.Common.{option_map}
use Rattle.serde_json.specs.View.{view}
use Rattle.cdp_messages.proofs.Floats.{has_float-command_value}
use Rattle.cdp_messages.proofs.write.write_command.Goals as goal

pub append-requires : goal.append-requires
append-requires c =
    rw c.in_ok-value.ensures
    (has_float-command_value c.args.id c.args.method.now (option_map (λ p. view p.now) c.args.params)
    (option_map (λ s. view s.now) c.args.session) c.requires.params c.requires.session)
