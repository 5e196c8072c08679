use Rattle.std.proofs.Common.{ap, ◌∙◌}
use Rattle.cdp_messages.specs.Methods.{MethodSaid, is_replay}
use Rattle.cdp_messages.proofs.method.Method.is_own.Goals as goal

pub returns : goal.returns
returns c = c.is_replay.ensures ∙ ap (λ (r : MethodSaid). is_replay r.server) c.row.ensures
