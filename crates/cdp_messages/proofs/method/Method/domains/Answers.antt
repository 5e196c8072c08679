use Rattle.std.proofs.Common.{ap}
use Rattle.cdp_messages.specs.Methods.{MethodSaid}
use Rattle.cdp_messages.proofs.method.Method.domains.Goals as goal

pub returns : goal.returns
returns c = ap (λ (r : MethodSaid). r.domains) c.row.ensures
