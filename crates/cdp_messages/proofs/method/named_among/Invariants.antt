use Rattle.std.proofs.Common.{◌≡◌, drop}
use Rattle.cdp_json.specs.Kinds.{named}
use Rattle.cdp_messages.specs.Methods.{name_of}
use Rattle.cdp_messages.proofs.method.named_among.Given as goal

abbrev pub invariant-loop-method : goal.invariant-loop-method
invariant-loop-method l = named name_of (drop l.method-index l.methods) l.fn.name ≡ named name_of l.methods l.fn.name
