-- What was read of the text is what the bytes are.
use Rattle.std.proofs.lemmas.Option.{IfSome_then}
use Rattle.serde_json.specs.View.{view}
use Rattle.cdp_messages.proofs.FrameBytes.{json_read}
use Rattle.cdp_messages.proofs.read.short_json_of.Goals as goal

pub returns : goal.returns
returns c = IfSome_then _ c.in_ok-found.ensures
    (λ v e. json_read c.args.bytes.now c.in-Ok.text.now (view v) c.in-Ok.ensures.cases.0 c.in-Ok.ensures.cases.1 e)
