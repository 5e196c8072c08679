use Rattle.std.proofs.Common.{rules, sym}
use Rattle.cdp_messages.proofs.FrameBytes.{json_is, json_is_not}
use Rattle.cdp_messages.proofs.read.json_of.Goals as goal

pub returns-in-Ok : goal.returns-in-Ok
returns-in-Ok c = sym (json_is _ _ c.in-Ok.ensures.ok.0 c.in-Ok.ensures.ok.1)

pub returns-else-is_memory : goal.returns-else-is_memory
returns-else-is_memory c = sym (json_is_not _ (c.in-Err.ensures.err (search rules)))
