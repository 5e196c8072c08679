use Rattle.cdp_messages.proofs.SessionFrames.{sessions_are_asked}
use Rattle.cdp_messages.proofs.session_read.session_law.Goals as goal

pub returns : goal.returns
returns c = sessions_are_asked
