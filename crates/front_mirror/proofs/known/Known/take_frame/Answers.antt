use Rattle.std.proofs.Common.{refl}
use Rattle.front_mirror.proofs.MessageLemmas.{text_refused}
use Rattle.front_mirror.proofs.known.Known.take_frame.Goals as goal

pub returns-in_default : goal.returns-in_default
returns-in_default c = (text_refused _ _ _ _ c.in_default.is c.from_utf8.ensures.succeeds, refl)
