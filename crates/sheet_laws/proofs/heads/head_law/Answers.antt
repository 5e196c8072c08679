use Rattle.sheet_laws.proofs.HeadLaw.{head_holds}
use Rattle.sheet_laws.proofs.heads.head_law.Goals as goal

pub returns : goal.returns
returns c = record { moved = head_holds }
