use Rattle.sheet_laws.proofs.InsertedLaw.{inserted_holds}
use Rattle.sheet_laws.proofs.insertion.inserted_law.Goals as goal

pub returns : goal.returns
returns c = record { inserted = inserted_holds }
