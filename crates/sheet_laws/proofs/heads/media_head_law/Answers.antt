use Rattle.sheet_laws.proofs.MediaLaw.{media_holds, blank_holds}
use Rattle.sheet_laws.proofs.heads.media_head_law.Goals as goal

pub returns : goal.returns
returns c = record { words = media_holds; no_words = blank_holds }
