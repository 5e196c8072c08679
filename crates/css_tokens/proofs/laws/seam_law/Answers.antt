use Rattle.css_tokens.proofs.SeamPieces.{whole_before, pieces_at}
use Rattle.css_tokens.proofs.laws.seam_law.Goals as goal

pub returns-clause-stays : goal.returns-clause-stays
returns-clause-stays c = λ k stop rest other front ts whole. whole_before k stop rest other 0 front ts whole

pub returns-clause-apart : goal.returns-clause-apart
returns-clause-apart c = pieces_at
