use Rattle.select_match.proofs.LawLemmas.{nth-some, nth-of}
use Rattle.select_match.proofs.laws.nth_law.Goals as goal

pub returns : goal.returns
returns c = record { reached = nth-some; all = nth-of }
