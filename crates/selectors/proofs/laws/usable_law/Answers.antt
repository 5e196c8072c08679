use Rattle.selectors.proofs.RangeForms.{tiles_whole, selectors_whole}
use Rattle.selectors.proofs.laws.usable_law.Goals as goal

pub returns : goal.returns
returns c = record { pieces = tiles_whole; selectors = selectors_whole }
