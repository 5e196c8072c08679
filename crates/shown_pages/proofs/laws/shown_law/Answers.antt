use Rattle.shown_pages.proofs.HiddenLemmas.{all-shown}
use Rattle.shown_pages.proofs.ShownTrees.{shown-valid}
use Rattle.shown_pages.proofs.ShownSteps.{shown-steps}
use Rattle.shown_pages.proofs.FoundLemmas.{found-shown, below-shown}
use Rattle.shown_pages.proofs.AboveLemmas.{stands-shown}
use Rattle.shown_pages.proofs.laws.shown_law.Goals as goal

pub returns : goal.returns
returns c = record {
  valid = shown-valid;
  all = all-shown;
  steps = shown-steps;
  found = found-shown;
  stands = stands-shown;
  below = below-shown;
}
