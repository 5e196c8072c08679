use Rattle.std.proofs.Common.{◌≡◌}
use Rattle.shown_pages.specs.Walks.{first_shown}
use Rattle.shown_pages.proofs.NearestLemmas.{left_back, shown_back}
use Rattle.shown_pages.proofs.readers.nearest_shown.Given as goal

abbrev pub invariant-loop-at : goal.invariant-loop-at
invariant-loop-at l = shown_back l.mode l.at ≡ first_shown l.mode l.node.before

abbrev pub decreases-loop-at : goal.decreases-loop-at
decreases-loop-at l = left_back l.at
