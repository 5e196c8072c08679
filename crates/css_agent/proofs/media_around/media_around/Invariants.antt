-- Those that are found and those that are left make up all of them, and the next one is there.
use Rattle.std.proofs.Common.{◌≡◌, ◌++◌, length}
use Rattle.sheet_reader.specs.Around.{IsBelow}
use Rattle.css_agent.specs.MediaAround.{media_around}
use Rattle.css_agent.proofs.AroundLemmas.{up_to}
use Rattle.css_agent.proofs.media_around.media_around.Given as goal

abbrev pub invariant-loop-at : goal.invariant-loop-at
invariant-loop-at l = record {
  found : l.found.items ++ media_around l.media l.at ≡ media_around l.media l.fn.around;
  there : IsBelow (length l.media) l.at;
}

abbrev pub decreases-loop-at : goal.decreases-loop-at
decreases-loop-at l = up_to l.at
