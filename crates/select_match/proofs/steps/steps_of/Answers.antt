-- One selector after the other.
use Rattle.std.proofs.Common.{map}
use Rattle.selectors.specs.Forms.{selector_seen}
use Rattle.selectors.specs.Lists.{list_seen}
use Rattle.select_match.specs.Steps.{step_seen, steps_of}
use Rattle.select_match.proofs.StepLemmas.{steps-at}
use Rattle.select_match.proofs.steps.steps_of.Goals as goal

pub loop-i-preserved : goal.loop-i-preserved
loop-i-preserved c = steps-at (list_seen c.args.l.now) c.loop-i.i (selector_seen c.at.result.now) c.at.ensures
    (map step_seen c.loop-i.steps.items) (map step_seen c.add_selector.new.steps.items) (steps_of (list_seen c.args.l.now))
    c.loop-i.invariant (c.in_ok-add_selector.ensures {u = tt})
