-- One step after the other.
use Rattle.std.proofs.Common.{get_or, false, refl}
use Rattle.select_match.specs.declared.steps.Around.{Around}
use Rattle.select_match.proofs.StepLemmas.{visiting-at, around-length}
use Rattle.select_match.proofs.steps.visit.Goals as goal

pub loop-i-preserved : goal.loop-i-preserved
loop-i-preserved c =
    let e : Around = record { above = false; parent = false; previous = false; earlier = false } in
    visiting-at c.args.node.now c.args.steps.now c.args.around.now c.loop-i.i c.index-steps-i.result e c.loop-i.left c.loop-i.found
    c.loop-i.beside.items c.args.beside.now.items c.loop-i.inside.items c.args.inside.now.items c.loop-i-test.true
    (around-length c.args.node.now c.args.steps.now c.args.around.now c.requires.around) c.loop-i.invariant c.index-steps-i.result
    c.index-steps-i.is (get_or c.args.around.now c.loop-i.i e) refl c.step_holds-holds.result c.is_element-element.result
    c.step_holds-holds.ensures c.is_element-element.ensures c.left_after-left.result c.left_after-left.ensures
    c.found_if-found.result c.found_if-found.ensures c.passed.result c.passed.ensures c.entered.result c.entered.ensures
    c.push.new.self.items (c.in_ok-push.ensures.items) c.push-in-loop-i.new.self.items (c.in_ok-push-2.ensures.items)
