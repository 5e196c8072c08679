use Rattle.std.proofs.Common.{sym, ◌∙◌}
use Rattle.std.specs.FinSet as set
use Rattle.page_tree.proofs.AncestorLemmas.{step_up}
use Rattle.dom_breakpoints.proofs.ClimbLemmas.{find_up, find_top, live_above, shorter}
use Rattle.dom_breakpoints.proofs.climbing.nearest_from.Goals as goal

pub returns-then-parent-eq0 : goal.returns-then-parent-eq0
returns-then-parent-eq0 c =
    let at = c.loop-parent.at in
    let tree = c.args.page.now.tree in
    let up = step_up c.args.page.now c.valid.ensures at c.loop-parent.invariant.live in
    sym (find_top at c.parent-parent.result tree up c.parent-parent.ensures (set.contains c.args.serials.now)
    (sym c.loop-parent-test.ensures) c.if-parent-eq0.true) ∙ c.loop-parent.invariant.same

pub loop-parent-smaller : goal.loop-parent-smaller
loop-parent-smaller c =
    let up = step_up c.args.page.now c.valid.ensures c.loop-parent.at c.loop-parent.invariant.live in
    shorter c.loop-parent.at c.parent-parent.result c.args.page.now.tree up c.parent-parent.ensures c.if-parent-eq0.false

pub loop-parent-preserved : goal.loop-parent-preserved
loop-parent-preserved c =
    let at = c.loop-parent.at in
    let tree = c.args.page.now.tree in
    let up = step_up c.args.page.now c.valid.ensures at c.loop-parent.invariant.live in
    record {
      live = live_above at c.parent-parent.result tree up c.parent-parent.ensures c.if-parent-eq0.false;
      same = sym (find_up at c.parent-parent.result tree up c.parent-parent.ensures (set.contains c.args.serials.now)
          (sym c.loop-parent-test.ensures) c.if-parent-eq0.false) ∙ c.loop-parent.invariant.same;
    }
