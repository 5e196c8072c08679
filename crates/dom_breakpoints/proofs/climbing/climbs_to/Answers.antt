use Rattle.std.proofs.Common.{◌==◌, sym, ◌∙◌}
use Rattle.std.proofs.lemmas.Bool.{ne_eqb}
use Rattle.page_tree.proofs.AncestorLemmas.{step_up}
use Rattle.dom_breakpoints.proofs.ClimbLemmas.{any_up, any_top, live_above, shorter}
use Rattle.dom_breakpoints.proofs.climbing.climbs_to.Goals as goal

pub returns-then-parent-eq0 : goal.returns-then-parent-eq0
returns-then-parent-eq0 c =
    let at = c.loop-at.at in
    let tree = c.args.page.now.tree in
    let up = step_up c.args.page.now c.valid.ensures at c.loop-at.invariant.live in
    sym (any_top at c.parent-parent.result tree up c.parent-parent.ensures (λ k. k == c.args.root)
    (ne_eqb at c.args.root c.loop-at-test.true) c.if-parent-eq0.true) ∙ c.loop-at.invariant.same

pub loop-at-smaller : goal.loop-at-smaller
loop-at-smaller c =
    let up = step_up c.args.page.now c.valid.ensures c.loop-at.at c.loop-at.invariant.live in
    shorter c.loop-at.at c.parent-parent.result c.args.page.now.tree up c.parent-parent.ensures c.if-parent-eq0.false

pub loop-at-preserved : goal.loop-at-preserved
loop-at-preserved c =
    let at = c.loop-at.at in
    let tree = c.args.page.now.tree in
    let up = step_up c.args.page.now c.valid.ensures at c.loop-at.invariant.live in
    record {
      live = live_above at c.parent-parent.result tree up c.parent-parent.ensures c.if-parent-eq0.false;
      same = sym (any_up at c.parent-parent.result tree up c.parent-parent.ensures (λ k. k == c.args.root)
          (ne_eqb at c.args.root c.loop-at-test.true) c.if-parent-eq0.false) ∙ c.loop-at.invariant.same;
    }
