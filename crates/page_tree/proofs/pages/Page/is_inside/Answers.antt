-- One step up.
use Rattle.std.proofs.Common.{◌==◌, sym, ap, ◌∙◌}
use Rattle.std.proofs.lemmas.Bool.{ne_eqb, eq-eqb}
use Rattle.page_tree.proofs.AncestorLemmas.{step_up}
use Rattle.page_tree.proofs.FaultLemmas.{any_up, any_top, any_here, live_above, shorter_above, inside_line}
use Rattle.page_tree.proofs.pages.Page.is_inside.Goals as goal

pub returns-then-parent-eq0 : goal.returns-then-parent-eq0
returns-then-parent-eq0 c =
    let at = c.loop-at.at in
    let tree = c.args.self.now.tree in
    let up = step_up c.args.self.now c.valid.ensures at c.loop-at.invariant.live in
    sym (any_top at c.parent-parent.result tree up c.parent-parent.ensures (λ k. k == c.args.other)
    (ne_eqb at c.args.other c.loop-at-test.true) c.if-parent-eq0.true) ∙ c.loop-at.invariant.same
    ∙ inside_line c.args.self.now c.valid.ensures c.args.other c.requires.other c.args.serial c.requires.live

pub loop-at-smaller : goal.loop-at-smaller
loop-at-smaller c =
    let up = step_up c.args.self.now c.valid.ensures c.loop-at.at c.loop-at.invariant.live in
    shorter_above c.loop-at.at c.parent-parent.result c.args.self.now.tree up c.parent-parent.ensures c.if-parent-eq0.false

pub loop-at-preserved : goal.loop-at-preserved
loop-at-preserved c =
    let at = c.loop-at.at in
    let tree = c.args.self.now.tree in
    let up = step_up c.args.self.now c.valid.ensures at c.loop-at.invariant.live in
    record {
      live = live_above at c.parent-parent.result tree up c.parent-parent.ensures c.if-parent-eq0.false;
      same = sym (any_up at c.parent-parent.result tree up c.parent-parent.ensures (λ k. k == c.args.other)
          (ne_eqb at c.args.other c.loop-at-test.true) c.if-parent-eq0.false) ∙ c.loop-at.invariant.same;
    }

pub returns : goal.returns
returns c =
    any_here c.loop-at.at c.args.self.now.tree c.args.other c.loop-at-test.false ∙ c.loop-at.invariant.same
    ∙ inside_line c.args.self.now c.valid.ensures c.args.other c.requires.other c.args.serial c.requires.live
