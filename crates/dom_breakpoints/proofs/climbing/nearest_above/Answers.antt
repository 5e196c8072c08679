use Rattle.std.proofs.Common.{sym, ap, ◌∙◌}
use Rattle.std.specs.Prelude.{find}
use Rattle.std.specs.FinSet as set
use Rattle.page_tree.proofs.AncestorLemmas.{step_up}
use Rattle.dom_breakpoints.proofs.ClimbLemmas.{above_is, none_above, live_above}
use Rattle.dom_breakpoints.proofs.climbing.nearest_above.Goals as goal

pub returns-then-parent-eq0 : goal.returns-then-parent-eq0
returns-then-parent-eq0 c =
    let up = step_up c.args.page.now c.valid.ensures c.args.serial c.requires in
    sym (ap (find (set.contains c.args.serials.now))
    (none_above c.args.serial c.parent-parent.result c.args.page.now.tree up c.parent-parent.ensures c.if-parent-eq0.true))

pub nearest_from-requires : goal.nearest_from-requires
nearest_from-requires c =
    let up = step_up c.args.page.now c.valid.ensures c.args.serial c.requires in
    live_above c.args.serial c.parent-parent.result c.args.page.now.tree up c.parent-parent.ensures c.if-parent-eq0.false

pub returns : goal.returns
returns c =
    let up = step_up c.args.page.now c.valid.ensures c.args.serial c.requires in
    c.nearest_from.ensures ∙ sym (ap (find (set.contains c.args.serials.now))
    (above_is c.args.serial c.parent-parent.result c.args.page.now.tree up c.parent-parent.ensures c.if-parent-eq0.false))
