use Rattle.std.proofs.Common.{sym, ◌∙◌}
use Rattle.page_tree.proofs.AncestorLemmas.{within_line, within_absent}
use Rattle.dom_breakpoints.proofs.climbing.is_within.Goals as goal

pub returns-then-live : goal.returns-then-live
returns-then-live c = c.climbs_to.ensures ∙ within_line c.args.page.now c.valid.ensures c.args.root c.requires c.args.serial
    (sym c.if-live.ensures)

pub returns-else-live : goal.returns-else-live
returns-else-live c = sym (within_absent c.args.page.now c.valid.ensures c.args.root c.requires c.args.serial (sym c.if-live.ensures))
