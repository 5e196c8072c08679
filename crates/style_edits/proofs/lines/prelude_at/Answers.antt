use Rattle.std.proofs.Common.{◌∙◌}
use Rattle.style_edits.proofs.LineForms.{NoneThere, prelude_found, prelude_none, prelude_range}
use Rattle.style_edits.proofs.SheetOrder.{preludes_in_order}
use Rattle.style_edits.proofs.lines.prelude_at.Goals as goal

pub returns-in_default-clause-value : goal.returns-in_default-clause-value
unfolding NoneThere
returns-in_default-clause-value c = prelude_none c.args.entry.now c.args.lines c.in_default.ensures.text c.in_default.ensures.none

pub prelude_among-requires : goal.prelude_among-requires
prelude_among-requires c =
    preludes_in_order c.args.entry.now c.as_slice.result.now c.requires c.in-Some.ensures.text c.as_slice.ensures

pub returns-clause-value : goal.returns-clause-value
returns-clause-value c =
    c.prelude_among.ensures ∙ prelude_found c.args.entry.now c.args.lines c.in-Some.wanted c.as_slice.result.now c.requires
    c.in-Some.ensures.text c.in-Some.ensures.there c.as_slice.ensures

pub returns-clause-range : goal.returns-clause-range
returns-clause-range c =
    prelude_range c.args.entry.now c.args.lines c.prelude_among.result c.in-Some.ensures.text
    (c.prelude_among.ensures ∙ prelude_found c.args.entry.now c.args.lines c.in-Some.wanted c.as_slice.result.now c.requires
    c.in-Some.ensures.text c.in-Some.ensures.there c.as_slice.ensures)
