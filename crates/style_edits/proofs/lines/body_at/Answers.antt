use Rattle.std.proofs.Common.{◌∙◌}
use Rattle.style_edits.proofs.LineForms.{NoneThere, body_found, body_none, body_range}
use Rattle.style_edits.proofs.SheetOrder.{bodies_in_order}
use Rattle.style_edits.proofs.lines.body_at.Goals as goal

pub returns-in_default-clause-value : goal.returns-in_default-clause-value
unfolding NoneThere
returns-in_default-clause-value c = body_none c.args.entry.now c.args.lines c.in_default.ensures.text c.in_default.ensures.none

pub body_among-requires : goal.body_among-requires
body_among-requires c =
    bodies_in_order c.args.entry.now c.as_slice.result.now c.requires c.in-Some.ensures.text c.as_slice.ensures

pub returns-clause-value : goal.returns-clause-value
returns-clause-value c =
    c.body_among.ensures ∙ body_found c.args.entry.now c.args.lines c.in-Some.wanted c.as_slice.result.now c.requires
    c.in-Some.ensures.text c.in-Some.ensures.there c.as_slice.ensures

pub returns-clause-range : goal.returns-clause-range
returns-clause-range c =
    body_range c.args.entry.now c.args.lines c.body_among.result c.in-Some.ensures.text
    (c.body_among.ensures ∙ body_found c.args.entry.now c.args.lines c.in-Some.wanted c.as_slice.result.now c.requires
    c.in-Some.ensures.text c.in-Some.ensures.there c.as_slice.ensures)
