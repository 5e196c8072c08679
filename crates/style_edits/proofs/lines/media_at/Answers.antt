use Rattle.std.proofs.Common.{◌∙◌}
use Rattle.style_edits.proofs.LineForms.{NoneThere, media_found, media_none, media_range}
use Rattle.style_edits.proofs.SheetOrder.{media_in_order}
use Rattle.style_edits.proofs.lines.media_at.Goals as goal

pub returns-in_default-clause-value : goal.returns-in_default-clause-value
unfolding NoneThere
returns-in_default-clause-value c = media_none c.args.entry.now c.args.lines c.in_default.ensures.text c.in_default.ensures.none

pub media_among-requires : goal.media_among-requires
media_among-requires c =
    media_in_order c.args.entry.now c.as_slice.result.now c.requires c.in-Some.ensures.text c.as_slice.ensures

pub returns-clause-value : goal.returns-clause-value
returns-clause-value c =
    c.media_among.ensures ∙ media_found c.args.entry.now c.args.lines c.in-Some.wanted c.as_slice.result.now c.requires
    c.in-Some.ensures.text c.in-Some.ensures.there c.as_slice.ensures

pub returns-clause-range : goal.returns-clause-range
returns-clause-range c =
    media_range c.args.entry.now c.args.lines c.media_among.result c.in-Some.ensures.text
    (c.media_among.ensures ∙ media_found c.args.entry.now c.args.lines c.in-Some.wanted c.as_slice.result.now c.requires
    c.in-Some.ensures.text c.in-Some.ensures.there c.as_slice.ensures)
