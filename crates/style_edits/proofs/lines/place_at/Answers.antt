use Rattle.std.proofs.Common.{◌∙◌}
use Rattle.style_edits.proofs.LineForms.{NoneThere, place_found, place_none, place_range}
use Rattle.style_edits.proofs.SheetOrder.{places_in_order}
use Rattle.style_edits.proofs.lines.place_at.Goals as goal

pub returns-in_default-clause-value : goal.returns-in_default-clause-value
unfolding NoneThere
returns-in_default-clause-value c = place_none c.args.entry.now c.args.lines c.in_default.ensures.text c.in_default.ensures.none

pub place_among-requires : goal.place_among-requires
place_among-requires c =
    places_in_order c.args.entry.now c.as_slice.result.now c.requires c.in-Some.ensures.text c.as_slice.ensures

pub returns-clause-value : goal.returns-clause-value
returns-clause-value c =
    c.place_among.ensures ∙ place_found c.args.entry.now c.args.lines c.in-Some.wanted c.as_slice.result.now c.requires
    c.in-Some.ensures.text c.in-Some.ensures.there c.as_slice.ensures

pub returns-clause-range : goal.returns-clause-range
returns-clause-range c =
    place_range c.args.entry.now c.args.lines c.place_among.result c.in-Some.ensures.text
    (c.place_among.ensures ∙ place_found c.args.entry.now c.args.lines c.in-Some.wanted c.as_slice.result.now c.requires
    c.in-Some.ensures.text c.in-Some.ensures.there c.as_slice.ensures)
