use Rattle.std.proofs.Common.{get_or, set, ap, ◌∙◌}
use Rattle.std.proofs.lemmas.List.Edits.{map_over_more}
use Rattle.sheet_reader.specs.declared.sheet.Property.{Property}
use Rattle.selectors.specs.Moves.{cut, moved_place}
use Rattle.sheet_reader.specs.Moves.{placed_property, CanPlaceProperty}
use Rattle.sheet_reader.proofs.MoveForms.{still_there, all_done}
use Rattle.sheet_reader.proofs.moves.move_properties.Goals as goal

pub move_range-property-requires : goal.move_range-property-requires
move_range-property-requires c =
    let h = still_there (CanPlaceProperty (cut c.args.gap.start c.args.gap.end c.args.gap.size))
    (placed_property (moved_place (cut c.args.gap.start c.args.gap.end c.args.gap.size))) c.args.properties.now c.loop-property.properties
    c.loop-property.property-index c.property-item.result c.loop-property-test.true c.loop-property.invariant c.requires in
    h.value

pub move_range-property-requires-in-loop-property : goal.move_range-property-requires-in-loop-property
move_range-property-requires-in-loop-property c =
    let h = still_there (CanPlaceProperty (cut c.args.gap.start c.args.gap.end c.args.gap.size))
    (placed_property (moved_place (cut c.args.gap.start c.args.gap.end c.args.gap.size))) c.args.properties.now c.loop-property.properties
    c.loop-property.property-index c.property-item.result c.loop-property-test.true c.loop-property.invariant c.requires in
    h.whole

pub loop-property-preserved : goal.loop-property-preserved
loop-property-preserved c =
    let ys = c.loop-property.properties in
    let i = c.loop-property.property-index in
    let y = get_or ys i c.property-item.result in
    let a = c.move_range-property.ensures.moved in
    let b = c.move_range-property-in-loop-property.ensures.moved in
    (λ k. set ys i (record { name = y.name; value = a k; important = y.important; whole = b k }))
    ∙ map_over_more (placed_property (moved_place (cut c.args.gap.start c.args.gap.end c.args.gap.size))) c.args.properties.now ys i y
    c.loop-property-test.true c.loop-property.invariant (ap (λ (d : Property). get_or ys i d) c.property-item.is)

pub returns : goal.returns
returns c = all_done (placed_property (moved_place (cut c.args.gap.start c.args.gap.end c.args.gap.size))) c.args.properties.now
    c.loop-property.properties c.loop-property.property-index c.loop-property-test.false c.loop-property.invariant
