use Rattle.std.proofs.Common.{◌≡◌, ◌+◌, List, get_or, set, length, map, ap, ◌∙◌, refl, arith}
use Rattle.std.proofs.lemmas.List.Edits.{map_over_more}
use Rattle.css_tokens.specs.declared.token.Range.{Range}
use Rattle.sheet_reader.specs.declared.sheet.Property.{Property}
use Rattle.sheet_reader.specs.Moves.{placed_property, IsPropertyWithin}
use Rattle.sheet_reader.proofs.MoveForms.{still_there, all_done}
use Rattle.sheet_reader.proofs.moves.raise_properties.Goals as goal

pub loop-property-preserved : goal.loop-property-preserved
loop-property-preserved c =
    let ys = c.loop-property.properties in
    let i = c.loop-property.property-index in
    let y = get_or ys i c.property-item.result in
    let a = c.raised-property.ensures in
    let b = c.raised-property-in-loop-property.ensures in
    (λ k. set ys i (record { name = y.name; value = a k; important = y.important; whole = b k }))
    ∙ map_over_more (placed_property (λ place. c.args.start + place)) c.args.properties.now ys i y
    c.loop-property-test.true c.loop-property.invariant (ap (λ (d : Property). get_or ys i d) c.property-item.is)

pub returns : goal.returns
returns c = all_done (placed_property (λ place. c.args.start + place)) c.args.properties.now
    c.loop-property.properties c.loop-property.property-index c.loop-property-test.false c.loop-property.invariant
