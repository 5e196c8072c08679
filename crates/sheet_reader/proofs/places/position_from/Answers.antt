use Rattle.std.proofs.Common.{◌<◌, length, get_or, List, ℕ, ap, ◌∙◌, arith}
use Rattle.sheet_reader.specs.Positions.{behind_byte}
use Rattle.sheet_reader.proofs.PositionLemmas.{behind_more, line_within, column_within}
use Rattle.sheet_reader.proofs.places.position_from.Goals as goal

pub behind_byte-place-requires-clause-line : goal.behind_byte-place-requires-clause-line
behind_byte-place-requires-clause-line c = let small = line_within c.args.text.now c.loop-i.i c.loop-i.place c.loop-i.invariant in omega
    (arith, small)

pub behind_byte-place-requires-clause-column : goal.behind_byte-place-requires-clause-column
behind_byte-place-requires-clause-column c = let small = column_within c.args.text.now c.loop-i.i c.loop-i.place c.loop-i.invariant in
    omega (arith, small)

pub loop-i-preserved : goal.loop-i-preserved
loop-i-preserved c =
    let inside : c.loop-i.i < length c.args.text.now = omega arith in
    let element = ap (λ (x : List ℕ). get_or x c.loop-i.i 0) c.as_bytes-bytes.ensures.value in
    behind_more c.args.text.now c.loop-i.i 0 c.loop-i.place c.behind_byte-place.result inside c.loop-i.invariant
    (c.behind_byte-place.ensures ∙ ap (behind_byte c.loop-i.place) element)
