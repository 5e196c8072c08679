use Rattle.std.proofs.Common.{◌≡◌, ℕ, ◌+◌, ◌<◌, ◌≤◌, ◌⊎◌, inl, inr, true, List, length, get_or, ap, ◌∙◌, below_more, arith}
use Rattle.std.proofs.lemmas.Bool.{cases_lt}
use Rattle.std.specs.Str.{IsCharBoundary}
use Rattle.sheet_reader.specs.declared.place.Position.{Position}
use Rattle.sheet_reader.specs.Marks.{is_before}
use Rattle.sheet_reader.specs.Positions.{position_of, behind_byte}
use Rattle.sheet_reader.proofs.PositionLemmas.{behind_more, line_within, column_within}
use Rattle.sheet_reader.proofs.MarkForms.{none_before_front, none_from}
use Rattle.sheet_reader.proofs.marks.byte_from.Goals.{then-loop-byte-test+else-not-is_before, else-loop-byte-test}
use Rattle.sheet_reader.proofs.marks.byte_from.Goals as goal

pub loop-byte-init : goal.loop-byte-init
loop-byte-init c =
    let long = ap (λ (x : List ℕ). length x) c.as_bytes-bytes.ensures.value in
    let inside = c.requires.from.inside in
    record {
      within = omega (arith, long, inside);
      place = c.requires.from.place;
      none_before = λ k below edge there.
          none_before_front c.args.text.now c.args.from c.args.wanted c.requires.from c.requires.front k below there;
    }

pub behind_byte-place-requires-clause-line : goal.behind_byte-place-requires-clause-line
behind_byte-place-requires-clause-line c =
    let small = line_within c.args.text.now c.loop-byte.byte c.loop-byte.place c.loop-byte.invariant.place in
    omega (arith, small)

pub behind_byte-place-requires-clause-column : goal.behind_byte-place-requires-clause-column
behind_byte-place-requires-clause-column c =
    let small = column_within c.args.text.now c.loop-byte.byte c.loop-byte.place c.loop-byte.invariant.place in
    omega (arith, small)

pub loop-byte-preserved : goal.loop-byte-preserved
loop-byte-preserved c =
    let text = c.args.text.now in
    let l = c.loop-byte in
    let value = c.as_bytes-bytes.ensures.value in
    let long = ap (λ (x : List ℕ). length x) value in
    let here = ap (λ (x : List ℕ). get_or x l.byte 0) value in
    record {
      within = omega arith;
      place = behind_more text l.byte 0 l.place c.behind_byte-place.result (omega (arith, long)) l.invariant.place
          (c.behind_byte-place.ensures ∙ ap (behind_byte l.place) here);
      none_before = below_more (λ k. IsCharBoundary text k → position_of text k ≡ c.args.wanted → ⊥) l.byte l.invariant.none_before
          (λ edge at. c.is_there.ensures.no c.if-is_there.false edge (l.invariant.place ∙ at));
    }

pub returns-else-is_there-2-clause-no_place : goal.returns-else-is_there-2-clause-no_place
returns-else-is_there-2-clause-no_place c =
    let text = c.args.text.now in
    let l = c.loop-byte in
    let long = ap (λ (x : List ℕ). length x) c.as_bytes-bytes.ensures.value in
    let ends : (is_before c.args.wanted l.place ≡ true) ⊎ (length text ≤ l.byte) =
    elim c.loop-byte-test.branch [
      | then-loop-byte-test+else-not-is_before w ↦ inl (grind (arith, w.is_before.ensures, w.if-not-is_before))
      | else-loop-byte-test w ↦ inr (omega (arith, long, w.loop-byte-test.false))
    ] in
    none_from text l.byte l.place c.args.wanted l.invariant.place l.invariant.none_before ends
    (c.is_there-2.ensures.no c.if-is_there-2.false)
