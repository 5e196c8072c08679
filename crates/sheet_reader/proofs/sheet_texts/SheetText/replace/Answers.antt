use Rattle.std.proofs.Common.{◌≡◌, ◌+◌, ◌∙◌, refl, sym, subst, length, take, drop, append_assoc}
use Rattle.std.specs.Prelude.{string_bytes}
use Rattle.selectors.specs.Ranges.{IsRangeOf}
use Rattle.sheet_reader.specs.Marks.{IsMark}
use Rattle.sheet_reader.specs.Moves.{replaced}
use Rattle.sheet_reader.proofs.MarkMoves.{behind_replaced}
use Rattle.sheet_reader.proofs.sheet_texts.SheetText.replace.Goals as goal

pub edited_marks-requires-clause-behind : goal.edited_marks-requires-clause-behind
edited_marks-requires-clause-behind c =
    let text = string_bytes c.self.inside.text in
    let part = c.args.part in
    let put = c.args.put.now in
    let new = c.as_str-text.result.now in
    let is : new ≡ replaced text part put = c.as_str-text.ensures.value ∙ c.in_ok-replace_range.ensures.bytes
    ∙ append_assoc (take part.start text) put (drop part.end text) in
    behind_replaced text put new part c.self.inside.marks.items c.mark_at-from.result
    (record { byte = c.args.part.start + length c.args.put.now; place = c.position_from.result }) is
    (subst (λ t. IsRangeOf t part) (sym c.self.view_is) c.requires) c.self.invariant
    (subst (λ t. IsMark t c.mark_at-from.result) c.as_str-2.ensures.value c.mark_at-from.ensures.mark) c.mark_at-from.ensures.byte refl
    c.position_from.ensures
