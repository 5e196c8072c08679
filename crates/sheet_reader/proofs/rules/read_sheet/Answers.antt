use Rattle.std.proofs.Common.{All, None, [], sym, subst, ◌∙◌}
use Rattle.css_tokens.specs.Marks.{IsPieceOf}
use Rattle.sheet_reader.proofs.FrameForms.{front_read, none_left, read_ends}
use Rattle.sheet_reader.proofs.rules.read_sheet.Goals as goal

pub read_front-requires : goal.read_front-requires
read_front-requires c = subst (All (IsPieceOf c.args.text.now)) (sym c.as_slice.ensures.value) c.in_ok-pieces.ensures.each

pub returns-in_default : goal.returns-in_default
returns-in_default c =
    let front = c.read_front.new.sheet in
    let left = c.in_ok-left.left.now in
    sym (read_ends c.args.text.now front) ∙ none_left c.args.text.now None left front [] c.in_default.len_below
    ∙ front_read c.args.text.now c.as_slice.result.now left c.in_ok-sheet.sheet front
    (c.as_slice.ensures.value ∙ c.in_ok-pieces.ensures.pieces) c.in_ok-sheet.ensures c.in_ok-left.ensures.same

pub returns : goal.returns
returns c =
    c.in_ok-read_nested.ensures
    ∙ front_read c.args.text.now c.as_slice.result.now c.in_ok-left.left.now c.in_ok-sheet.sheet c.read_front.new.sheet
    (c.as_slice.ensures.value ∙ c.in_ok-pieces.ensures.pieces) c.in_ok-sheet.ensures c.in_ok-left.ensures.same
