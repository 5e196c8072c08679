use Rattle.std.proofs.Common.{◌≡◌, ◌<◌, All, length, subst, sym, ◌∙◌, arith}
use Rattle.std.specs.Prelude.{IfOk}
use Rattle.std.proofs.lemmas.Bool.Decides.{nat_tests}
use Rattle.std.proofs.lemmas.List.Elements.{All-drop}
use Rattle.css_tokens.specs.Marks.{IsPieceOf}
use Rattle.sheet_reader.specs.declared.lone.LoneRule.{LoneRule}
use Rattle.sheet_reader.specs.Lone.{is_blank_piece}
use Rattle.sheet_reader.specs.Seen.{part_seen}
use Rattle.sheet_reader.specs.declared.parts.Level.TheVariants.{Top}
use Rattle.sheet_reader.proofs.SheetLemmas.{part_all, part_fits}
use Rattle.sheet_reader.proofs.LoneForms.{lone_none, lone_many, lone_one}
use Rattle.std.specs.List.{prefix_len}
use Rattle.sheet_reader.proofs.lone.lone_rule.Goals as goal

pub returns-in_default : goal.returns-in_default
returns-in_default c = lone_none c.args.text.now c.as_slice.result.now c.skip_blank-left.result.now
    (c.as_slice.ensures.value ∙ c.in_ok-pieces.ensures.pieces) c.skip_blank-left.ensures c.in_default.len_below

pub behind-requires : goal.behind-requires
behind-requires c =
    let fits = part_fits Top c.skip_blank-left.result.now _ (part_seen c.in_ok-part.part)
    (omega (arith, c.in-len1-up.len_at_least)) c.in_ok-part.ensures in
    omega (arith, fits, c.part_len.ensures)

pub returns-then-not-is_empty : goal.returns-then-not-is_empty
returns-then-not-is_empty c =
    let others : 0 < length c.skip_blank-rest.result.now = grind (arith, nat_tests, c.if-not-is_empty.ensures) in
    lone_many c.args.text.now c.as_slice.result.now c.skip_blank-left.result.now c.skip_blank-rest.result.now _
    (part_seen c.in_ok-part.part) c.part_len.result (c.as_slice.ensures.value ∙ c.in_ok-pieces.ensures.pieces) c.skip_blank-left.ensures
    (omega (arith, c.in-len1-up.len_at_least)) c.in_ok-part.ensures c.part_len.ensures
    (rw (sym c.behind.ensures) c.skip_blank-rest.ensures) others

pub lone_by-requires : goal.lone_by-requires
lone_by-requires c =
    let ts = c.as_slice.result.now in
    let all : All (IsPieceOf c.args.text.now) ts = subst (All (IsPieceOf c.args.text.now))
    (sym c.as_slice.ensures.value) c.in_ok-pieces.ensures.each in
    part_all Top (IsPieceOf c.args.text.now) c.skip_blank-left.result.now _ (part_seen c.in_ok-part.part)
    (omega (arith, c.in-len1-up.len_at_least)) c.in_ok-part.ensures
    (subst (All (IsPieceOf c.args.text.now)) (sym c.skip_blank-left.ensures)
    (All-drop (IsPieceOf c.args.text.now) (prefix_len is_blank_piece ts) ts all))

pub returns : goal.returns
returns c =
    let none : length c.skip_blank-rest.result.now < 1 = grind (arith, nat_tests, c.if-not-is_empty.ensures) in
    subst (λ (x : LoneRule). IfOk c.lone_by.result (λ r. r ≡ x))
    (lone_one c.args.text.now c.as_slice.result.now c.skip_blank-left.result.now c.skip_blank-rest.result.now _
    (part_seen c.in_ok-part.part) c.part_len.result (c.as_slice.ensures.value ∙ c.in_ok-pieces.ensures.pieces) c.skip_blank-left.ensures
    (omega (arith, c.in-len1-up.len_at_least)) c.in_ok-part.ensures c.part_len.ensures
    (rw (sym c.behind.ensures) c.skip_blank-rest.ensures) none)
    c.lone_by.ensures
