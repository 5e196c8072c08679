use Rattle.std.proofs.Common.{◌≡◌, ◌<◌, ◌==◌, ℕ, List, All, false, true, length, sym, ap, subst, ◌∙◌, arith}
use Rattle.std.proofs.lemmas.List.Elements.{All-drop}
use Rattle.std.proofs.lemmas.Bool.Decides.{nat_tests, Decides-eqb}
use Rattle.css_tokens.proofs.SpellForms.{skip_line, letter_more, letter_missed, word_over, name_over, some_length, no_length}
use Rattle.css_tokens.proofs.spelling.spells.Goals as goal

pub name-preserved-then-begins_line : goal.name-preserved-then-begins_line
name-preserved-then-begins_line c = record {
  same = skip_line c.args.name.now c.args.word.now c.name.rest.now c.name.left.now c.behind-rest.result.now c.line_len.result
      (sym c.begins_line.ensures ∙ c.if-begins_line.true) c.line_len.ensures.value c.behind-rest.ensures c.name.invariant.same;
  low = c.name.invariant.low;
}

pub returns-then-is_empty : goal.returns-then-is_empty
returns-then-is_empty c =
    word_over c.args.name.now c.args.word.now c.name.rest.now c.name.left.now
    (some_length c.name.rest.now (sym c.is_empty.ensures ∙ c.name-test.true))
    (no_length c.name.left.now (sym c.is_empty-in-name.ensures ∙ c.if-is_empty.true))
    (sym c.begins_line.ensures ∙ c.if-begins_line.false) c.name.invariant.same

pub returns-then-n-eq0 : goal.returns-then-n-eq0
returns-then-n-eq0 c =
    letter_missed c.args.name.now c.args.word.now c.name.rest.now c.name.left.now _ c.letter_len-n.result
    (some_length c.name.rest.now (sym c.is_empty.ensures ∙ c.name-test.true))
    (some_length c.name.left.now (sym c.is_empty-in-name.ensures ∙ c.if-is_empty.false))
    (sym c.begins_line.ensures ∙ c.if-begins_line.false) c.name.invariant.low c.letter_len-n.ensures.value c.if-n-eq0.true
    c.name.invariant.same

pub name-preserved : goal.name-preserved
name-preserved c = record {
  same = letter_more c.args.name.now c.args.word.now c.name.rest.now c.name.left.now c.behind-rest-in-name.result.now
      c.behind-left.result.now _ c.letter_len-n.result
      (some_length c.name.rest.now (sym c.is_empty.ensures ∙ c.name-test.true))
      (some_length c.name.left.now (sym c.is_empty-in-name.ensures ∙ c.if-is_empty.false))
      (sym c.begins_line.ensures ∙ c.if-begins_line.false) c.name.invariant.low c.letter_len-n.ensures.value c.if-n-eq0.false
      c.behind-rest-in-name.ensures c.behind-left.ensures c.name.invariant.same;
  low = subst (All (λ c. c < 123)) (sym c.behind-left.ensures) (All-drop (λ c. c < 123) 1 c.name.left.now c.name.invariant.low);
}

pub returns : goal.returns
returns c =
    name_over c.args.name.now c.args.word.now c.name.rest.now c.name.left.now c.is_empty-2.result
    (no_length c.name.rest.now (sym c.is_empty.ensures ∙ c.name-test.false)) c.name.invariant.same
    (λ e. c.is_empty-2.ensures ∙ (Decides-eqb (length c.name.left.now) 0).1 e)
    (λ e. (Decides-eqb (length c.name.left.now) 0).0 (sym c.is_empty-2.ensures ∙ e))
