-- The empty text is no word; another one is sought among the pieces.
use Rattle.std.proofs.Common.{sym, ◌∙◌}
use Rattle.select_match.proofs.TextLemmas.{some_word, no_word}
use Rattle.select_match.proofs.texts.has_word.Goals as goal

pub returns-then-not-is_empty : goal.returns-then-not-is_empty
returns-then-not-is_empty c =
    rw (c.is_among.ensures, c.as_bytes.ensures.value, c.as_bytes-then-not-is_empty.ensures.value)
    (some_word c.args.word.now c.args.text.now (sym c.is_empty.ensures ∙ c.if-not-is_empty.true))

pub returns-else-not-is_empty : goal.returns-else-not-is_empty
returns-else-not-is_empty c = rw c.if-not-is_empty.false
    (no_word c.args.word.now c.args.text.now (sym c.is_empty.ensures ∙ c.if-not-is_empty.false))
