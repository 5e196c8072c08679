use Rattle.std.proofs.Common.{sym, ◌∙◌, arith}
use Rattle.std.proofs.lemmas.Result.{err_from_is_err_and}
use Rattle.selectors.specs.Words.{next_word}
use Rattle.selectors.specs.Reading.{closing_at}
use Rattle.selectors.proofs.PartForms.{fails_too}
use Rattle.selectors.proofs.ListForms.{closing_over, closing_found, closing_lacks}
use Rattle.selectors.proofs.values.closing_at.Goals as goal

pub returns-in_err-word-clause-reads : goal.returns-in_err-word-clause-reads
returns-in_err-word-clause-reads c =
    let p = err_from_is_err_and c.from_residual.result c.from_residual.ensures.1 in
    rw (p.1, p.2) (fails_too c.in_err-word.field-0.0 (next_word c.loop-word.words) (closing_at c.args.words.now)
    (λ none. sym c.loop-word.invariant.rest ∙ closing_lacks c.loop-word.words none) c.in_err-word.ensures.reads)

pub returns-then-is_mark-clause-reads : goal.returns-then-is_mark-clause-reads
returns-then-is_mark-clause-reads c = sym c.loop-word.invariant.rest ∙ closing_found c.loop-word.words c.next.new.words c.in_ok-word.word
    c.in_ok-word.ensures.reads (sym c.is_mark.ensures ∙ c.if-is_mark.true)

pub loop-word-preserved : goal.loop-word-preserved
loop-word-preserved c = record {
  rest = closing_over c.loop-word.words c.next.new.words c.in_ok-word.word c.in_ok-word.ensures.reads
      (sym c.is_mark.ensures ∙ c.if-is_mark.false) ∙ c.loop-word.invariant.rest;
  shorter = omega (arith, c.in_ok-word.ensures.shorter, c.loop-word.invariant.shorter);
}
