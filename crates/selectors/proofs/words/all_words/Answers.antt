use Rattle.std.proofs.Common.{sym, subst, ◌∙◌}
use Rattle.std.specs.List.{AllByRecursion}
use Rattle.selectors.specs.Words.{IsWordOf}
use Rattle.selectors.proofs.WordTurns.{skip, add, all_push, ended}
use Rattle.selectors.proofs.words.all_words.Goals as goal

pub loop-token-preserved-in-Some-passed : goal.loop-token-preserved-in-Some-passed
loop-token-preserved-in-Some-passed c = record {
  text = c.next.ensures.same_text ∙ c.loop-token.invariant.text;
  so_far = skip c.args.text.now c.loop-token.spaced c.in-Some-passed.after c.in-Some.token c.loop-token.tokens.left c.next.new.self.left
      c.loop-token.words.items _ c.in-Some.ensures.first (sym c.in-Some-passed.ensures) c.loop-token.invariant.so_far;
  each = c.loop-token.invariant.each;
}

pub loop-token-preserved : goal.loop-token-preserved
loop-token-preserved c = record {
  text = c.next.ensures.same_text ∙ c.loop-token.invariant.text;
  so_far = add c.args.text.now c.loop-token.spaced c.in-Some.token c.loop-token.tokens.left c.next.new.self.left c.loop-token.words.items
      c.push.new.self.items _ c.word_at.result c.in-Some.ensures.first
      (sym c.in_default-passed.ensures) c.in_ok-push.ensures.items c.word_at.ensures.value c.loop-token.invariant.so_far;
  each = subst (AllByRecursion (IsWordOf c.args.text.now)) (sym c.in_ok-push.ensures.items)
      (all_push (IsWordOf c.args.text.now) c.loop-token.words.items c.word_at.result c.loop-token.invariant.each c.word_at.ensures.cut);
}

pub returns-clause-words : goal.returns-clause-words
returns-clause-words c = ended c.args.text.now c.loop-token.spaced c.loop-token.tokens.left c.loop-token.words.items _
    c.in_default.ensures.first.0 c.loop-token.invariant.so_far
