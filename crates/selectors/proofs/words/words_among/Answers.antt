use Rattle.std.proofs.Common.{◌≡◌, ◌∷◌, ◌+◌, ℕ, ◌<◌, List, drop, get_or, length, sym, ap, subst, ◌∙◌, add-one, arith}
use Rattle.std.specs.List.{AllByRecursion}
use Rattle.std.proofs.Math.Seq.{drop-cons}
use Rattle.std.proofs.lemmas.List.{drop_all}
use Rattle.css_tokens.specs.declared.token.Token.{Token}
use Rattle.selectors.specs.Words.{IsWordOf}
use Rattle.selectors.proofs.WordTurns.{skip, add, all_push, ended}
use Rattle.selectors.proofs.words.words_among.Goals as goal

-- the piece at a place, and those behind it
cut_at : (ts : List Token) (i : ℕ) (d : Token) → i < length ts → drop i ts ≡ get_or ts i d ∷ drop (i + 1) ts
cut_at ts i d inside = drop-cons ts i d inside ∙ ap (λ (k : ℕ). get_or ts i d ∷ drop k ts) (sym (add-one i))

pub loop-piece-preserved-in-Some : goal.loop-piece-preserved-in-Some
loop-piece-preserved-in-Some c =
    let ts = c.args.pieces.now in
    let i = c.loop-piece.piece-index in
    record {
      so_far = skip c.args.text.now c.loop-piece.spaced c.in-Some.after _ (drop i ts) (drop (i + 1) ts) c.loop-piece.words.items _
          (cut_at ts i _ (omega arith)) (sym c.in-Some.ensures) c.loop-piece.invariant.so_far;
      each = c.loop-piece.invariant.each;
    }

pub loop-piece-preserved : goal.loop-piece-preserved
loop-piece-preserved c =
    let ts = c.args.pieces.now in
    let i = c.loop-piece.piece-index in
    record {
      so_far = add c.args.text.now c.loop-piece.spaced _ (drop i ts)
          (drop (i + 1) ts) c.loop-piece.words.items c.push.new.self.items _ c.word_at.result (cut_at ts i _ (omega arith))
          (sym c.in_default.ensures) c.in_ok-push.ensures.items c.word_at.ensures.value c.loop-piece.invariant.so_far;
      each = subst (AllByRecursion (IsWordOf c.args.text.now)) (sym c.in_ok-push.ensures.items)
          (all_push (IsWordOf c.args.text.now) c.loop-piece.words.items c.word_at.result c.loop-piece.invariant.each c.word_at.ensures.cut);
    }

pub returns-clause-words : goal.returns-clause-words
returns-clause-words c = ended c.args.text.now c.loop-piece.spaced _ c.loop-piece.words.items _
    (drop_all c.loop-piece.piece-index c.args.pieces.now (omega arith)) c.loop-piece.invariant.so_far
