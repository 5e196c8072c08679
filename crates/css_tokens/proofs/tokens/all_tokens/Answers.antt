use Rattle.std.proofs.Common.{◌≡◌, ℕ, ◌∷◌, ◌++◌, [], All, List, ap, sym, ◌∙◌, subst, append_assoc}
use Rattle.std.proofs.lemmas.List.Elements.{All-push}
use Rattle.css_tokens.specs.Marks.{IsPieceOf}
use Rattle.css_tokens.specs.declared.token.Token.{Token}
use Rattle.css_tokens.proofs.tokens.all_tokens.Goals as goal

more : (all pushed left new : List Token) (t : Token) → pushed ≡ all ++ t ∷ [] → left ≡ t ∷ new → pushed ++ new ≡ all ++ left
more all pushed left new t is_pushed first = ap (λ (xs : List Token). xs ++ new) is_pushed ∙ append_assoc all (t ∷ []) new ∙ ap
    (λ (xs : List Token). all ++ xs) (sym first)

pub loop-token-preserved : goal.loop-token-preserved
loop-token-preserved c =
    let piece : IsPieceOf c.loop-token.tokens.text c.in-Some.token = record {
      cut = c.in-Some.ensures.cut;
      marks = c.in-Some.ensures.marks;
      inside = c.in-Some.ensures.inside;
    } in
    record {
      text = c.next.ensures.same_text ∙ c.loop-token.invariant.text;
      so_far = more c.loop-token.all.items c.push.new.self.items c.loop-token.tokens.left c.next.new.self.left c.in-Some.token
          c.in_ok-push.ensures.items c.in-Some.ensures.first ∙ c.loop-token.invariant.so_far;
      each = subst (All (IsPieceOf c.args.text.now)) (sym c.in_ok-push.ensures.items)
          (All-push (IsPieceOf c.args.text.now) c.loop-token.all.items c.in-Some.token c.loop-token.invariant.each
          (subst (λ (text : List ℕ). IsPieceOf text c.in-Some.token) c.loop-token.invariant.text piece));
    }
