-- The first of some pieces that passes a test, piece by piece.
use Rattle.std.proofs.Common.{◌≡◌, ℕ, ◌+◌, ◌<◌, Bool, true, false, cond, List, ◌∷◌, drop, length, get_or, Some, sym, ap, ◌∙◌}
use Rattle.std.specs.List.{find}
use Rattle.std.proofs.lemmas.List.{drop_more}
use Rattle.css_tokens.specs.declared.token.Token.{Token}

module _ (p : Token → Bool) (xs : List Token) (i : ℕ) (d : Token) (b : Bool) (inside : i < length xs) (test : b ≡ p (get_or xs i d)) where
  here : find p (drop i xs) ≡ cond b (Some (get_or xs i d)) (find p (drop (i + 1) xs))
  here = ap (find p) (drop_more xs i d inside) ∙ ap (λ (c : Bool). cond c (Some (get_or xs i d)) (find p (drop (i + 1) xs))) (sym test)

  -- the piece at a place passes, and none before it did
  pub piece_found : b ≡ true → find p (drop i xs) ≡ find p xs → Some (get_or xs i d) ≡ find p xs
  piece_found is so_far =
      sym (ap (λ (c : Bool). cond c (Some (get_or xs i d)) (find p (drop (i + 1) xs))) is) ∙ sym here ∙ so_far

  -- it does not
  pub piece_passed : b ≡ false → find p (drop i xs) ≡ find p xs → find p (drop (i + 1) xs) ≡ find p xs
  piece_passed is so_far =
      sym (ap (λ (c : Bool). cond c (Some (get_or xs i d)) (find p (drop (i + 1) xs))) is) ∙ sym here ∙ so_far
