-- Pieces that are passed over between the parts of a sheet.
use Rattle.std.proofs.Common.{◌≡◌, ℕ, true, List, [], ◌∷◌, ◌++◌, length}
use Rattle.std.proofs.Common.{Some, refl, sym, subst}
use Rattle.css_tokens.specs.declared.token.TokenKind.{TokenKind}
use Rattle.css_tokens.specs.declared.token.TokenKind.TheVariants as tokens
use Rattle.css_tokens.specs.Rows.{piece, first_piece}
use Rattle.sheet_reader.proofs.PassedTexts.{PassedForm, a_comment, white, an_opening, a_closing, over, opening_piece, closing_piece}
use Rattle.sheet_reader.proofs.PassedTexts.{piece_form, comment_piece}
use Rattle.style_edits.proofs.Fronts.{IsPassedFront, passed_front, white_front}

-- such a piece stays what it is before any other text; a comment, where it has its `*/`
pub piece_front : (front rest : List ℕ) (k : TokenKind) → first_piece (front ++ rest) ≡ Some (piece k (length front)) → over k ≡ true
    → (k ≡ tokens.Comment → (inner : List ℕ) × (front ≡ 47 ∷ 42 ∷ (inner ++ 42 ∷ 47 ∷ []))) → (other : List ℕ) → IsPassedFront front other
piece_front front rest k found h closed other =
    let g = piece_form front rest k found h in by g.0 g.2
  where
    by : (behind : List ℕ) → PassedForm k front behind → IsPassedFront front other
    by behind (a_comment f) =
        let c = closed f.named in
        passed_front front other tokens.Comment (comment_piece k front behind other c.0 f c.1) refl
    by behind (white f) = white_front front other f.run.0 f.some
    by behind (an_opening f) =
        passed_front front other tokens.Cdo
        (subst (λ (x : List ℕ). first_piece (x ++ other) ≡ Some (piece tokens.Cdo (length x))) (sym f.is) (opening_piece other)) refl
    by behind (a_closing f) =
        passed_front front other tokens.Cdc
        (subst (λ (x : List ℕ). first_piece (x ++ other) ≡ Some (piece tokens.Cdc (length x))) (sym f.is) (closing_piece other)) refl
