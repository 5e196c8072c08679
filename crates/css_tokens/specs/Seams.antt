-- Seams: where a text may be taken apart before `{`, `}` or `;` without changing how what stands before is cut.
use Rattle.std.specs.Prelude.{◌≡◌, ℕ, ◌+◌, ◌==◌, ◌||◌, Bool, List, [], ◌∷◌, ◌++◌, length, Some}
use Rattle.css_tokens.specs.declared.token.Token.{Token}
use Rattle.css_tokens.specs.declared.token.Piece.{Piece}
use Rattle.css_tokens.specs.Rows.{first_piece}

-- `{`, `}`, `;`
abbrev pub is_stop : ℕ → Bool
is_stop c = (c == 123 || c == 125) || c == 59

-- a text is cut into whole pieces before what follows it; its first code stands at a place
pub data IsWholeBefore (after : List ℕ) : ℕ → List ℕ → List Token → Type 0 where
  no_more : {place : ℕ} → IsWholeBefore after place [] []
  piece_and : {place : ℕ} {text : List ℕ} {ts : List Token} (p : Piece) (front rest : List ℕ) →
      text ≡ front ++ rest → p.len ≡ length front → first_piece (text ++ after) ≡ Some p → IsWholeBefore after (place + p.len) rest ts →
      IsWholeBefore after place text ((record { kind = p.kind; start = place; end = place + p.len }) ∷ ts)
