-- A text cut into pieces.
use Rattle.std.specs.Prelude.{ℕ, zero, suc, ◌+◌, ◌-◌, List, [], ◌∷◌, Option, Some, None, drop, ◌<◌}
use Rattle.std.specs.Str.{IsCharBoundary}
use Rattle.css_tokens.specs.declared.token.Token.{Token}
use Rattle.css_tokens.specs.declared.token.Piece.{Piece}
use Rattle.css_tokens.specs.Rows.{first_piece}

-- a piece at a place, and then what follows it; `more` takes how many codes of the piece come after its first
abbrev pub piece_then : ℕ → Option Piece → (ℕ → List Token) → List Token
piece_then place None more = []
piece_then place (Some p) more = record { kind = p.kind; start = place; end = place + p.len } ∷ more (p.len - 1)

-- the pieces of the text that stands at a place, of which the first `skip` codes are the rest of a piece
unfoldable pub pieces_after : ℕ → ℕ → List ℕ → List Token
pieces_after place skip [] = []
pieces_after place (suc skip) (c ∷ rest) = pieces_after (place + 1) skip rest
pieces_after place zero (c ∷ rest) = piece_then place (first_piece (c ∷ rest)) (λ skip. pieces_after (place + 1) skip rest)

-- the pieces of a text
abbrev pub pieces : List ℕ → List Token
pieces text = pieces_after 0 0 text

-- a text, and those of its pieces that are still to come
pub record Reading : Type 0 where
  pub text : List ℕ
  pub left : List Token

-- the reading that has come to a place
abbrev pub reading_at : List ℕ → ℕ → Reading
reading_at text place = record { text = text; left = pieces_after place 0 (drop place text) }

-- a token takes some codes, and where it begins and ends the text may be cut
abbrev pub IsCutAt : List ℕ → Token → Type 0
IsCutAt text t = (t.start < t.end) × IsCharBoundary text t.start × IsCharBoundary text t.end
