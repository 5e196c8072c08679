-- The places of a sheet where a rule may be added: those behind its whole parts.
use Rattle.std.specs.Prelude.{◌≡◌, ℕ, ◌+◌, ◌-◌, ◌<◌, ◌≤◌, Bool, true, false, List, [], ◌∷◌, ◌++◌, slice_index, Some}
use Rattle.css_tokens.specs.declared.token.Token.{Token}
use Rattle.css_tokens.specs.declared.token.TokenKind.{TokenKind}
use Rattle.css_tokens.specs.declared.token.TokenKind.TheVariants.{Comment}
use Rattle.sheet_reader.specs.Parts.{EndingForm, semicolon, block, PartForm, passed, at_rule, qualified, part_pieces}

-- a semicolon, or a block with its `}`
pub data IsWholeEnding : EndingForm → Type 0 where
  whole_semicolon : (t : Token) → IsWholeEnding (semicolon t)
  whole_block : (first close : Token) (inside : List Token) → IsWholeEnding (block first inside (Some close))

-- a comment
abbrev pub is_comment_kind : TokenKind → Bool
is_comment_kind Comment = true
is_comment_kind _ = false

-- `*/` ends the comment, behind the `/*` that begins it
pub record EndsComment (text : List ℕ) (t : Token) : Type 0 where
  pub long : t.start + 4 ≤ t.end
  pub star : slice_index text (t.end - 2) ≡ 42
  pub slash : slice_index text (t.end - 1) ≡ 47

-- a part that the text's end does not cut short; of a rule it does not count whether it is dropped
pub data IsWholePart (text : List ℕ) : PartForm → Type 0 where
  whole_passed : (t : Token) → is_comment_kind t.kind ≡ false → IsWholePart text (passed t)
  whole_comment : (t : Token) → is_comment_kind t.kind ≡ true → EndsComment text t → IsWholePart text (passed t)
  whole_at_rule : (keyword : Token) (prelude : List Token) (ending : EndingForm)
      → IsWholeEnding ending → IsWholePart text (at_rule keyword prelude ending)
  whole_qualified : (prelude : List Token) (ending : EndingForm) → IsWholeEnding ending → IsWholePart text (qualified prelude ending)

-- the place where the last piece of a whole part ends
pub record IsPlaceBehind (text : List ℕ) (p : PartForm) (place : ℕ) : Type 0 where
  pub front : List Token
  pub last : Token
  pub is : part_pieces p ≡ front ++ last ∷ []
  pub whole : IsWholePart text p
  pub ends : place ≡ last.end

-- the place behind a whole one of these parts: the parts up to that one stand before it, and all others behind
pub record IsBetweenParts (text : List ℕ) (ps : List PartForm) (place : ℕ) : Type 0 where
  pub before : List PartForm
  pub part : PartForm
  pub behind : List PartForm
  pub is : ps ≡ before ++ part ∷ behind
  pub ends : IsPlaceBehind text part place

-- each place stands behind the one before it
abbrev pub AscendFrom : ℕ → List ℕ → Type 0
AscendFrom place [] = Unit {0}
AscendFrom place (next ∷ others) = (place < next) × AscendFrom next others
