-- Pieces of a text but white space and comments, where the pieces stand, and what runs from the first to the last of them.
use Rattle.std.specs.Prelude.{◌≡◌, ℕ, ◌<◌, Bool, true, false, List, [], ◌∷◌, ◌++◌, slice_index}
use Rattle.std.specs.List.{AllByRecursion}
use Rattle.css_tokens.specs.declared.token.Token.{Token}
use Rattle.css_tokens.specs.declared.token.Range.{Range}
use Rattle.css_tokens.specs.declared.token.TokenKind.{TokenKind}
use Rattle.css_tokens.specs.declared.token.TokenKind.TheVariants.{Colon, Semicolon, Comma, OpenSquare, CloseSquare, OpenRound, CloseRound}
use Rattle.css_tokens.specs.declared.token.TokenKind.TheVariants.{OpenCurly, CloseCurly, Delim}
use Rattle.selectors.specs.Words.{between}
use Rattle.sheet_reader.specs.Forms.{range}
use Rattle.sheet_reader.specs.Lone.{is_blank_piece}

-- white space and comments alone
abbrev pub AreBlank : List Token → Type 0
AreBlank ts = AllByRecursion (λ t. is_blank_piece t ≡ true) ts

-- the first piece that is neither white space nor a comment
pub record IsFirstSolid (ts : List Token) (t : Token) : Type 0 where
  pub before : List Token
  pub behind : List Token
  pub is : ts ≡ before ++ t ∷ behind
  pub blank : AreBlank before
  pub solid : is_blank_piece t ≡ false

-- the last piece that is neither white space nor a comment
pub record IsLastSolid (ts : List Token) (t : Token) : Type 0 where
  pub before : List Token
  pub behind : List Token
  pub is : ts ≡ before ++ t ∷ behind
  pub blank : AreBlank behind
  pub solid : is_blank_piece t ≡ false

-- the range from the first to the last piece that is neither white space nor a comment
pub record Covers (ts : List Token) (r : Range) : Type 0 where
  pub first : Token
  pub last : Token
  pub is_first : IsFirstSolid ts first
  pub is_last : IsLastSolid ts last
  pub is : r ≡ range first.start last.end

-- what a piece is of its text
abbrev pub codes_of : List ℕ → Token → List ℕ
codes_of text t = between text t.start t.end

-- pieces of this kind are one character each
abbrev pub is_character_kind : TokenKind → Bool
is_character_kind Colon = true
is_character_kind Semicolon = true
is_character_kind Comma = true
is_character_kind OpenSquare = true
is_character_kind CloseSquare = true
is_character_kind OpenRound = true
is_character_kind CloseRound = true
is_character_kind OpenCurly = true
is_character_kind CloseCurly = true
is_character_kind Delim = true
is_character_kind _ = false

-- a piece that is one character, and this one
abbrev pub IsCharacter : List ℕ → ℕ → Token → Type 0
IsCharacter text c t = (is_character_kind t.kind ≡ true) × (slice_index text t.start ≡ c)

-- pieces one behind the other, from one place to another, of which each takes some codes
abbrev pub StandBetween : ℕ → ℕ → List Token → Type 0
StandBetween from to [] = from ≡ to
StandBetween from to (t ∷ ts) = (t.start ≡ from) × (t.start < t.end) × StandBetween t.end to ts
