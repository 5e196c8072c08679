-- Sealed texts: those that stand in a body, or between rules, and leave what follows as it is.
use Rattle.std.specs.Prelude.{ℕ, ◌-◌, ◌==◌, Bool, true, false, ◌&&◌, List, [], ◌∷◌, ◌++◌, take, length, slice_get, Option, Some, None}
use Rattle.css_tokens.specs.declared.token.Token.{Token}
use Rattle.css_tokens.specs.declared.token.TokenKind.{TokenKind}
use Rattle.css_tokens.specs.declared.token.TokenKind.TheVariants.{WhiteSpace, CloseCurly}
use Rattle.css_tokens.specs.Pieces.{pieces}
use Rattle.sheet_reader.specs.declared.brackets.Nesting.{Nesting}
use Rattle.sheet_reader.specs.declared.brackets.Nesting.TheVariants.{Closed}
use Rattle.sheet_reader.specs.declared.brackets.Stop.TheVariants as stops
use Rattle.sheet_reader.specs.Brackets.{nesting, until}

-- white space
abbrev pub is_white_kind : TokenKind → Bool
is_white_kind WhiteSpace = true
is_white_kind _ = false

-- a `}`
abbrev pub is_close_kind : TokenKind → Bool
is_close_kind CloseCurly = true
is_close_kind _ = false

-- each opening bracket has its closing one, and each closing bracket its opening one
abbrev pub is_closed_nesting : Nesting → Bool
is_closed_nesting Closed = true
is_closed_nesting _ = false

-- a piece is there and is of such a kind
abbrev pub kind_passes : (TokenKind → Bool) → Option Token → Bool
kind_passes p None = false
kind_passes p (Some t) = p t.kind

-- the last piece is there and is of such a kind
abbrev pub last_is : (TokenKind → Bool) → List Token → Bool
last_is p ts = kind_passes p (slice_get ts (length ts - 1))

-- the pieces without the last one
abbrev pub all_but_last : List Token → List Token
all_but_last ts = take (length ts - 1) ts

-- a space in a white-space piece, and then `}` as a piece of its own; before it no closing bracket without its opening one,
-- and no opening one without its closing bracket
abbrev pub ends_sealed : List Token → Bool
ends_sealed ts = last_is is_close_kind ts && (last_is is_white_kind (all_but_last ts) && is_closed_nesting (nesting (all_but_last ts)))

-- in the pieces of the text followed by a space and `}`
abbrev pub is_sealed : List ℕ → Bool
is_sealed text = ends_sealed (pieces (text ++ 32 ∷ 125 ∷ []))

-- sealed, and no `{` or `;` outside brackets: it leaves the block behind it what it is
abbrev pub is_sealed_prelude : List ℕ → Bool
is_sealed_prelude text = is_sealed text && until stops.BlockOrSemicolon (pieces text) == length (pieces text)
