-- Which characters stand at a piece's ends, by its kind, so that what lies inside can be cut out.
use Rattle.std.specs.Prelude.{◌≡◌, ◌⊎◌, ℕ, ◌+◌, ◌-◌, ◌<◌, true, List, length, slice_index}
use Rattle.std.specs.Str.{IsCharBoundary}
use Rattle.css_tokens.specs.declared.token.TokenKind.{TokenKind}
use Rattle.css_tokens.specs.declared.token.TokenKind.TheVariants.{Str, Hash, Function, AtKeyword, Colon, Semicolon, Comma, OpenSquare}
use Rattle.css_tokens.specs.declared.token.TokenKind.TheVariants.{CloseSquare, OpenRound, CloseRound, OpenCurly, CloseCurly, Delim}
use Rattle.css_tokens.specs.declared.token.Token.{Token}
use Rattle.css_tokens.specs.Codes.{is_quote}
use Rattle.css_tokens.specs.Pieces.{IsCutAt}
use Rattle.css_tokens.specs.Rows.{mark_kind}

-- the mark stands first, and something behind it
pub record Opens (mark : ℕ) (text : List ℕ) (start end : ℕ) : Type 0 where
  pub is : slice_index text start ≡ mark
  pub some : start + 1 < end

-- the mark stands last, and something before it
pub record EndsInMark (mark : ℕ) (text : List ℕ) (start end : ℕ) : Type 0 where
  pub is : slice_index text (end - 1) ≡ mark
  pub some : start + 1 < end

-- a quote stands first; it also stands last, or the text ends
pub record IsQuoted (text : List ℕ) (start end : ℕ) : Type 0 where
  pub quote : is_quote (slice_index text start) ≡ true
  pub some : start < end
  pub closed : (slice_index text (end - 1) ≡ slice_index text start) × (start + 1 < end) ⊎ (end ≡ length text)

-- one character, which has the kind that this character gives
pub record IsMark (kind : TokenKind) (text : List ℕ) (start end : ℕ) : Type 0 where
  pub one : end ≡ start + 1
  pub gives : kind ≡ mark_kind (slice_index text start)

-- `#`, `@`, a function's `(`, a string's quotes, and the characters that are pieces of their own
abbrev pub HasMarks : TokenKind → List ℕ → ℕ → ℕ → Type 0
HasMarks (Hash flag) text start end = Opens 35 text start end
HasMarks AtKeyword text start end = Opens 64 text start end
HasMarks Function text start end = EndsInMark 40 text start end
HasMarks Str text start end = IsQuoted text start end
HasMarks Colon text start end = IsMark Colon text start end
HasMarks Semicolon text start end = IsMark Semicolon text start end
HasMarks Comma text start end = IsMark Comma text start end
HasMarks OpenSquare text start end = IsMark OpenSquare text start end
HasMarks CloseSquare text start end = IsMark CloseSquare text start end
HasMarks OpenRound text start end = IsMark OpenRound text start end
HasMarks CloseRound text start end = IsMark CloseRound text start end
HasMarks OpenCurly text start end = IsMark OpenCurly text start end
HasMarks CloseCurly text start end = IsMark CloseCurly text start end
HasMarks Delim text start end = IsMark Delim text start end
HasMarks _ text start end = Unit {0}

-- the text may be cut behind the mark in front and before the mark behind
abbrev pub IsCutInside : TokenKind → List ℕ → ℕ → ℕ → Type 0
IsCutInside (Hash flag) text start end = IsCharBoundary text (start + 1)
IsCutInside AtKeyword text start end = IsCharBoundary text (start + 1)
IsCutInside Function text start end = IsCharBoundary text (end - 1)
IsCutInside Str text start end = IsCharBoundary text (start + 1)
    × (slice_index text (end - 1) ≡ slice_index text start → IsCharBoundary text (end - 1))
IsCutInside _ text start end = Unit {0}

-- what holds of each piece of a text
pub record IsPieceOf (text : List ℕ) (t : Token) : Type 0 where
  pub cut : IsCutAt text t
  pub marks : HasMarks t.kind text t.start t.end
  pub inside : IsCutInside t.kind text t.start t.end
