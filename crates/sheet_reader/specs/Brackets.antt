-- Brackets among the pieces of a text: which are open, and where component values stop (CSS Syntax 3, 5.4.7).
use Rattle.std.specs.Prelude.{ℕ, suc, Bool, true, false, ◌&&◌, List, [], ◌∷◌, Option, Some, None, if◌then◌else◌}
use Rattle.css_tokens.specs.declared.token.Token.{Token}
use Rattle.css_tokens.specs.declared.token.TokenKind.{TokenKind}
use Rattle.css_tokens.specs.declared.token.TokenKind.TheVariants.{Function, OpenRound, OpenSquare, OpenCurly, CloseRound, CloseSquare}
use Rattle.css_tokens.specs.declared.token.TokenKind.TheVariants.{CloseCurly, Semicolon}
use Rattle.sheet_reader.specs.declared.brackets.Bracket.{Bracket}
use Rattle.sheet_reader.specs.declared.brackets.Bracket.TheVariants.{Round, Square, Curly}
use Rattle.sheet_reader.specs.declared.brackets.Stop.{Stop}
use Rattle.sheet_reader.specs.declared.brackets.Stop.TheVariants as stops
use Rattle.sheet_reader.specs.declared.brackets.Nesting.{Nesting}
use Rattle.sheet_reader.specs.declared.brackets.Nesting.TheVariants.{Stray, Open, Closed}

-- the bracket that a piece of this kind opens: a function opens a round one
abbrev pub opened_by : TokenKind → Option Bracket
opened_by Function = Some Round
opened_by OpenRound = Some Round
opened_by OpenSquare = Some Square
opened_by OpenCurly = Some Curly
opened_by _ = None

-- the bracket that a piece of this kind closes, if it is the innermost open one
abbrev pub closed_by : TokenKind → Option Bracket
closed_by CloseRound = Some Round
closed_by CloseSquare = Some Square
closed_by CloseCurly = Some Curly
closed_by _ = None

-- a piece of this kind neither opens nor closes a bracket
abbrev pub is_no_bracket : TokenKind → Bool
is_no_bracket Function = false
is_no_bracket OpenRound = false
is_no_bracket OpenSquare = false
is_no_bracket OpenCurly = false
is_no_bracket CloseRound = false
is_no_bracket CloseSquare = false
is_no_bracket CloseCurly = false
is_no_bracket _ = true

-- two brackets are both round, both square, or both curly
abbrev pub is_same : Bracket → Bracket → Bool
is_same Round Round = true
is_same Square Square = true
is_same Curly Curly = true
is_same _ _ = false

-- the open brackets without the innermost, where it is the one that is closed
abbrev pub brackets_without : Bracket → List Bracket → List Bracket
brackets_without b [] = []
brackets_without b (first ∷ outer) = if is_same b first then outer else first ∷ outer

-- the brackets that are open behind a piece, by the bracket that it opens, or else the one that it closes, if any
abbrev pub open_by : List Bracket → Option Bracket → Option Bracket → List Bracket
open_by brackets (Some b) closes = b ∷ brackets
open_by brackets None (Some b) = brackets_without b brackets
open_by brackets None None = brackets

-- the brackets that are open behind a piece, the innermost first. A closing bracket that closes none is a plain piece.
abbrev pub open_after : List Bracket → TokenKind → List Bracket
open_after brackets kind = open_by brackets (opened_by kind) (closed_by kind)

-- no bracket is open
abbrev pub is_none_open : List Bracket → Bool
is_none_open [] = true
is_none_open (b ∷ bs) = false

-- the kinds of pieces at which component values stop
abbrev pub stops_at : Stop → TokenKind → Bool
stops_at stops.Block OpenCurly = true
stops_at stops.BlockOrSemicolon OpenCurly = true
stops_at stops.BlockOrSemicolon Semicolon = true
stops_at stops.BlockEnd CloseCurly = true
stops_at stops.Semicolon Semicolon = true
stops_at _ _ = false

-- how many pieces stand before the first one outside brackets at which component values stop, and all where none does
unfoldable pub until_in : Stop → List Bracket → List Token → ℕ
until_in stop brackets [] = 0
until_in stop brackets (t ∷ ts) =
    if is_none_open brackets && stops_at stop t.kind then 0 else suc (until_in stop (open_after brackets t.kind) ts)

-- how many pieces stand before the first at which component values stop, from where no bracket is open
abbrev pub until : Stop → List Token → ℕ
until stop ts = until_in stop [] ts

-- this bracket is the innermost of those that are open
abbrev pub is_innermost : Bracket → List Bracket → Bool
is_innermost b [] = false
is_innermost b (first ∷ outer) = is_same b first

-- a closing bracket without its opening one
abbrev pub is_stray_by : List Bracket → Option Bracket → Bool
is_stray_by brackets None = false
is_stray_by brackets (Some b) = if is_innermost b brackets then false else true

-- a piece of this kind is a closing bracket, and its bracket is not the innermost open one
abbrev pub is_stray : List Bracket → TokenKind → Bool
is_stray brackets kind = is_stray_by brackets (closed_by kind)

-- at the end of a text: closed where no bracket is open, and else open
abbrev pub nesting_of : List Bracket → Nesting
nesting_of [] = Closed
nesting_of (b ∷ bs) = Open

-- whether a closing bracket lacks its opening one, and else whether each opening one has its own closing bracket
unfoldable pub nesting_in : List Bracket → List Token → Nesting
nesting_in brackets [] = nesting_of brackets
nesting_in brackets (t ∷ ts) = if is_stray brackets t.kind then Stray else nesting_in (open_after brackets t.kind) ts

-- how the brackets of a whole list of pieces nest, with none open before it
abbrev pub nesting : List Token → Nesting
nesting ts = nesting_in [] ts
