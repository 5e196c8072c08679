-- Where brackets close among the pieces of a text, told for each place before the parts are read.
use Rattle.std.specs.Prelude.{◌≡◌, ℕ, ◌&&◌, List, [], ◌∷◌, ◌++◌, length, Option, Some, None, option_map, slice_get, if◌then◌else◌}
use Rattle.css_tokens.specs.declared.token.Token.{Token}
use Rattle.sheet_reader.specs.declared.brackets.Bracket.{Bracket}
use Rattle.sheet_reader.specs.declared.brackets.Bracket.TheVariants.{Round, Square, Curly}
use Rattle.sheet_reader.specs.declared.ends.Closing.{Closing}
use Rattle.sheet_reader.specs.declared.ends.Ends.{Ends}
use Rattle.sheet_reader.specs.declared.ends.Ends.TheVariants.{Sought, Told}
use Rattle.sheet_reader.specs.Brackets.{open_after, is_none_open}
use Rattle.sheet_reader.specs.Grammar.{is_closing}

-- the pieces behind the one that closes this bracket, where these brackets are open inside it: none where no piece does
unfoldable pub behind_in : Bracket → List Bracket → List Token → Option (List Token)
behind_in b brackets [] = None
behind_in b brackets (t ∷ ts) =
    if is_none_open brackets && is_closing b t.kind then Some ts else behind_in b (open_after brackets t.kind) ts

-- how many pieces stand behind the one that closes this bracket, where it is the innermost open one before these pieces
abbrev pub left_behind : Bracket → List Token → Option ℕ
left_behind b ts = option_map (λ (rest : List Token). length rest) (behind_in b [] ts)

-- the same of each bracket
abbrev pub closing_of : List Token → Closing
closing_of ts = record { round = left_behind Round ts; square = left_behind Square ts; curly = left_behind Curly ts }

-- no bracket is closed
abbrev pub none_closing : Closing
none_closing = record { round = None; square = None; curly = None }

-- behind a closed bracket, whose closing piece has these pieces behind it; and behind one that is not closed
abbrev pub closing_past : Option (List Token) → Closing
closing_past None = none_closing
closing_past (Some rest) = closing_of rest

-- what is told of one of them
abbrev pub closing_at : Closing → Bracket → Option ℕ
closing_at c Round = c.round
closing_at c Square = c.square
closing_at c Curly = c.curly

-- with another number for this bracket
abbrev pub closing_with : Closing → Bracket → ℕ → Closing
closing_with c Round n = record { round = Some n; square = c.square; curly = c.curly }
closing_with c Square n = record { round = c.round; square = Some n; curly = c.curly }
closing_with c Curly n = record { round = c.round; square = c.square; curly = Some n }

-- a table tells of these pieces: by their number, of all the pieces from each place on
abbrev pub AreClosings : List Closing → List Token → Type 0
AreClosings table ts = (before rest : List Token) → ts ≡ before ++ rest → slice_get table (length rest) ≡ Some (closing_of rest)

-- a table tells of these pieces and of others behind them, as many as are said
pub record AreTold (table : List Closing) (behind : ℕ) (ts : List Token) : Type 0 where
  pub others : List Token
  pub size : length others ≡ behind
  pub told : AreClosings table (ts ++ others)

-- what is said of where blocks end is true of these pieces
abbrev pub AreEnds : Ends → List Token → Type 0
AreEnds Sought ts = Unit {0}
AreEnds (Told table behind) ts = AreTold table.now behind ts
