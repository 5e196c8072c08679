-- Names for crates above: types of this one that have none there, and their values.
use Rattle.std.specs.Prelude.{◌≡◌, List, [], ◌∷◌}
use Rattle.css_tokens.specs.declared.token.Token.{Token}
use Rattle.sheet_reader.specs.declared.brackets.Bracket.{Bracket as BracketType}
use Rattle.sheet_reader.specs.declared.brackets.Bracket.TheVariants.{Curly}
use Rattle.sheet_reader.specs.declared.brackets.Stop.{Stop as StopType}
use Rattle.sheet_reader.specs.declared.brackets.Stop.TheVariants as stops
use Rattle.sheet_reader.specs.declared.parts.Level.{Level as LevelType}
use Rattle.sheet_reader.specs.declared.parts.Level.TheVariants.{Top, Inner}

-- brackets
abbrev pub Bracket : Type 0
Bracket = BracketType

-- what component values stop at
abbrev pub Stop : Type 0
Stop = StopType

-- where parts stand
abbrev pub Level : Type 0
Level = LevelType

-- ---- levels

-- that of a sheet
abbrev pub top_level : LevelType
top_level = Top

-- that of the block of a media rule
abbrev pub block_level : LevelType
block_level = Inner

-- ---- pieces

-- there are some
abbrev pub Follows : List Token → Type 0
Follows ts = ts ≡ [] → ⊥

-- ---- brackets that are open

-- behind a `{`
abbrev pub opened : List BracketType → List BracketType
opened bs = Curly ∷ bs

-- ---- where component values stop

-- at a `{` or a semicolon
abbrev pub block_or_semicolon : StopType
block_or_semicolon = stops.BlockOrSemicolon

-- at a `{`
abbrev pub at_block : StopType
at_block = stops.Block

-- at a `}`
abbrev pub block_end : StopType
block_end = stops.BlockEnd
