-- The top-level parts of a sheet (CSS Syntax 3, 5.4.1 to 5.4.3), as a list of pieces is cut into them.
use Rattle.std.specs.Prelude.{ℕ, zero, suc, ◌-◌, Bool, true, false, List, [], ◌∷◌, ◌++◌, take, drop, length, slice_get, Option}
use Rattle.std.specs.Prelude.{option_to_list, if◌then◌else◌}
use Rattle.css_tokens.specs.declared.token.Token.{Token}
use Rattle.css_tokens.specs.declared.token.TokenKind.{TokenKind}
use Rattle.css_tokens.specs.declared.token.TokenKind.TheVariants.{Comment, WhiteSpace, Cdo, Cdc, AtKeyword, Semicolon}
use Rattle.sheet_reader.specs.declared.brackets.Stop.TheVariants as stops
use Rattle.sheet_reader.specs.declared.parts.Level.{Level}
use Rattle.sheet_reader.specs.declared.parts.Level.TheVariants.{Top}
use Rattle.sheet_reader.specs.Brackets.{until}

-- where a rule ends: at the text's end, at a semicolon, or in a block, which is closed unless the text ends before
pub data EndingForm : Type 0 where
  text_end : EndingForm
  semicolon : Token → EndingForm
  block : Token → List Token → Option Token → EndingForm

-- white space, a comment, `<!--` or `-->`; an at-rule: its keyword, its prelude and how it ends; a qualified rule: its
-- prelude and how it ends, which is no rule where it ends without a block
pub data PartForm : Type 0 where
  passed : Token → PartForm
  at_rule : Token → List Token → EndingForm → PartForm
  qualified : List Token → EndingForm → PartForm

-- a comment or white space; at top level also `<!--` and `-->`, which are plain pieces in the block of a media rule
abbrev pub is_passed : Level → TokenKind → Bool
is_passed level Comment = true
is_passed level WhiteSpace = true
is_passed Top Cdo = true
is_passed Top Cdc = true
is_passed _ _ = false

-- what follows `{`: component values up to and with its `}`, or to the text's end
abbrev pub block_at : Token → List Token → EndingForm
block_at first rest = block first (take (until stops.BlockEnd rest) rest) (slice_get rest (until stops.BlockEnd rest))

-- the ending that begins with this piece, by its kind: a semicolon is an ending by itself, any other piece opens a block
abbrev pub ending_by : Token → List Token → TokenKind → EndingForm
ending_by first rest Semicolon = semicolon first
ending_by first rest _ = block_at first rest

-- the ending that these pieces begin with: the text's end where there are none
abbrev pub ending_at : List Token → EndingForm
ending_at [] = text_end
ending_at (t ∷ ts) = ending_by t ts t.kind

-- component values up to a semicolon or a block
abbrev pub at_rule_at : Token → List Token → PartForm
at_rule_at keyword rest =
    at_rule keyword (take (until stops.BlockOrSemicolon rest) rest) (ending_at (drop (until stops.BlockOrSemicolon rest) rest))

-- component values up to a block
abbrev pub qualified_at : List Token → PartForm
qualified_at ts = qualified (take (until stops.Block ts) ts) (ending_at (drop (until stops.Block ts) ts))

-- the part that begins with this piece and goes on in the pieces behind it, by the piece's kind
abbrev pub part_by : Level → Token → List Token → TokenKind → PartForm
part_by level t ts AtKeyword = at_rule_at t ts
part_by level t ts kind = if is_passed level kind then passed t else qualified_at (t ∷ ts)

-- the part that begins with this piece
unfoldable pub part_at : Level → Token → List Token → PartForm
part_at level t ts = part_by level t ts t.kind

-- ---- the pieces of a part

-- the pieces of an ending: none at the text's end, the semicolon, or the block with its `{` and with its `}` if it has one
abbrev pub ending_pieces : EndingForm → List Token
ending_pieces text_end = []
ending_pieces (semicolon t) = t ∷ []
ending_pieces (block first body close) = first ∷ (body ++ option_to_list close)

-- all the pieces of a part, in their order
abbrev pub part_pieces : PartForm → List Token
part_pieces (passed t) = t ∷ []
part_pieces (at_rule keyword prelude ending) = keyword ∷ (prelude ++ ending_pieces ending)
part_pieces (qualified prelude ending) = prelude ++ ending_pieces ending

-- the parts of the pieces, one behind the other; the first `skip` pieces belong to a part already
unfoldable pub parts_after : Level → ℕ → List Token → List PartForm
parts_after level skip [] = []
parts_after level (suc skip) (t ∷ ts) = parts_after level skip ts
parts_after level zero (t ∷ ts) = part_at level t ts ∷ parts_after level (length (part_pieces (part_at level t ts)) - 1) ts

-- the parts of a sheet with these pieces, or of the block of a media rule
abbrev pub parts : Level → List Token → List PartForm
parts level ts = parts_after level 0 ts
