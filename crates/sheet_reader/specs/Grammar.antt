-- The grammar of sheets and bodies as CSS Syntax 3, section 5, has it: what component values, parts and items are, apart
-- from any order of reading.
use Rattle.std.specs.Prelude.{◌≡◌, Bool, true, false, List, [], ◌∷◌, ◌++◌, Option, Some, None}
use Rattle.css_tokens.specs.declared.token.Token.{Token}
use Rattle.css_tokens.specs.declared.token.TokenKind.{TokenKind}
use Rattle.css_tokens.specs.declared.token.TokenKind.TheVariants.{Comment, WhiteSpace, Semicolon, AtKeyword, Ident, OpenCurly, CloseCurly}
use Rattle.sheet_reader.specs.declared.brackets.Bracket.{Bracket}
use Rattle.sheet_reader.specs.declared.brackets.Stop.{Stop}
use Rattle.sheet_reader.specs.declared.brackets.Stop.TheVariants as stops
use Rattle.sheet_reader.specs.declared.parts.Level.{Level}
use Rattle.sheet_reader.specs.Brackets.{opened_by, closed_by, is_same, stops_at}
use Rattle.sheet_reader.specs.Parts.{EndingForm, text_end, semicolon, block, PartForm, passed, at_rule, qualified, is_passed, ending_pieces}
use Rattle.sheet_reader.specs.Parts.{part_pieces}
use Rattle.sheet_reader.specs.Declarations as body

-- where component values stand: outside brackets, up to what stops them there, or inside a bracket, up to its own closing one
pub data Place : Type 0 where
  outside : Stop → Place
  inside : Bracket → Place

-- the bracket that a piece closes, if any, is this one
abbrev pub is_closing_by : Bracket → Option Bracket → Bool
is_closing_by b None = false
is_closing_by b (Some c) = is_same c b

-- a piece of this kind is this bracket's closing one
abbrev pub is_closing : Bracket → TokenKind → Bool
is_closing b kind = is_closing_by b (closed_by kind)

-- the component values of this place end before such a piece
abbrev pub value_ends_before : Place → TokenKind → Bool
value_ends_before (outside stop) kind = stops_at stop kind
value_ends_before (inside b) kind = is_closing b kind

-- Component values, and what follows them. One is a piece; or a function or an opening bracket, then component values, up to
-- and with its own closing bracket or the text's end. Inside it other closing brackets are plain pieces.
pub data AreValues : Place → List Token → List Token → Type 0 where
  no_values : {place : Place} {rest : List Token} → AreValues place [] rest
  piece_and : {place : Place} {rest : List Token} (t : Token) (ts : List Token) → value_ends_before place t.kind ≡ false
      → opened_by t.kind ≡ None → AreValues place ts rest → AreValues place (t ∷ ts) rest
  block_and : {place : Place} {rest all : List Token} (t close : Token) (within ts : List Token) (b : Bracket)
      → all ≡ t ∷ (within ++ close ∷ ts) → value_ends_before place t.kind ≡ false → opened_by t.kind ≡ Some b
      → AreValues (inside b) within (close ∷ (ts ++ rest)) → is_closing b close.kind ≡ true → AreValues place ts rest
      → AreValues place all rest
  open_block : {place : Place} {rest : List Token} (t : Token) (within : List Token) (b : Bracket) → value_ends_before place t.kind ≡ false
      → opened_by t.kind ≡ Some b → AreValues (inside b) within [] → rest ≡ [] → AreValues place (t ∷ within) rest

-- they end there: at the text's end, or before a piece that ends them
abbrev pub EndsBefore : Place → List Token → Type 0
EndsBefore place [] = Unit {0}
EndsBefore place (t ∷ ts) = value_ends_before place t.kind ≡ true

-- a block's `{`, component values up to a `}`, and that `}` unless the text ends before; or a semicolon; or the text's end
pub data IsEnding : EndingForm → List Token → Type 0 where
  at_text_end : {rest : List Token} → rest ≡ [] → IsEnding text_end rest
  at_semicolon : {rest : List Token} (t : Token) → t.kind ≡ Semicolon → IsEnding (semicolon t) rest
  in_block : {rest : List Token} (first close : Token) (within : List Token) → first.kind ≡ OpenCurly
      → AreValues (outside stops.BlockEnd) within (close ∷ rest) → close.kind ≡ CloseCurly → IsEnding (block first within (Some close)) rest
  in_open_block : {rest : List Token} (first : Token) (within : List Token) → first.kind ≡ OpenCurly
      → AreValues (outside stops.BlockEnd) within [] → rest ≡ [] → IsEnding (block first within None) rest

-- an at-keyword
abbrev pub is_at_keyword : TokenKind → Bool
is_at_keyword AtKeyword = true
is_at_keyword _ = false

-- neither a piece that is passed over nor an at-keyword stands first
abbrev pub BeginsQualified : Level → List Token → Type 0
BeginsQualified level [] = ⊥
BeginsQualified level (t ∷ ts) = (is_passed level t.kind ≡ false) × (is_at_keyword t.kind ≡ false)

-- component values as a prelude, up to what stops them, and an ending
pub record IsRule (stop : Stop) (prelude : List Token) (ending : EndingForm) (rest : List Token) : Type 0 where
  pub values : AreValues (outside stop) prelude (ending_pieces ending ++ rest)
  pub stopped : EndsBefore (outside stop) (ending_pieces ending ++ rest)
  pub ends : IsEnding ending rest

-- a part of a sheet or of the block of a media rule, and what follows it
pub data IsPart (level : Level) : PartForm → List Token → Type 0 where
  passed_part : {rest : List Token} (t : Token) → is_passed level t.kind ≡ true → IsPart level (passed t) rest
  at_rule_part : {rest : List Token} (keyword : Token) (prelude : List Token) (ending : EndingForm) → keyword.kind ≡ AtKeyword
      → IsRule stops.BlockOrSemicolon prelude ending rest → IsPart level (at_rule keyword prelude ending) rest
  qualified_part : {rest : List Token} (prelude : List Token) (ending : EndingForm)
      → BeginsQualified level (prelude ++ ending_pieces ending) → IsRule stops.Block prelude ending rest
      → IsPart level (qualified prelude ending) rest

-- the parts of a sheet, or of the block of a media rule, one behind the other
abbrev pub AreParts : Level → List PartForm → List Token → Type 0
AreParts level [] ts = ts ≡ []
AreParts level (p ∷ ps) ts = (rest : List Token) × (ts ≡ part_pieces p ++ rest) × IsPart level p rest × AreParts level ps rest

-- a comment, white space or a semicolon
abbrev pub is_separator : TokenKind → Bool
is_separator Comment = true
is_separator WhiteSpace = true
is_separator Semicolon = true
is_separator _ = false

-- an ident
abbrev pub is_ident_kind : TokenKind → Bool
is_ident_kind Ident = true
is_ident_kind _ = false

-- an item of a body, and what follows it
pub data IsBodyItem : body.ItemForm → List Token → Type 0 where
  passed_item : {rest : List Token} (t : Token) → is_separator t.kind ≡ true → IsBodyItem (body.passed t) rest
  at_rule_item : {rest : List Token} (keyword : Token) (prelude : List Token) (ending : EndingForm) → keyword.kind ≡ AtKeyword
      → IsRule stops.BlockOrSemicolon prelude ending rest → IsBodyItem (body.at_rule (at_rule keyword prelude ending)) rest
  candidate_item : {rest : List Token} (t : Token) (ts : List Token) → is_ident_kind t.kind ≡ true
      → AreValues (outside stops.Semicolon) (t ∷ ts) rest → EndsBefore (outside stops.Semicolon) rest
      → IsBodyItem (body.candidate (t ∷ ts)) rest
  other_item : {rest : List Token} (t : Token) (ts : List Token) → is_separator t.kind ≡ false → is_at_keyword t.kind ≡ false
      → is_ident_kind t.kind ≡ false
      → AreValues (outside stops.Semicolon) (t ∷ ts) rest → EndsBefore (outside stops.Semicolon) rest
      → IsBodyItem (body.other (t ∷ ts)) rest

-- the items of a body, one behind the other
abbrev pub AreItems : List body.ItemForm → List Token → Type 0
AreItems [] ts = ts ≡ []
AreItems (x ∷ xs) ts = (rest : List Token) × (ts ≡ body.item_pieces x ++ rest) × IsBodyItem x rest × AreItems xs rest

-- each opening bracket and function has its own closing bracket, properly nested, and each closing bracket its opening one
pub data AreNested : List Token → Type 0 where
  none_nested : AreNested []
  plain_and : (t : Token) (ts : List Token) → opened_by t.kind ≡ None → closed_by t.kind ≡ None → AreNested ts → AreNested (t ∷ ts)
  nested_and : {all : List Token} (t close : Token) (within ts : List Token) (b : Bracket) → all ≡ t ∷ (within ++ close ∷ ts)
      → opened_by t.kind ≡ Some b → AreNested within → is_closing b close.kind ≡ true → AreNested ts → AreNested all

-- the text's end does not cut a block short
abbrev pub IsShutEnding : EndingForm → Type 0
IsShutEnding text_end = Unit {0}
IsShutEnding (semicolon t) = Unit {0}
IsShutEnding (block first within None) = ⊥
IsShutEnding (block first within (Some close)) = Unit {0}

-- nor the block of a part, if it has one
abbrev pub IsShut : PartForm → Type 0
IsShut (passed t) = Unit {0}
IsShut (at_rule keyword prelude ending) = IsShutEnding ending
IsShut (qualified prelude ending) = IsShutEnding ending

-- nor that of any of these parts
abbrev pub AreShut : List PartForm → Type 0
AreShut [] = Unit {0}
AreShut (p ∷ ps) = IsShut p × AreShut ps
