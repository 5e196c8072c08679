-- What a sheet says, as a relation: by the table of pieces, the grammar of sheets, that of selectors and that of declarations.
use Rattle.std.specs.Prelude.{◌≡◌, ℕ, List, ◌∷◌, ◌++◌, Option, Some, None}
use Rattle.css_tokens.specs.declared.token.Token.{Token}
use Rattle.css_tokens.specs.Pieces.{pieces}
use Rattle.css_tokens.specs.Table.{Cuts}
use Rattle.sheet_reader.specs.declared.sheet.Property.{Property}
use Rattle.sheet_reader.specs.declared.sheet.Sheet.{Sheet}
use Rattle.sheet_reader.specs.Forms.{range, RuleForm}
use Rattle.sheet_reader.specs.declared.sheet.MediaRule.{MediaRule}
use Rattle.sheet_reader.specs.Layout.{level_of, Laid, media_of, AreLaid}
use Rattle.sheet_reader.specs.Parts.{PartForm, qualified, block}
use Rattle.sheet_reader.specs.Grammar.{AreParts}
use Rattle.sheet_reader.specs.Sheets.{body_end}
use Rattle.sheet_laws.specs.Said.{AreSaid}
use Rattle.sheet_reader.specs.Solids.{Covers, StandBetween}
use Rattle.sheet_reader.specs.SelectorLists.{AreSelectorList}
use Rattle.sheet_laws.specs.Values.{AreDeclarations}
use Rattle.sheet_laws.specs.Places.{IsPlaceBehind}

-- a qualified rule with a block, whose prelude is a selector list; its body ends before its `}`, or at the text's end
pub record IsStyleRule (text : List ℕ) (around : Option ℕ) (p : PartForm) (r : RuleForm) : Type 0 where
  pub prelude : List Token
  pub brace : Token
  pub inside : List Token
  pub close : Option Token
  pub is : p ≡ qualified prelude (block brace inside close)
  pub selectors : AreSelectorList text prelude r.selectors
  pub span : Covers prelude r.prelude
  pub body : r.body ≡ range brace.end (body_end text close)
  pub properties : AreDeclarations text inside r.properties
  pub media : r.media ≡ around

-- an at-rule named `media` with a block: the media rule that stands around its block
abbrev pub IsMediaRule : List ℕ → Laid → MediaRule → Type 0
IsMediaRule text l r = media_of text l ≡ Some r

-- the pieces of a text between two places are this selector list, and the range from the first of them to the last that is
-- neither white space nor a comment is the rule's prelude
pub record HasPrelude (text : List ℕ) (r : RuleForm) : Type 0 where
  pub from : ℕ
  pub to : ℕ
  pub before : List Token
  pub prelude : List Token
  pub behind : List Token
  pub is : pieces text ≡ before ++ (prelude ++ behind)
  pub stands : StandBetween from to prelude
  pub selectors : AreSelectorList text prelude r.selectors
  pub span : Covers prelude r.prelude

-- a text is cut by the table of pieces, its pieces into parts, and these are laid out with those in media rules; the style rules
-- and the media rules are those of what is laid out, in their order, and
-- the places for a rule are 0 and those behind the whole parts
pub record IsReading (text : List ℕ) (s : Sheet) : Type 0 where
  pub tokens : List Token
  pub parts : List PartForm
  pub laid : List Laid
  pub places : List ℕ
  pub cut : Cuts text 0 tokens
  pub are_parts : AreParts (level_of None) parts tokens
  pub are_laid : AreLaid text None 0 parts laid
  pub rules : AreSaid (λ l r. IsStyleRule text l.around l.part r) laid s.rules
  pub media : AreSaid (IsMediaRule text) laid s.media
  pub all_places : s.places ≡ 0 ∷ places
  pub behind : AreSaid (IsPlaceBehind text) parts places

-- a whole text as a body
pub record IsStyle (text : List ℕ) (ps : List Property) : Type 0 where
  pub tokens : List Token
  pub cut : Cuts text 0 tokens
  pub declared : AreDeclarations text tokens ps
