-- Media rules nest: the parts of a sheet laid out in the order of the text, behind each media rule those in its block.
use Rattle.std.specs.Prelude.{◌≡◌, ℕ, zero, suc, ◌+◌, Bool, false, List, [], ◌∷◌, ◌++◌, length, map, Option, Some, None, option_map}
use Rattle.std.specs.Prelude.{option_to_list, codes, if◌then◌else◌}
use Rattle.std.specs.Char.{to_ascii_lowercase}
use Rattle.std.specs.Str.{bytes_eq}
use Rattle.css_tokens.specs.declared.token.Token.{Token}
use Rattle.css_tokens.specs.declared.token.Range.{Range}
use Rattle.css_tokens.specs.declared.token.TokenKind.{TokenKind}
use Rattle.css_tokens.specs.declared.token.TokenKind.TheVariants.{AtKeyword}
use Rattle.css_tokens.specs.Escapes.{unescaped}
use Rattle.selectors.specs.Words.{words_after, between}
use Rattle.selectors.specs.Reading.{range_of}
use Rattle.sheet_reader.specs.declared.parts.Level.{Level}
use Rattle.sheet_reader.specs.declared.parts.Level.TheVariants.{Top, Inner}
use Rattle.sheet_reader.specs.declared.sheet.MediaRule.{MediaRule}
use Rattle.sheet_reader.specs.Forms.{range}
use Rattle.sheet_reader.specs.Parts.{EndingForm, text_end, semicolon, block, PartForm, passed, at_rule, qualified, parts}
use Rattle.sheet_reader.specs.Grammar.{AreParts}

-- an at-keyword whose name is `media` in any case, its escapes read
abbrev pub names_media : List ℕ → Token → TokenKind → Bool
names_media text t AtKeyword = bytes_eq (map to_ascii_lowercase (unescaped (between text (t.start + 1) t.end))) (codes "media")
names_media text t _ = false

-- a media rule: its keyword, the pieces of its prelude, and those in its block
pub record MediaForm : Type 0 where
  pub keyword : Token
  pub prelude : List Token
  pub inside : List Token

-- the media rule with this keyword, this prelude and this ending: none where it ends without a block
abbrev pub media_by : Token → List Token → EndingForm → Option MediaForm
media_by keyword prelude (block first inside close) = Some (record { keyword = keyword; prelude = prelude; inside = inside })
media_by keyword prelude (semicolon t) = None
media_by keyword prelude text_end = None

-- the media rule that a part is: an at-rule named `media` that has a block
unfoldable pub media_form : List ℕ → PartForm → Option MediaForm
media_form text (at_rule keyword prelude ending) =
    if names_media text keyword keyword.kind then media_by keyword prelude ending else None
media_form text (passed t) = None
media_form text (qualified prelude ending) = None

-- from the first to the last word of a prelude; the empty range behind the at-keyword where there is none
abbrev pub prelude_range : Token → Option Range → Range
prelude_range keyword (Some r) = r
prelude_range keyword None = range keyword.end keyword.end

-- a media rule as a sheet has it, with the place of the innermost media rule around it
abbrev pub media_rule : List ℕ → Option ℕ → MediaForm → MediaRule
media_rule text around m = record { prelude = prelude_range m.keyword (range_of (words_after text false m.prelude)); inside = around }

-- a part, and the place of the innermost media rule around it
pub record Laid : Type 0 where
  pub around : Option ℕ
  pub part : PartForm

abbrev pub laid : Option ℕ → PartForm → Laid
laid around p = record { around = around; part = p }

-- the media rule that a part is, if it is one
abbrev pub media_of : List ℕ → Laid → Option MediaRule
media_of text l = option_map (media_rule text l.around) (media_form text l.part)

-- the media rules among these parts, in their order
unfoldable pub media_in : List ℕ → List Laid → List MediaRule
media_in text [] = []
media_in text (l ∷ ls) = option_to_list (media_of text l) ++ media_in text ls

-- what stands around a part with no media rule around it is the sheet itself
abbrev pub level_of : Option ℕ → Level
level_of None = Top
level_of (Some place) = Inner

-- behind a part, where k media rules stand before it: what is in its block, if it is a media rule, and then the other parts
abbrev pub laid_behind : List ℕ → (ℕ → List Token → List Laid) → ℕ → Option MediaForm → (ℕ → List Laid) → List Laid
laid_behind text within k None others = others k
laid_behind text within k (Some m) others =
    within k m.inside ++ others (suc k + length (media_in text (within k m.inside)))

-- the parts, and behind each media rule what is within
unfoldable pub laid_with : List ℕ → (ℕ → List Token → List Laid) → Option ℕ → ℕ → List PartForm → List Laid
laid_with text within around k [] = []
laid_with text within around k (p ∷ ps) =
    laid around p ∷ laid_behind text within k (media_form text p) (λ n. laid_with text within around n ps)

-- the parts, and behind each media rule what is within, where media rules are followed to this depth
unfoldable pub laid_to : ℕ → List ℕ → Option ℕ → ℕ → List PartForm → List Laid
laid_to zero text around k ps = []
laid_to (suc depth) text around k ps =
    laid_with text (λ n inside. laid_to depth text (Some n) (suc n) (parts Inner inside)) around k ps

-- the parts of these pieces, which stand around this media rule, behind k others: no nesting is deeper than there are pieces
abbrev pub laid_out : List ℕ → Option ℕ → ℕ → List Token → List Laid
laid_out text around k ts = laid_to (length ts) text around k (parts (level_of around) ts)

-- Parts laid out, as a relation: k media rules stand before them. Behind a media rule stand the parts of its block, which have it
-- around them; behind a part of another kind the next part.
pub data AreLaid (text : List ℕ) : Option ℕ → ℕ → List PartForm → List Laid → Type 0 where
  none_laid : {around : Option ℕ} {k : ℕ} → AreLaid text around k [] []
  part_laid : {around : Option ℕ} {k : ℕ} (p : PartForm) (ps : List PartForm) (ls : List Laid) → media_form text p ≡ None
      → AreLaid text around k ps ls → AreLaid text around k (p ∷ ps) (laid around p ∷ ls)
  media_laid : {around : Option ℕ} {k : ℕ} (p : PartForm) (m : MediaForm) (inner ps : List PartForm) (within ls : List Laid)
      → media_form text p ≡ Some m → AreParts Inner inner m.inside → AreLaid text (Some k) (suc k) inner within
      → AreLaid text around (suc k + length (media_in text within)) ps ls → AreLaid text around k (p ∷ ps) (laid around p ∷ (within ++ ls))
