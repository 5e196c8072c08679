-- Declarations (CSS Syntax 3, 5.4.4 to 5.4.6, this project's profile).
use Rattle.std.specs.Prelude.{ℕ, zero, suc, ◌-◌, nat_lt, Bool, true, false, ◌&&◌, ◌||◌, ◌==◌, not, List, [], ◌∷◌, ◌++◌, map, take, length}
use Rattle.std.specs.Prelude.{slice_get, Option, Some, None, option_to_list, codes, if◌then◌else◌}
use Rattle.std.specs.Char.{to_ascii_lowercase}
use Rattle.std.specs.Str.{bytes_eq}
use Rattle.std.specs.List.{list_any}
use Rattle.css_tokens.specs.declared.token.Token.{Token}
use Rattle.css_tokens.specs.declared.token.Range.{Range}
use Rattle.css_tokens.specs.declared.token.TokenKind.{TokenKind}
use Rattle.css_tokens.specs.declared.token.TokenKind.TheVariants.{Comment, WhiteSpace, Semicolon, AtKeyword, BadString, BadUrl}
use Rattle.css_tokens.specs.declared.token.TokenKind.TheVariants as tokens
use Rattle.css_tokens.specs.Pieces.{pieces}
use Rattle.selectors.specs.declared.words.Word.{Word}
use Rattle.selectors.specs.declared.words.WordKind.{WordKind}
use Rattle.selectors.specs.declared.words.WordKind.TheVariants.{Ident}
use Rattle.selectors.specs.Words.{words_after, is_mark}
use Rattle.selectors.specs.Reading.{word_value, lower_of, range_of, is_over}
use Rattle.selectors.specs.Forms.{◌>>=◌}
use Rattle.sheet_reader.specs.declared.sheet.Property.{Property}
use Rattle.sheet_reader.specs.declared.brackets.Nesting.{Nesting}
use Rattle.sheet_reader.specs.declared.brackets.Nesting.TheVariants.{Stray}
use Rattle.sheet_reader.specs.declared.brackets.Stop.TheVariants as stops
use Rattle.sheet_reader.specs.Brackets.{until, nesting}
use Rattle.sheet_reader.specs.Parts.{PartForm, at_rule_at, part_pieces}
use Rattle.sheet_reader.specs.Forms.{range}

-- what a body has one behind the other: white space, a comment or a semicolon; an at-rule; what begins with
-- an ident and may be a declaration; and anything else
pub data ItemForm : Type 0 where
  passed : Token → ItemForm
  at_rule : PartForm → ItemForm
  candidate : List Token → ItemForm
  other : List Token → ItemForm

-- the item that begins with this piece and goes on in the pieces behind it, by the piece's kind
abbrev pub item_by : Token → List Token → TokenKind → ItemForm
item_by t ts Comment = passed t
item_by t ts WhiteSpace = passed t
item_by t ts Semicolon = passed t
item_by t ts AtKeyword = at_rule (at_rule_at t ts)
item_by t ts tokens.Ident = candidate (take (until stops.Semicolon (t ∷ ts)) (t ∷ ts))
item_by t ts _ = other (take (until stops.Semicolon (t ∷ ts)) (t ∷ ts))

-- the item that begins with this piece
unfoldable pub item_at : Token → List Token → ItemForm
item_at t ts = item_by t ts t.kind

-- all the pieces of an item, in their order
abbrev pub item_pieces : ItemForm → List Token
item_pieces (passed t) = t ∷ []
item_pieces (at_rule p) = part_pieces p
item_pieces (candidate ts) = ts
item_pieces (other ts) = ts

-- the items of a body; the first `skip` pieces belong to an item already
unfoldable pub items_after : ℕ → List Token → List ItemForm
items_after skip [] = []
items_after (suc skip) (t ∷ ts) = items_after skip ts
items_after zero (t ∷ ts) = item_at t ts ∷ items_after (length (item_pieces (item_at t ts)) - 1) ts

-- ---- values

-- a word of this kind is the ident `important` in any case
abbrev pub names_important : List ℕ → Word → WordKind → Bool
names_important text w Ident = bytes_eq (lower_of text w) (codes "important")
names_important text w _ = false

-- two words are there: the first is `!`, and the second is the ident `important` in any case
abbrev pub is_important_by : List ℕ → Option Word → Option Word → Bool
is_important_by text (Some mark) (Some name) = is_mark 33 mark.kind && names_important text name name.kind
is_important_by text _ _ = false

-- the last two words are `!` and the ident `important` in any case
abbrev pub is_important : List ℕ → List Word → Bool
is_important text value = nat_lt 1 (length value)
    && is_important_by text (slice_get value (length value - 2)) (slice_get value (length value - 1))

-- the value without them
abbrev pub plain_value : Bool → List Word → List Word
plain_value important value = if important then take (length value - 2) value else value

-- a bad string or a bad url
abbrev pub is_bad_kind : TokenKind → Bool
is_bad_kind BadString = true
is_bad_kind BadUrl = true
is_bad_kind _ = false

-- there is a closing bracket without its opening one
abbrev pub is_stray_nesting : Nesting → Bool
is_stray_nesting Stray = true
is_stray_nesting _ = false

-- a string that a newline cut short, a url with what no url may have, or a closing bracket without its opening one
abbrev pub holds_bad : List Token → Bool
holds_bad ts = list_any (λ t. is_bad_kind t.kind) ts || is_stray_nesting (nesting ts)

-- a name that begins with `--`
abbrev pub is_custom : List ℕ → Bool
is_custom (a ∷ b ∷ rest) = a == 45 && b == 45
is_custom _ = false

-- the ident's value, in ASCII lower case unless it begins with `--`
abbrev pub name_by : List ℕ → List ℕ
name_by value = if is_custom value then value else map to_ascii_lowercase value

-- from the first to the last word of a value; the empty range behind the colon where there is none
abbrev pub value_range : Word → Option Range → Range
value_range colon (Some r) = r
value_range colon None = range colon.end colon.end

-- the declaration with this name, the range of this value, this importance and this range as a whole
abbrev pub property : List ℕ → Word → Bool → List Word → Range → Property
property name colon important value whole = record {
  name = name;
  value = value_range colon (range_of value);
  important = important;
  whole = whole;
}

-- a declaration whose value is empty is none, unless its name begins with `--`
abbrev pub unless_empty : List Word → Property → Option Property
unless_empty value p = if is_over value && not (is_custom p.name) then None else Some p

-- an ident, a colon and a value
abbrev pub declared_by : List ℕ → List Word → Range → Option Property
declared_by text (name ∷ colon ∷ value) whole =
    if is_mark 58 colon.kind then unless_empty (plain_value (is_important text value) value)
    (property (name_by (word_value text name)) colon (is_important text value) (plain_value (is_important text value) value) whole)
    else None
declared_by text _ whole = None

-- the declaration that these words are, if they are one: its whole goes from the first word to the last one
abbrev pub declared_in : List ℕ → List Word → Option Property
declared_in text ws = range_of ws >>= λ whole. declared_by text ws whole

-- the declaration that these pieces are, if they are one
unfoldable pub declaration_of : List ℕ → List Token → Option Property
declaration_of text ts = if holds_bad ts then None else declared_in text (words_after text false ts)

-- the declaration that an item is, if it is one: only what begins with an ident can be
abbrev pub item_property : List ℕ → ItemForm → Option Property
item_property text (candidate ts) = declaration_of text ts
item_property text (passed t) = None
item_property text (at_rule p) = None
item_property text (other ts) = None

-- the declarations among these items, in their order
unfoldable pub properties_in : List ℕ → List ItemForm → List Property
properties_in text [] = []
properties_in text (item ∷ items) = option_to_list (item_property text item) ++ properties_in text items

-- the declarations of a body, which are these pieces of a text
abbrev pub declarations : List ℕ → List Token → List Property
declarations text ts = properties_in text (items_after 0 ts)

-- a whole text as a body
abbrev pub style_of : List ℕ → List Property
style_of text = declarations text (pieces text)
