-- Declarations (CSS Syntax 3, 5.4.6), as relations between the pieces of an item of a body and what they declare.
use Rattle.std.specs.Prelude.{◌≡◌, ℕ, Bool, true, false, List, [], ◌∷◌, ◌++◌, map, codes, None, Some}
use Rattle.std.specs.Char.{to_ascii_lowercase}
use Rattle.std.specs.List.{AllByRecursion}
use Rattle.css_tokens.specs.Escapes.{unescaped}
use Rattle.css_tokens.specs.declared.token.Token.{Token}
use Rattle.css_tokens.specs.declared.token.Range.{Range}
use Rattle.css_tokens.specs.declared.token.TokenKind.TheVariants.{Ident}
use Rattle.sheet_reader.specs.declared.sheet.Property.{Property}
use Rattle.sheet_reader.specs.Brackets.{opened_by, closed_by}
use Rattle.sheet_reader.specs.Forms.{range}
use Rattle.sheet_reader.specs.Grammar.{is_closing, AreItems, AreNested}
use Rattle.sheet_reader.specs.Declarations.{ItemForm, candidate, name_by, is_custom, is_bad_kind}
use Rattle.sheet_laws.specs.Said.{AreSaid}
use Rattle.sheet_reader.specs.Solids.{AreBlank, Covers, codes_of, IsCharacter}

-- each closing bracket has its opening one, while an opening one may be left open to the end
pub data AreMatched : List Token → Type 0 where
  none_matched : AreMatched []
  plain_then : (t : Token) (ts : List Token) → opened_by t.kind ≡ None → closed_by t.kind ≡ None → AreMatched ts → AreMatched (t ∷ ts)
  nested_then : {all : List Token} (t close : Token) (within ts : List Token) (b : _)
      → all ≡ t ∷ (within ++ close ∷ ts) → opened_by t.kind ≡ Some b → AreNested within → is_closing b close.kind ≡ true
      → AreMatched ts → AreMatched all
  open_then : (t : Token) (ts : List Token) (b : _) → opened_by t.kind ≡ Some b → AreMatched ts → AreMatched (t ∷ ts)

-- a value that ends in `!` and the ident `important` in any case, the last two pieces but white space and comments, whatever
-- brackets are open there; and what stands before these two
pub record EndsImportant (text : List ℕ) (value plain : List Token) : Type 0 where
  pub mark : Token
  pub gap : List Token
  pub name : Token
  pub behind : List Token
  pub is : value ≡ plain ++ mark ∷ (gap ++ name ∷ behind)
  pub is_mark : IsCharacter text 33 mark
  pub gap_blank : AreBlank gap
  pub is_name : name.kind ≡ Ident
  pub named : map to_ascii_lowercase (unescaped (codes_of text name)) ≡ codes "important"
  pub behind_blank : AreBlank behind

-- whether a value is important, and the value without its `!important`
pub data HasImportance (text : List ℕ) (value : List Token) : Bool → List Token → Type 0 where
  is_important : {plain : List Token} → EndsImportant text value plain → HasImportance text value true plain
  is_normal : ((plain : List Token) → EndsImportant text value plain → ⊥) → HasImportance text value false value

-- from the first to the last piece of a value that is neither white space nor a comment; where there is none, the empty range
-- behind the colon
pub data IsValueRange (colon : Token) (plain : List Token) : Range → Type 0 where
  some_value : {r : Range} → Covers plain r → IsValueRange colon plain r
  no_value : AreBlank plain → IsValueRange colon plain (range colon.end colon.end)

-- an ident, white space and comments, a colon and a value. There is no bad string, no bad url and no closing bracket without
-- its opening one, and only a name that begins with `--` may have an empty value.
pub record IsDeclaration (text : List ℕ) (ts : List Token) (p : Property) : Type 0 where
  pub name : Token
  pub gap : List Token
  pub colon : Token
  pub value : List Token
  pub plain : List Token
  pub is : ts ≡ name ∷ (gap ++ colon ∷ value)
  pub is_name : name.kind ≡ Ident
  pub named : p.name ≡ name_by (unescaped (codes_of text name))
  pub gap_blank : AreBlank gap
  pub is_colon : IsCharacter text 58 colon
  pub importance : HasImportance text value p.important plain
  pub spans : IsValueRange colon plain p.value
  pub some : AreBlank plain → is_custom p.name ≡ true
  pub whole : Covers ts p.whole
  pub no_bad : AllByRecursion (λ t. is_bad_kind t.kind ≡ false) ts
  pub matched : AreMatched ts

-- the declaration that an item of a body is: one that begins with an ident
pub data ItemDeclares (text : List ℕ) : ItemForm → Property → Type 0 where
  declares : {ts : List Token} {p : Property} → IsDeclaration text ts p → ItemDeclares text (candidate ts) p

-- the declarations of a body, in the order of its items
pub record AreDeclarations (text : List ℕ) (body : List Token) (ps : List Property) : Type 0 where
  pub items : List ItemForm
  pub are_items : AreItems items body
  pub said : AreSaid (ItemDeclares text) items ps
