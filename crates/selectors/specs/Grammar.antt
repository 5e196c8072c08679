-- The grammar of selectors: what words of a text spell.
use Rattle.std.specs.Prelude.{◌≡◌, ℕ, ℤ, Bool, true, false, List, [], ◌∷◌, ◌++◌, Some, codes}
use Rattle.std.specs.List.{AllByRecursion}
use Rattle.selectors.specs.declared.words.Word.{Word}
use Rattle.selectors.specs.declared.words.WordKind.TheVariants.{Ident, Function, Str, Id, Mark}
use Rattle.selectors.specs.declared.selector.Joint.{Joint}
use Rattle.selectors.specs.declared.selector.Joint.TheVariants as joints
use Rattle.selectors.specs.declared.selector.AttrOp.{AttrOp}
use Rattle.selectors.specs.declared.selector.AttrOp.TheVariants as ops
use Rattle.selectors.specs.declared.selector.NthKind.{NthKind}
use Rattle.selectors.specs.Words.{is_mark, words_of, between}
use Rattle.selectors.specs.Forms.{TestForm, any, tag, id, class, attr, nth, never, is, is_not, compound_form, SelectorForm}
use Rattle.selectors.specs.NthGrammar.{IsNth}
use Rattle.selectors.specs.Reading.{word_value, hash_value, string_of, lower_of, function_of, operator_of, pseudo_class, is_pseudo_element}
use Rattle.selectors.specs.Reading.{nth_kind, is_named, combinator_of, range_of, Item, Joined, segments}

-- `=`, or one of five characters and `=` with nothing between them
pub data IsOperator : List Word → AttrOp → Type 0 where
  equal : (w : Word) → w.kind ≡ Mark 61 → IsOperator (w ∷ []) ops.Equal
  other : (w e : Word) (op : AttrOp) → operator_of w.kind ≡ Some op → e.kind ≡ Mark 61 → e.start ≡ w.end → IsOperator (w ∷ e ∷ []) op

-- an ident or a string
pub data IsOperand : List ℕ → Word → List ℕ → Type 0 where
  ident : (text : List ℕ) (w : Word) → w.kind ≡ Ident → IsOperand text w (word_value text w)
  string : (text : List ℕ) (w : Word) → w.kind ≡ Str → IsOperand text w (string_of text w)

-- a simple selector but a type, `*` and `:not`
pub data IsTest : List ℕ → List Word → TestForm → Type 0 where
  by_id : (text : List ℕ) (w : Word) → w.kind ≡ Id → IsTest text (w ∷ []) (id (hash_value text w))
  by_class : (text : List ℕ) (dot name : Word) → dot.kind ≡ Mark 46 → name.kind ≡ Ident → name.spaced ≡ false
      → IsTest text (dot ∷ name ∷ []) (class (word_value text name))
  by_exists : (text : List ℕ) (open_bracket name close : Word) → open_bracket.kind ≡ Mark 91 → name.kind ≡ Ident → close.kind ≡ Mark 93
      → IsTest text (open_bracket ∷ name ∷ close ∷ []) (attr (word_value text name) ops.Exists [])
  by_compare : (text : List ℕ) (open_bracket name value close : Word) (operator all : List Word) (op : AttrOp) (operand : List ℕ)
      → all ≡ open_bracket ∷ name ∷ (operator ++ value ∷ close ∷ []) → open_bracket.kind ≡ Mark 91 → name.kind ≡ Ident
      → IsOperator operator op → IsOperand text value operand → close.kind ≡ Mark 93
      → IsTest text all (attr (word_value text name) op operand)
  by_pseudo : (text : List ℕ) (colon name : Word) (t : TestForm) → colon.kind ≡ Mark 58 → name.kind ≡ Ident → name.spaced ≡ false
      → pseudo_class (lower_of text name) ≡ Some t
      → IsTest text (colon ∷ name ∷ []) t
  by_nth : (text : List ℕ) (colon function close : Word) (argument all : List Word) (kind : NthKind) (step offset : ℤ)
      → all ≡ colon ∷ function ∷ (argument ++ close ∷ []) → colon.kind ≡ Mark 58 → function.kind ≡ Function → function.spaced ≡ false
      → nth_kind (function_of text function) ≡ Some kind
      → AllByRecursion (λ w. is_mark 41 w.kind ≡ false) argument → close.kind ≡ Mark 41
      → IsNth (between text function.end close.start) step offset
      → IsTest text all (nth kind step offset)
  by_lang : (text : List ℕ) (colon function language close : Word) → colon.kind ≡ Mark 58 → function.kind ≡ Function
      → function.spaced ≡ false → is_named (codes "lang") (function_of text function) ≡ true
      → language.kind ≡ Ident → language.spaced ≡ false → close.kind ≡ Mark 41 → close.spaced ≡ false
      → IsTest text (colon ∷ function ∷ language ∷ close ∷ []) never

-- what `:not` takes
pub data IsArgument : List ℕ → List Word → TestForm → Type 0 where
  a_tag : (text : List ℕ) (w : Word) → w.kind ≡ Ident → IsArgument text (w ∷ []) (tag (word_value text w))
  a_any : (text : List ℕ) (w : Word) → w.kind ≡ Mark 42 → IsArgument text (w ∷ []) any
  a_test : (text : List ℕ) (front : List Word) (t : TestForm) → IsTest text front t → IsArgument text front t

-- a pseudo-element: two colons and a name, or one colon and one of the four old names
pub data IsElement : List ℕ → List Word → Type 0 where
  one_colon : (text : List ℕ) (colon name : Word) → colon.kind ≡ Mark 58 → name.kind ≡ Ident → name.spaced ≡ false
      → is_pseudo_element (lower_of text name) ≡ true → IsElement text (colon ∷ name ∷ [])
  two_colons : (text : List ℕ) (colon second name : Word) → colon.kind ≡ Mark 58 → second.kind ≡ Mark 58 → second.spaced ≡ false
      → name.kind ≡ Ident → name.spaced ≡ false
      → is_pseudo_element (lower_of text name) ≡ true → IsElement text (colon ∷ second ∷ name ∷ [])

-- a part of a compound: a simple selector, or a pseudo-element
pub data IsCompoundItem : List ℕ → List Word → Item → Type 0 where
  item_test : (text : List ℕ) (front : List Word) (t : TestForm) → IsTest text front t → IsCompoundItem text front (is t ∷ [], false)
  item_not : (text : List ℕ) (colon function close : Word) (argument all : List Word) (t : TestForm)
      → all ≡ colon ∷ function ∷ (argument ++ close ∷ []) → colon.kind ≡ Mark 58 → function.kind ≡ Function → function.spaced ≡ false
      → is_named (codes "not") (function_of text function) ≡ true
      → IsArgument text argument t → close.kind ≡ Mark 41 → IsCompoundItem text all (is_not t ∷ [], false)
  item_element : (text : List ℕ) (front : List Word) → IsElement text front → IsCompoundItem text front ([], true)

-- a compound's first part
pub data IsFirst : List ℕ → List Word → Item → Type 0 where
  first_tag : (text : List ℕ) (w : Word) → w.kind ≡ Ident → IsFirst text (w ∷ []) (is (tag (word_value text w)) ∷ [], false)
  first_any : (text : List ℕ) (w : Word) → w.kind ≡ Mark 42 → IsFirst text (w ∷ []) (is any ∷ [], false)
  first_item : (text : List ℕ) (front : List Word) (x : Item) → IsCompoundItem text front x → IsFirst text front x

-- parts one behind the other; none follows a part that is or ends in a pseudo-element
pub data Run {X : Type 0} (R : List Word → List X × Bool → Type 0) : Bool → List Word → List X × Bool → Type 0 where
  done : (element : Bool) → Run R element [] ([], element)
  more : (front rest all : List Word) (x y : List X × Bool) → all ≡ front ++ rest → R front x → Run R x.1 rest y
      → Run R false all (x.0 ++ y.0, y.1)

-- a part with no white space before it
abbrev pub IsTight : List Word → Type 0
IsTight [] = ⊥
IsTight (w ∷ ws) = w.spaced ≡ false

-- a part of a compound behind its first: an item with no white space before it
abbrev pub IsNextItem : List ℕ → List Word → Item → Type 0
IsNextItem text front x = IsTight front × IsCompoundItem text front x

-- all words are one compound: its first part and the parts that follow it tightly
pub record IsCompound (text : List ℕ) (all : List Word) (x : Item) : Type 0 where
  pub front : List Word
  pub rest : List Word
  pub first : Item
  pub others : Item
  pub words : all ≡ front ++ rest
  pub is_first : IsFirst text front first
  pub run : Run (IsNextItem text) first.1 rest others
  pub whole : x ≡ (first.0 ++ others.0, others.1)

-- what ties a compound to the one on its left: a mark, or the white space before it
pub data IsCombinator : List Word → List Word → Joint → Type 0 where
  mark : (w : Word) (compound : List Word) (joint : Joint) → combinator_of w.kind ≡ Some joint → IsCombinator (w ∷ []) compound joint
  white : (w : Word) (ws : List Word) → w.spaced ≡ true → IsCombinator [] (w ∷ ws) joints.Descendant

-- all words are a combinator and the compound behind it
pub record IsJoined (text : List ℕ) (all : List Word) (x : Joined) : Type 0 where
  pub combinator : List Word
  pub compound : List Word
  pub joint : Joint
  pub item : Item
  pub words : all ≡ combinator ++ compound
  pub is_combinator : IsCombinator combinator compound joint
  pub is_compound : IsCompound text compound item
  pub whole : x ≡ (compound_form joint item.0 ∷ [], item.1)

-- all words are a selector: a compound, and compounds each behind a combinator
pub record IsSelector (text : List ℕ) (all : List Word) (s : SelectorForm) : Type 0 where
  pub compound : List Word
  pub rest : List Word
  pub first : Item
  pub others : Joined
  pub words : all ≡ compound ++ rest
  pub is_compound : IsCompound text compound first
  pub run : Run (IsJoined text) first.1 rest others
  pub compounds : s.compounds ≡ compound_form joints.Descendant first.0 ∷ others.0
  pub element : s.pseudo_element ≡ others.1
  pub range : range_of all ≡ Some s.range

-- what stands between the commas, in turn
abbrev pub AreSelectors : List ℕ → List (List Word) → List SelectorForm → Type 0
AreSelectors text [] [] = Unit {0}
AreSelectors text (own ∷ others) (s ∷ ss) = IsSelector text own s × AreSelectors text others ss
AreSelectors text _ _ = ⊥

-- the text spells this selector list: its selectors are what stands between the commas, in turn
abbrev pub IsSelectorList : List ℕ → List SelectorForm → Type 0
IsSelectorList text ss = AreSelectors text (segments (words_of text)) ss
