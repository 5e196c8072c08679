-- Rows that tokens spell, and the nodes of these rows.
use Rattle.std.proofs.Common.{◌≡◌, ℕ, ◌<◌, ◌^◌, List, [], ◌∷◌, codes, decimal, true, false, Option}
use Rattle.std.proofs.Common.{Some, None, option_and_then, option_map, refl, sym, ap, ap₂, ◌∙◌, subst, arith, ltb-true}
use Rattle.json.specs.Token.{Token, end_object, begin_array, key, string, number}
use Rattle.json.specs.Json as json
use Rattle.json.specs.Tree.{items_tokens}
use Rattle.serde_json.specs.Data as datum
use Rattle.serde_json.specs.Data.{unsigned, put}
use Rattle.serde_json.specs.Read.{number_of}
use Rattle.serde_json.specs.Written.{has_float}
use Rattle.serde_json.proofs.Numbers.{number_of-decimal}
use Rattle.cdp_json.specs.Kinds.{is_counted}
use Rattle.node_tree.specs.Labels.{Pair, Label}
use Rattle.node_tree.specs.Nodes.{Nodes}
use Rattle.node_tree.specs.Keys.{first_of}
use Rattle.node_tree.specs.declared.Kind.{Kind}
use Rattle.node_tree.specs.declared.Kind.TheVariants.{Document, Element, Text, Comment, Doctype}
use Rattle.page_tree.specs.Loads.{labelled}
use Rattle.page_tree.specs.Flat.{FlatRow, flat_formed}
use Rattle.page_tree.specs.FlatRows.{row_with, row_before, row_spelled}
use Rattle.page_forms.specs.Spelt.{ReadsAs, SpellsItems, SpellsField, absent, there}
use Rattle.page_forms.specs.NodeForms.{text_field, attribute_field}
use Rattle.page_forms.specs.RowForms.{row_start, row_form, rows_form, flat_form}
use Rattle.page_forms.proofs.SpeltLists.{neither, list_turn}
use Rattle.page_forms.proofs.SpeltObjects.{listed_last, element_key}

-- ---- a row

-- the label of a node of that kind that has this text and nothing else; an element and a document have none
abbrev pub leaf_label : Kind → List ℕ → Option Label
leaf_label Document text = None
leaf_label Element text = None
leaf_label Text text = Some (labelled Text [] text [])
leaf_label Comment text = Some (labelled Comment [] text [])
leaf_label Doctype text = Some (labelled Doctype text [] [])

-- the start of a row with that number and a text of that name, before the other tokens
abbrev row_tokens : ℕ → List ℕ → List ℕ → List Token → List Token
row_tokens up name text rest = row_start (Some up) (key name ∷ (string text ∷ rest))

-- its tokens up to its text
row_begun : (up : ℕ) (name text : List ℕ) {r2 r3 r4 : List Token} → r2 ≡ key name ∷ r3 → r3 ≡ string text ∷ r4
    → row_start (Some up) r2 ≡ row_tokens up name text r4
row_begun up name text e2 e3 = ap (row_start (Some up)) (e2 ∙ ap (λ ts. key name ∷ ts) e3)

-- its number, read again
up_read : (up : ℕ) → is_counted up ≡ true → number_of (decimal up) ≡ Some (unsigned up)
up_read up small =
    let below : up < 2 ^ 53 = ltb-true up (2 ^ 53) small in
    let fits : up < 2 ^ 64 = omega arith in
    number_of-decimal up fits

-- a row in JSON
abbrev row_json : ℕ → List ℕ → List ℕ → json.Members → json.Json
row_json up name text rest =
    json.object (json.member (codes "up") (json.number (decimal up)) (json.member name (json.string text) rest))

-- its number as the last member of its data
abbrev up_last : ℕ → datum.Members
up_last up = datum.member (codes "up") (datum.number (unsigned up)) datum.no_members

-- a row with one text, by what its data are and what these spell
text_row : (up : ℕ) (name text : List ℕ) (ms : datum.Members) (r : FlatRow) {old new : List Token} → is_counted up ≡ true
    → old ≡ row_tokens up name text (end_object ∷ new) → put name (datum.string text) (up_last up) ≡ ms
    → has_float (datum.object ms) ≡ false → row_spelled (datum.object ms) ≡ Some r → ReadsAs row_form old r new
text_row up name text ms r small e is w s = record {
  json = row_json up name text json.no_members;
  value = datum.object ms;
  tokens = e;
  means =
      ap (λ o. option_map datum.object
      (option_and_then (λ d. Some (put name (datum.string text) (put (codes "up") d datum.no_members))) (option_map datum.number o)))
      (up_read up small)
      ∙ ap (λ qs. Some (datum.object qs)) is;
  shallow = omega arith;
  whole = w;
  reads = s;
}

-- the row of that number and that label
abbrev pub row_with_label : ℕ → Label → FlatRow
row_with_label up l = record { up = up; label = l }

-- the same by the name of its text
named_row : (up : ℕ) (own name text : List ℕ) (known l : Label) {old new : List Token}
    → old ≡ row_tokens up name text (end_object ∷ new) → own ≡ name → known ≡ l
    → (old ≡ row_tokens up own text (end_object ∷ new) → ReadsAs row_form old (row_with_label up known) new)
    → ReadsAs row_form old (row_with_label up l) new
named_row up own name text known l {old = old} {new = new} e same is read =
    subst (λ m. ReadsAs row_form old (row_with_label up m) new) is
    (read (e ∙ ap (λ n. row_tokens up n text (end_object ∷ new)) (sym same)))

-- a node that has nothing but its text
leaf_row : (k : Kind) (up : ℕ) (name text : List ℕ) (l : Label) {old new : List Token} → is_counted up ≡ true
    → old ≡ row_tokens up name text (end_object ∷ new) → text_field k ≡ Some name → leaf_label k text ≡ Some l
    → ReadsAs row_form old (row_with_label up l) new
leaf_row Document up name text l small e f g = absurd cc
leaf_row Element up name text l small e f g = absurd cc
leaf_row Text up name text l small e f g =
    let known : Some (codes "t") ≡ Some name = f in
    let made : Some (labelled Text [] text []) ≡ Some l = g in
    let same : codes "t" ≡ name = cc in
    let is : labelled Text [] text [] ≡ l = cc in
    named_row up (codes "t") name text (labelled Text [] text []) l e same is
    (λ t. text_row up (codes "t") text (datum.member (codes "t") (datum.string text) (up_last up)) _ small t refl refl refl)
leaf_row Comment up name text l small e f g =
    let known : Some (codes "k") ≡ Some name = f in
    let made : Some (labelled Comment [] text []) ≡ Some l = g in
    let same : codes "k" ≡ name = cc in
    let is : labelled Comment [] text [] ≡ l = cc in
    named_row up (codes "k") name text (labelled Comment [] text []) l e same is
    (λ t. text_row up (codes "k") text (datum.member (codes "k") (datum.string text) (up_last up)) _ small t refl refl refl)
leaf_row Doctype up name text l small e f g =
    let known : Some (codes "d") ≡ Some name = f in
    let made : Some (labelled Doctype text [] []) ≡ Some l = g in
    let same : codes "d" ≡ name = cc in
    let is : labelled Doctype text [] [] ≡ l = cc in
    named_row up (codes "d") name text (labelled Doctype text [] []) l e same is
    (λ t. text_row up (codes "d") text (datum.member (codes "d") (datum.string text) (up_last up)) _ small t refl refl refl)

-- an element's row by its attributes
abbrev element_with : ℕ → List ℕ → Option (List Pair) → Option FlatRow
element_with up name attributes = row_with (Some up) (first_of (option_map (labelled Element name []) attributes) None)

-- the name of an element behind its number
abbrev named_behind : ℕ → List ℕ → datum.Members
named_behind up name = datum.member (codes "e") (datum.string name) (up_last up)

module _ (up : ℕ) (name : List ℕ) (old new : List Token) (ps : List Pair) (small : is_counted up ≡ true) where
  -- the row of that name and these attributes
  abbrev RowSpelt : Type 0
  RowSpelt = ReadsAs row_form (row_tokens up (codes "e") name old) (row_with_label up (labelled Element name [] ps)) new

  bare_row : old ≡ end_object ∷ new → ps ≡ [] → RowSpelt
  bare_row e f = record {
    json = row_json up (codes "e") name json.no_members;
    value = datum.object (named_behind up name);
    tokens = ap (row_tokens up (codes "e") name) e;
    means =
        ap (λ o. option_map datum.object
        (option_and_then (λ d. Some (put (codes "e") (datum.string name) (put (codes "up") d datum.no_members)))
        (option_map datum.number o)))
        (up_read up small);
    shallow = omega arith;
    whole = refl;
    reads = ap (λ qs. element_with up name (Some qs)) (sym f);
  }

  row_with_attributes : (from : List Token) → old ≡ key (codes "a") ∷ (begin_array ∷ from)
      → SpellsItems attribute_field.list from ps (end_object ∷ new) → RowSpelt
  row_with_attributes from e s = record {
    json = row_json up (codes "e") name (json.member (codes "a") (json.array s.json) json.no_members);
    value = datum.object (datum.member (codes "a") (datum.array s.items) (named_behind up name));
    tokens = ap (row_tokens up (codes "e") name) (listed_last (key (codes "a")) (items_tokens s.json) old from new e s.tokens);
    means =
        ap₂ (λ o p. option_map datum.object
        (option_and_then (λ d. option_and_then
        (λ a. Some (put (codes "a") a (put (codes "e") (datum.string name) (put (codes "up") d datum.no_members))))
        (option_map datum.array p)) (option_map datum.number o)))
        (up_read up small) s.means;
    shallow = omega (arith, s.shallow);
    whole = neither _ _ s.whole refl;
    reads = ap (element_with up name) s.reads;
  }

  element_row : SpellsField attribute_field old ps (end_object ∷ new) → RowSpelt
  element_row (absent e f) = bare_row e f
  element_row (there from e s) = row_with_attributes from e s

-- a row behind its number: an element's, and another one's
pub element_row_spelt : (up : ℕ) (name text : List ℕ) (k : Kind) (l : Label) (ps : List Pair) {r2 r3 r4 new : List Token}
    → is_counted up ≡ true → r2 ≡ key name ∷ r3 → r3 ≡ string text ∷ r4 → text_field k ≡ Some name → k ≡ Element
    → SpellsField attribute_field r4 ps (end_object ∷ new) → l ≡ labelled Element text [] ps
    → ReadsAs row_form (row_start (Some up) r2) (row_with_label up l) new
element_row_spelt up name text k l ps {r2 = r2} {r4 = r4} {new = new} small e2 e3 f g s is =
    let begun : row_start (Some up) r2 ≡ row_tokens up (codes "e") text r4 =
    row_begun up name text e2 e3 ∙ ap (λ n. row_tokens up n text r4) (element_key name k f g) in
    subst (λ m. ReadsAs row_form (row_start (Some up) r2) (row_with_label up m) new) (sym is)
    (subst (λ ts. ReadsAs row_form ts (row_with_label up (labelled Element text [] ps)) new) (sym begun)
    (element_row up text r4 new ps small s))

pub leaf_row_spelt : (up : ℕ) (name text : List ℕ) (k : Kind) (l : Label) {r2 r3 r4 new : List Token} → is_counted up ≡ true
    → r2 ≡ key name ∷ r3 → r3 ≡ string text ∷ r4 → r4 ≡ end_object ∷ new → text_field k ≡ Some name → leaf_label k text ≡ Some l
    → ReadsAs row_form (row_start (Some up) r2) (row_with_label up l) new
leaf_row_spelt up name text k l small e2 e3 e4 f g =
    leaf_row k up name text l small (row_begun up name text e2 e3 ∙ ap (row_tokens up name text) e4) f g

-- ---- rows

-- a row, before the others
pub row_turn : (old middle new : List Token) (r : FlatRow) (rest : List FlatRow) → ReadsAs row_form old r middle
    → SpellsItems rows_form middle rest new → SpellsItems rows_form old (r ∷ rest) new
row_turn old middle new r rest = list_turn row_form rows_form old middle new r rest (r ∷ rest) (omega arith)
    (λ d ds e f. ap₂ row_before e f)

-- the nodes of these rows
pub nodes_spelt : (old new : List Token) (rows : List FlatRow) (n : Nodes Label) → SpellsItems rows_form old rows new
    → flat_formed rows ≡ Some n → SpellsItems flat_form old n new
nodes_spelt old new rows n s is = record {
  json = s.json;
  items = s.items;
  tokens = s.tokens;
  means = s.means;
  shallow = s.shallow;
  whole = s.whole;
  reads = ap (option_and_then flat_formed) s.reads ∙ is;
}
