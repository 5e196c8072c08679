-- What a node is but for its place: its kind, its name, its value and its attributes.
use Rattle.std.specs.Prelude.{ℕ, Bool, true, false, cond, ◌&&◌, List, [], ◌∷◌, Option, Some, None, bytes_eq, refl, ⊤, IsUtf8}
use Rattle.std.specs.List.{list_all}
use Rattle.std.specs.Ordering.{nat_cmp, is_lt}
use Rattle.std.specs.Cmp.Lexicographic.{slice_cmp}
use Rattle.std.specs.Coded.{Coded, code_by, coded×, coded_list, coded_ℕ}
use Rattle.node_tree.specs.declared.Kind.{Kind}
use Rattle.node_tree.specs.declared.Kind.TheVariants.{Document, Element, Text, Comment, Doctype}
use Rattle.node_tree.specs.contracts.Kind as kind
use Rattle.node_tree.specs.Names.{is_element_name, is_attribute_name}

-- a name and a value, as bytes
abbrev pub Pair : Type 0
Pair = List ℕ × List ℕ

-- what a node is but for its place
pub record Label : Type 0 where
  pub kind : Kind
  pub name : List ℕ
  pub value : List ℕ
  pub attributes : List Pair

-- a text by its bytes
abbrev pub coded_bytes : Coded (List ℕ)
coded_bytes = coded_list coded_ℕ

-- attributes by their texts
abbrev pub coded_pairs : Coded (List Pair)
coded_pairs = coded_list (coded× coded_bytes coded_bytes)

-- a kind by its number
abbrev pub coded_kind : Coded Kind
coded_kind = kind.the_row.coded

-- a label by its parts
abbrev pub coded_label : Coded Label
coded_label =
    code_by ((Kind × List ℕ) × (List ℕ × List Pair)) (coded× (coded× coded_kind coded_bytes) (coded× coded_bytes coded_pairs))
    (λ l. ((l.kind, l.name), (l.value, l.attributes)))
    (λ p. record { kind = p.0.0; name = p.0.1; value = p.1.0; attributes = p.1.1 })
    (λ _. refl)

-- ---- kinds

-- the document
abbrev pub is_document : Kind → Bool
is_document Document = true
is_document Element = false
is_document Text = false
is_document Comment = false
is_document Doctype = false

-- an element
abbrev pub is_element : Kind → Bool
is_element Document = false
is_element Element = true
is_element Text = false
is_element Comment = false
is_element Doctype = false

-- a doctype
abbrev pub is_doctype : Kind → Bool
is_doctype Document = false
is_doctype Element = false
is_doctype Text = false
is_doctype Comment = false
is_doctype Doctype = true

-- a container: the document or an element
abbrev pub holds : Kind → Bool
holds Document = true
holds Element = true
holds Text = false
holds Comment = false
holds Doctype = false

-- elements and doctypes have names
abbrev pub has_name : Kind → Bool
has_name Document = false
has_name Element = true
has_name Text = false
has_name Comment = false
has_name Doctype = true

-- texts and comments have values
abbrev pub has_value : Kind → Bool
has_value Document = false
has_value Element = false
has_value Text = true
has_value Comment = true
has_value Doctype = false

-- ---- lists of attributes

-- the list has nothing
abbrev pub is_empty : {A : Type 0} → List A → Bool
is_empty [] = true
is_empty (x ∷ xs) = false

-- the one text is before the other by bytes
abbrev pub is_before : List ℕ → List ℕ → Bool
is_before a b = is_lt (slice_cmp nat_cmp a b)

-- the name is before the first of the list
abbrev pub is_below : List ℕ → List Pair → Bool
is_below name [] = true
is_below name (p ∷ ps) = is_before name p.0

-- the names are distinct and ascend by bytes
abbrev pub is_ascending : List Pair → Bool
is_ascending [] = true
is_ascending (p ∷ ps) = is_below p.0 ps && is_ascending ps

-- the value of the first attribute of that name
abbrev pub value_of : List ℕ → List Pair → Option (List ℕ)
value_of name [] = None
value_of name (p ∷ ps) = cond (bytes_eq p.0 name) (Some p.1) (value_of name ps)

-- ---- labels

-- What stands in a label but for the forms of names: elements alone have attributes, in order; elements and doctypes
-- alone have a name, texts and comments alone a value.
abbrev pub is_formed_label : Label → Bool
is_formed_label l =
    cond (is_element l.kind) (is_ascending l.attributes) (is_empty l.attributes)
    && cond (has_name l.kind) true (is_empty l.name)
    && cond (has_value l.kind) true (is_empty l.value)

-- the names of a label have their forms
abbrev pub is_named_label : Label → Bool
is_named_label l = cond (has_name l.kind) (is_element_name l.name) true && list_all (λ p. is_attribute_name p.0) l.attributes

-- each name and each value is UTF-8
abbrev pub PairsHaveUtf8 : List Pair → Type 0
PairsHaveUtf8 [] = ⊤
PairsHaveUtf8 (p ∷ ps) = IsUtf8 p.0 × IsUtf8 p.1 × PairsHaveUtf8 ps

-- the texts of one node are UTF-8
abbrev pub LabelHasUtf8 : Label → Type 0
LabelHasUtf8 l = IsUtf8 l.name × IsUtf8 l.value × PairsHaveUtf8 l.attributes
