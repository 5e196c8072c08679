-- What is computed once of an element that many selectors are tried on.
use Rattle.std.specs.Prelude.{◌≡◌, ℕ, codes, Bool, true, false, List, [], Option, Some, None, IfSome}
use Rattle.std.specs.Char.{is_ascii_whitespace}
use Rattle.std.specs.List.{slice_split}
use Rattle.page_tree.specs.Zippers.{Zipper}
use Rattle.node_tree.specs.Labels.{value_of}
use Rattle.selectors.specs.declared.selector.NthKind.{NthKind}
use Rattle.selectors.specs.declared.selector.NthKind.TheVariants.{Child, LastChild, OfType, LastOfType}
use Rattle.selectors.specs.Forms.{TestForm, any, tag, id, class, attr, root, empty, nth, only_child, only_of_type, never, SimpleForm, is}
use Rattle.selectors.specs.Forms.{is_not}
use Rattle.select_match.specs.declared.places.ElementPlaces.{ElementPlaces}
use Rattle.select_match.specs.declared.places.KnownPlaces.{KnownPlaces}
use Rattle.select_match.specs.Elements.{attributes_of, index}

-- one of the four places of an element among its siblings
abbrev pub element_place : NthKind → ElementPlaces → ℕ
element_place Child p = p.child
element_place LastChild p = p.last_child
element_place OfType p = p.of_type
element_place LastOfType p = p.last_of_type

-- one of the four places of an element among its siblings, if it was counted
abbrev pub place_known : NthKind → KnownPlaces → Option ℕ
place_known Child p = p.child
place_known LastChild p = p.last_child
place_known OfType p = p.of_type
place_known LastOfType p = p.last_of_type

-- after one of them was counted
abbrev pub with_place : NthKind → ℕ → KnownPlaces → KnownPlaces
with_place Child n p = record p { child = Some n }
with_place LastChild n p = record p { last_child = Some n }
with_place OfType n p = record p { of_type = Some n }
with_place LastOfType n p = record p { last_of_type = Some n }

-- each place that is known is the element's
abbrev pub KnowsPlaces : KnownPlaces → Zipper → Type 0
KnowsPlaces p z = (kind : NthKind) → IfSome (place_known kind p) (λ n. n ≡ index kind z)

-- a test of the type, the id or a class, which is quick
abbrev pub is_quick_test : TestForm → Bool
is_quick_test any = true
is_quick_test (tag name) = true
is_quick_test (id value) = true
is_quick_test (class word) = true
is_quick_test (attr name op operand) = false
is_quick_test root = false
is_quick_test empty = false
is_quick_test (nth kind step offset) = false
is_quick_test only_child = false
is_quick_test only_of_type = false
is_quick_test never = false

-- a simple selector that is one
abbrev pub is_quick : SimpleForm → Bool
is_quick (is t) = is_quick_test t
is_quick (is_not t) = false

-- the pieces of a value that white space parts, if there is one; its words are those that are not empty
abbrev pub pieces_in : Option (List ℕ) → List (List ℕ)
pieces_in None = []
pieces_in (Some value) = slice_split is_ascii_whitespace value

-- an element's id
abbrev pub element_id : Zipper → Option (List ℕ)
element_id z = value_of (codes "id") (attributes_of z)

-- the pieces of its class
abbrev pub class_pieces : Zipper → List (List ℕ)
class_pieces z = pieces_in (value_of (codes "class") (attributes_of z))
