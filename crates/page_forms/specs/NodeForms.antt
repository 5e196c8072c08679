-- The usual form of nodes: `{"e":NAME,"a":[..],"c":[..]}`, where `a` and `c` may be absent, and the forms of one text.
use Rattle.std.specs.Prelude.{ℕ, ◌*◌, List, [], ◌∷◌, codes, Bool, false, Option, Some, None}
use Rattle.json.specs.Token.{Token, begin_object, end_object, key, string as string_token}
use Rattle.serde_json.specs.Data.{Data, string, array, object, no_members, member}
use Rattle.node_tree.specs.Nodes.{Nodes, none, Branch}
use Rattle.node_tree.specs.Labels.{Pair, Label}
use Rattle.node_tree.specs.declared.Kind.{Kind}
use Rattle.node_tree.specs.declared.Kind.TheVariants.{Document, Element, Text, Comment, Doctype}
use Rattle.page_tree.specs.Loads.{pairs_of, attributes_spelled, node_spelled, forms_of}
use Rattle.page_forms.specs.Spelt.{ValueForm, ListForm, FieldForm}
use Rattle.page_forms.specs.declared.node_scan.Next.{Next}
use Rattle.page_forms.specs.declared.node_scan.Next.TheVariants.{Attributes, Children, End}

-- ---- nodes of one text

-- the node of that label, without children
abbrev pub leaf : Label → Branch Label
leaf l = record { row = l; children = none }

-- the name of the field that holds the text of a node of that kind; a document has none
abbrev pub text_field : Kind → Option (List ℕ)
text_field Document = None
text_field Element = Some (codes "e")
text_field Text = Some (codes "t")
text_field Comment = Some (codes "k")
text_field Doctype = Some (codes "d")

-- an object of that text alone
abbrev pub text_data : List ℕ → List ℕ → Data
text_data name text = object (member name (string text) no_members)

-- ---- elements

-- the start of an element of that name, before the other tokens
abbrev pub element_tokens : List ℕ → List Token → List Token
element_tokens name rest = begin_object ∷ (key (codes "e") ∷ (string_token name ∷ rest))

-- the token that comes next behind a name
abbrev pub next_token : Next → Token
next_token Attributes = key (codes "a")
next_token Children = key (codes "c")
next_token End = end_object

-- names and values in turn
abbrev pub pairs_form : ListForm (List Pair)
pairs_form = record { levels = 0; reads = pairs_of }

-- attributes in the order of their names
abbrev pub attributes_form : ListForm (List Pair)
attributes_form = record { levels = 0; reads = λ ds. attributes_spelled (array ds) }

-- the attributes of an element
abbrev pub attribute_field : FieldForm (List Pair)
attribute_field = record { name = codes "a"; list = attributes_form; absent = [] }

-- ---- nodes

-- a node with at most so many levels
abbrev pub node_form : ℕ → Bool → ValueForm (Branch Label)
node_form levels top = record { levels = 2 * levels; reads = node_spelled top }

-- nodes with at most so many levels each
abbrev pub nodes_form : ℕ → Bool → ListForm (Nodes Label)
nodes_form levels top = record { levels = 2 * levels; reads = forms_of top }

-- the children of an element
abbrev pub child_field : ℕ → FieldForm (Nodes Label)
child_field levels = record { name = codes "c"; list = nodes_form levels false; absent = none }
