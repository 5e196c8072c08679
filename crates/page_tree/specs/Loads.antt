-- The nodes of a load, as JSON spells them, and the first fault of a load.
use Rattle.std.specs.Prelude.{◌≡◌, ℕ, suc, ◌+◌, ◌==◌, ◌||◌, Bool, true, false, not, nat_le, cond, List, [], ◌∷◌, Option, Some, None, Result}
use Rattle.std.specs.Prelude.{Ok, Err, is_some, option_map, option_and_then, codes, bytes_eq, Vec}
use Rattle.std.specs.declared.alloc.Global.{Global}
use Rattle.std.specs.Option.{option_map_or}
use Rattle.serde_json.specs.Data.{Data, null, boolean, number, string, array, object, Items, no_items, item, Members, no_members, member}
use Rattle.serde_json.specs.Find.{get, as_str, as_array, as_object}
use Rattle.serde_json.specs.Events.{members_len}
use Rattle.node_tree.specs.Nodes.{Nodes, none, node, Branch, nodes_of, node_count, height}
use Rattle.node_tree.specs.Labels.{Pair, Label}
pub use Rattle.node_tree.specs.LabelChanges.{placed}
use Rattle.node_tree.specs.Keys.{first_of, first_true}
use Rattle.node_tree.specs.declared.Kind.{Kind}
use Rattle.node_tree.specs.declared.Kind.TheVariants.{Element, Text, Comment, Doctype}
use Rattle.page_tree.specs.Forms.{max_nodes, are_named}
use Rattle.node_tree.specs.Levels.{max_level}
use Rattle.page_tree.specs.declared.forms.NodeForm.{NodeForm}
use Rattle.page_tree.specs.declared.faults.LoadFault.{LoadFault}
use Rattle.page_tree.specs.declared.faults.LoadFault.TheVariants.{BadForm, TooDeep, TooMany, BadName}
use Rattle.page_tree.specs.declared.faults.LoadErr.{LoadErr}
use Rattle.page_tree.specs.declared.faults.LoadErr.TheVariants.{Fault, Memory}

-- ---- attributes: a flat list of names and values

-- names and values in turn, as pairs; None where a name has no value or an item is not a string
abbrev pub pairs_of : Items → Option (List Pair)
pairs_of no_items = Some []
pairs_of (item n no_items) = None
pairs_of (item n (item v ds)) = option_and_then
    (λ name. option_and_then (λ value. option_map (λ ps. (name, value) ∷ ps) (pairs_of ds)) (as_str v)) (as_str n)

-- some pair has the name
abbrev pub is_taken : List ℕ → List Pair → Bool
is_taken name [] = false
is_taken name (p ∷ ps) = bytes_eq name p.0 || is_taken name ps

-- The pairs in ascending order of their names' bytes, put one after another in their places among those that are in order
-- already; None where a name is there twice.
abbrev pub in_order : List Pair → List Pair → Option (List Pair)
in_order ordered [] = Some ordered
in_order ordered (p ∷ ps) = cond (is_taken p.0 ordered) None (in_order (placed p ordered) ps)

-- the attributes that a list spells
abbrev pub attributes_spelled : Data → Option (List Pair)
attributes_spelled d = option_and_then (in_order []) (option_and_then pairs_of (as_array d))

-- ---- the label of a node

-- how many properties there are
abbrev pub property_count : Data → ℕ
property_count d = option_map_or members_len (as_object d) 0

-- 1 where there is such a property, and else 0
abbrev pub times_of : List ℕ → Data → ℕ
times_of key d = cond (is_some (get key d)) 1 0

-- the text at a property, and at the only property
abbrev pub text_at : List ℕ → Data → Option (List ℕ)
text_at key d = option_and_then as_str (get key d)

-- the text at a property that is the only one
abbrev pub text_alone : List ℕ → Data → Option (List ℕ)
text_alone key d = cond (property_count d == 1) (text_at key d) None

-- the label of that kind, name, value and attributes
abbrev pub labelled : Kind → List ℕ → List ℕ → List Pair → Label
labelled kind name value attributes = record { kind = kind; name = name; value = value; attributes = attributes }

-- the attributes at `a`, which may be absent
abbrev pub attributes_at : Data → Option (List Pair)
attributes_at d = option_map_or attributes_spelled (get (codes "a") d) (Some [])

-- the name at `e`, where there is nothing else but `a` and `c`
abbrev pub element_name : Data → Option (List ℕ)
element_name d = cond (property_count d == 1 + times_of (codes "a") d + times_of (codes "c") d) (text_at (codes "e") d) None

-- the label of the element that an object spells
abbrev pub element_label : Data → Option Label
element_label d = option_and_then (λ name. option_map (labelled Element name []) (attributes_at d)) (element_name d)

-- `{"e":NAME,"a":[NAME,VALUE,..],"c":[NODE,..]}`, where `a` and `c` may be absent, `{"t":TEXT}`, `{"k":TEXT}`, and right
-- below the document `{"d":NAME}`, with exactly these properties
abbrev pub label_spelled : Bool → Data → Option Label
label_spelled top d =
    first_of (element_label d)
    (first_of (option_map (λ text. labelled Text [] text []) (text_alone (codes "t") d))
    (first_of (option_map (λ text. labelled Comment [] text []) (text_alone (codes "k") d))
    (cond top (option_map (λ name. labelled Doctype name [] []) (text_alone (codes "d") d)) None)))

-- ---- nodes

-- a node and what is below it, where both are there
abbrev pub branch_of : Option Label → Option (Nodes Label) → Option (Branch Label)
branch_of l n = option_and_then (λ l. option_map (λ n. record { row = l; children = n }) n) l

-- a tree before those that follow it, where both are there
abbrev pub form_before : Option (Branch Label) → Option (Nodes Label) → Option (Nodes Label)
form_before b n = option_and_then (λ b. option_map (node b.row b.children) n) b

-- The node that a value spells, the nodes that a list spells, those that the property `c` of an object lists, and those of
-- its value. `top` says that they stand right below the document.
abbrev mutual
  -- the node that a value spells
  pub node_spelled : Bool → Data → Option (Branch Label)
  node_spelled top null = None
  node_spelled top (boolean b) = None
  node_spelled top (number n) = None
  node_spelled top (string s) = None
  node_spelled top (array ds) = None
  node_spelled top (object ms) = branch_of (label_spelled top (object ms)) (below_of ms)

  -- the nodes that a list spells
  pub forms_of : Bool → Items → Option (Nodes Label)
  forms_of top no_items = Some none
  forms_of top (item d ds) = form_before (node_spelled top d) (forms_of top ds)

  -- the nodes that the property `c` of an object lists; none where it has no such property
  pub below_of : Members → Option (Nodes Label)
  below_of no_members = Some none
  below_of (member key d ms) = cond (bytes_eq (codes "c") key) (nodes_listed d) (below_of ms)

  -- the nodes of an array, and of nothing else
  pub nodes_listed : Data → Option (Nodes Label)
  nodes_listed null = None
  nodes_listed (boolean b) = None
  nodes_listed (number n) = None
  nodes_listed (string s) = None
  nodes_listed (array ds) = forms_of false ds
  nodes_listed (object ms) = None

-- the nodes that a load lists
abbrev pub nodes_in : Data → Option (Nodes Label)
nodes_in d = option_and_then (forms_of true) (as_array d)

-- the one node that a value spells; it may stand at the top
abbrev pub node_in : Data → Option (Branch Label)
node_in d = node_spelled true d

-- the values that the property `c` of an object lists; it may be absent
abbrev pub values_below : Data → Option Items
values_below d = option_and_then (λ _. option_map_or as_array (get (codes "c") d) (Some no_items)) (as_object d)

-- ---- faults

-- below a document, no node is on a level beyond the highest
abbrev pub are_low : Nodes Label → Bool
are_low n = nat_le (height n) max_level

-- the nodes and a document are no more than a page may have
abbrev pub are_few : Nodes Label → Bool
are_few n = nat_le (suc (node_count n)) max_nodes

-- the faults that nodes may have, each with whether they have it, in the order in which they count
abbrev pub limit_faults : Nodes Label → List (LoadFault × Bool)
limit_faults n = (TooDeep, not (are_low n)) ∷ (TooMany, not (are_few n)) ∷ (BadName, not (are_named n)) ∷ []

-- the first fault of a load, by number
abbrev pub first_load_fault : Option (Nodes Label) → Option LoadFault
first_load_fault None = Some BadForm
first_load_fault (Some n) = first_true (limit_faults n)

-- What a read of a load's list answers: its nodes where there is no fault, and else the first fault. Want of memory is free.
abbrev pub Reads : Result (Vec NodeForm Global) LoadErr → Option (Nodes Label) → Type 0
Reads (Ok forms) nodes = (nodes ≡ Some (nodes_of forms.items)) × (first_load_fault nodes ≡ None)
Reads (Err (Fault f)) nodes = first_load_fault nodes ≡ Some f
Reads (Err Memory) nodes = Unit {0}

-- What putting rows together answers: the nodes of these rows, or their first fault. Whether they are few and well named is not judged.
-- Want of memory is free.
abbrev pub Nests : Result (Vec NodeForm Global) LoadErr → Option (Nodes Label) → Type 0
Nests (Ok forms) nodes = nodes ≡ Some (nodes_of forms.items)
Nests (Err (Fault f)) nodes = first_load_fault nodes ≡ Some f
Nests (Err Memory) nodes = Unit {0}

-- What a read of one node answers: the node that the value spells, and BadForm where it spells none. Want of memory is free.
abbrev pub ReadsNode : Result NodeForm LoadErr → Option (Branch Label) → Type 0
ReadsNode (Ok form) spelt = spelt ≡ Some form
ReadsNode (Err (Fault f)) spelt = (f ≡ BadForm) × (spelt ≡ None)
ReadsNode (Err Memory) spelt = Unit {0}
