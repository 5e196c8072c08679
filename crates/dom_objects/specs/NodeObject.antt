-- One node as a JSON object: its fields, and what has to hold across them. Its children are left as the items of an array.
use Rattle.std.specs.Prelude.{ℕ, ◌==◌, List, [], ◌∷◌, Bool, true, false, not, ◌&&◌, ◌||◌, cond, nat_lt, codes, Option, Some, None}
use Rattle.std.specs.Prelude.{option_map, is_some, unwrap_or, bytes_eq, ⊤}
use Rattle.std.specs.Str.{str_to_ascii_uppercase}
use Rattle.serde_json.specs.Data.{Data, object, Items, no_items, no_members, member}
use Rattle.serde_json.specs.Events.{items_len}
use Rattle.cdp_json.specs.Kinds.{Kind as Description, whole, text, any_items, is_counted, holds_of_some, refined, through, list_of}
use Rattle.cdp_json.specs.Rows.{Row, maybe_member, ends, and_need, and_may, object_of}
use Rattle.node_tree.specs.declared.Kind.{Kind}
use Rattle.node_tree.specs.declared.Kind.TheVariants.{Document, Element, Text, Comment, Doctype}
use Rattle.node_tree.specs.Labels.{Pair, Label, is_document, is_element, holds, is_formed_label, is_named_label}
use Rattle.node_tree.specs.Seen.{Hold, leaf, counted, opened, is_opened}
use Rattle.dom_objects.specs.declared.node_rules.Manner.{Manner}
use Rattle.dom_objects.specs.declared.node_rules.Manner.TheVariants.{Pushed, Described}
use Rattle.dom_objects.specs.Told.{Told, hold_of}

-- ---- the fields

-- the fields of a node's object; an optional one is `None` where it is absent
pub record NodeObject : Type 0 where
  pub attributes : Option (List Pair)
  pub serial : ℕ
  pub count : Option ℕ
  pub children : Option Items
  pub local_name : List ℕ
  pub id : ℕ
  pub name : List ℕ
  pub kind : Kind
  pub value : List ℕ
  pub parent : Option ℕ

-- names and values in turn
abbrev pub flat : List Pair → List (List ℕ)
flat [] = []
flat (p ∷ ps) = p.0 ∷ p.1 ∷ flat ps

-- names and values out of one list; none where a value is missing
abbrev pub paired : List (List ℕ) → Option (List Pair)
paired [] = Some []
paired (name ∷ []) = None
paired (name ∷ value ∷ rest) = option_map (λ ps. (name, value) ∷ ps) (paired rest)

-- `attributes`: one list of names and values
abbrev pub attribute_list : Description (List Pair)
attribute_list = through (list_of text) flat paired

-- the numbers of node types (DOM, section 4.4)
abbrev pub type_number : Kind → ℕ
type_number Element = 1
type_number Text = 3
type_number Comment = 8
type_number Document = 9
type_number Doctype = 10

-- the first of a list that has this number
abbrev pub first_numbered : {T : Type 0} → (T → ℕ) → List T → ℕ → Option T
first_numbered number [] n = None
first_numbered number (x ∷ xs) n = cond (number x == n) (Some x) (first_numbered number xs n)

-- the kind of a type number
abbrev pub kind_of_type : ℕ → Option Kind
kind_of_type = first_numbered type_number (Element ∷ Text ∷ Comment ∷ Document ∷ Doctype ∷ [])

-- `nodeType`: a kind by its number
abbrev pub node_type : Description Kind
node_type = through whole type_number kind_of_type

-- the fields from `localName` on as pairs, in the order of their names
abbrev pub LastFields : Type 0
LastFields = List ℕ × (ℕ × (List ℕ × (Kind × (List ℕ × (Option ℕ × ⊤)))))

-- the fields behind the attributes
abbrev pub LaterFields : Type 0
LaterFields = ℕ × (Option ℕ × (Option Items × LastFields))

-- all fields
abbrev pub Fields : Type 0
Fields = Option (List Pair) × LaterFields

-- the fields of `DOM.Node` from `localName` on
abbrev pub last_row : Row LastFields
last_row =
    and_need (codes "localName") text
    (and_need (codes "nodeId") whole
    (and_need (codes "nodeName") text
    (and_need (codes "nodeType") node_type
    (and_need (codes "nodeValue") text
    (and_may (codes "parentId") whole ends)))))

-- the fields of `DOM.Node` behind the attributes
abbrev pub later_row : Row LaterFields
later_row =
    and_need (codes "backendNodeId") whole
    (and_may (codes "childNodeCount") whole
    (and_may (codes "children") any_items last_row))

-- the fields of `DOM.Node`
abbrev pub node_row : Row Fields
node_row = and_may (codes "attributes") attribute_list later_row

-- an object as pairs
abbrev pub fields_of : NodeObject → Fields
fields_of o = (o.attributes, (o.serial, (o.count, (o.children, (o.local_name, (o.id, (o.name, (o.kind, (o.value, (o.parent, tt))))))))))

-- pairs as an object
abbrev pub of_fields : Fields → NodeObject
of_fields f = record {
  attributes = f.0;
  serial = f.1.0;
  count = f.1.1.0;
  children = f.1.1.1.0;
  local_name = f.1.1.1.1.0;
  id = f.1.1.1.1.1.0;
  name = f.1.1.1.1.1.1.0;
  kind = f.1.1.1.1.1.1.1.0;
  value = f.1.1.1.1.1.1.1.1.0;
  parent = f.1.1.1.1.1.1.1.1.1.0;
}

-- an object with the fields of a node, by their values
abbrev pub node_members : Option Data → Data → Option Data → Option Data → Data → Data → Data → Data → Data → Option Data → Data
node_members a s c k l i n t v p = object
    (maybe_member (codes "attributes") a
    (member (codes "backendNodeId") s
    (maybe_member (codes "childNodeCount") c (maybe_member (codes "children") k (member (codes "localName") l
    (member (codes "nodeId") i (member (codes "nodeName") n
    (member (codes "nodeType") t (member (codes "nodeValue") v (maybe_member (codes "parentId") p no_members))))))))))

-- an object with these fields in these forms, whatever they say together
abbrev pub node_fields : Description NodeObject
node_fields = through (object_of node_row) fields_of (λ f. Some (of_fields f))

-- ---- what is written for a node

-- `nodeName` (DOM, section 4.4): an element's is in ASCII upper case
abbrev pub name_shown : Kind → List ℕ → List ℕ
name_shown Document name = codes "#document"
name_shown Element name = str_to_ascii_uppercase name
name_shown Text name = codes "#text"
name_shown Comment name = codes "#comment"
name_shown Doctype name = name

-- `localName`: an element's name
abbrev pub local_name_of : Kind → List ℕ → List ℕ
local_name_of k name = cond (is_element k) name []

-- `nodeName` of a label
abbrev pub node_name : Label → List ℕ
node_name l = name_shown l.kind l.name

-- `localName` of a label
abbrev pub local_name : Label → List ℕ
local_name l = local_name_of l.kind l.name

-- the value, where the test holds
abbrev pub only_if : {A : Type 0} → Bool → A → Option A
only_if b x = cond b (Some x) None

-- the object of a told row, with these children
abbrev pub node_object_with : Told → Option Items → NodeObject
node_object_with r children = record {
  attributes = only_if (is_element r.seen.label.kind) r.seen.label.attributes;
  serial = r.seen.serial;
  count = only_if (holds r.seen.label.kind) r.count;
  children = children;
  local_name = local_name r.seen.label;
  id = r.seen.id;
  name = node_name r.seen.label;
  kind = r.seen.label.kind;
  value = r.seen.label.value;
  parent = only_if (nat_lt 0 r.parent) r.parent;
}

-- the object of a told row, with these as its children where they are shown
abbrev pub object_for : Told → Items → NodeObject
object_for r ds = node_object_with r (only_if (is_opened r.seen.hold) ds)

-- a told row's JSON, with these as its children where they are shown
abbrev pub node_data : Told → Items → Data
node_data r ds = node_fields.spell (object_for r ds)

-- ---- what a node's object says

-- an element's name is its `localName`, a doctype's its `nodeName`
abbrev pub name_in : Kind → List ℕ → List ℕ → List ℕ
name_in Document local name = []
name_in Element local name = local
name_in Text local name = []
name_in Comment local name = []
name_in Doctype local name = name

-- what the fields say of the node itself
abbrev pub label_in : NodeObject → Label
label_in o = record { kind = o.kind; name = name_in o.kind o.local_name o.name; value = o.value; attributes = unwrap_or o.attributes [] }

-- what the fields tell
abbrev pub told_in : NodeObject → Told
told_in o = record {
  parent = unwrap_or o.parent 0;
  count = unwrap_or o.count 0;
  seen = record {
    id = o.id;
    serial = o.serial;
    label = label_in o;
    hold = hold_of (is_some o.children) (holds o.kind) (unwrap_or o.count 0);
  };
}

-- the items of `children`, none where it is absent
abbrev pub children_shown : NodeObject → Items
children_shown o = unwrap_or o.children no_items

-- ---- which rows have an object

-- two tests agree
abbrev pub same : Bool → Bool → Bool
same true b = b
same false b = not b

-- what is shown below a node is as its kind and its number of children say
abbrev pub fits_hold : Hold → Bool → ℕ → ℕ → Bool
fits_hold leaf container count width = not container && (count == 0)
fits_hold (counted n) container count width = container && (n == count)
fits_hold opened container count width = container && (count == width)

-- The document is at the top, alone there and alone without a parent; ids and serials are from 1; names have their forms.
abbrev pub fits_place : Bool → ℕ → Told → Bool
fits_place top width r =
    nat_lt 0 r.seen.id && nat_lt 0 r.seen.serial && is_formed_label r.seen.label && is_named_label r.seen.label
    && same (is_document r.seen.label.kind) top && same (r.parent == 0) top
    && fits_hold r.seen.hold (holds r.seen.label.kind) r.count width

-- The same of nodes that are described alone: they have neither an id nor a parent, and the top may be a document or not.
abbrev pub fits_described : Bool → ℕ → Told → Bool
fits_described top width r =
    (r.seen.id == 0) && nat_lt 0 r.seen.serial && is_formed_label r.seen.label && is_named_label r.seen.label
    && (top || not (is_document r.seen.label.kind)) && (r.parent == 0)
    && fits_hold r.seen.hold (holds r.seen.label.kind) r.count width

-- what has to hold across the fields of nodes that are told in this manner
abbrev pub fits_told : Manner → Bool → ℕ → Told → Bool
fits_told Pushed top width r = fits_place top width r
fits_told Described top width r = fits_described top width r

-- each number is below 2^53
abbrev pub is_counted_row : Told → Bool
is_counted_row r = is_counted r.seen.id && is_counted r.seen.serial && is_counted r.count && is_counted r.parent

-- a row that has an object in this manner, with that many children shown
abbrev pub row_fits : Manner → Bool → ℕ → Told → Bool
row_fits manner top width r = is_counted_row r && fits_told manner top width r

-- what has to hold of a row of a session
abbrev pub fits_row : Bool → ℕ → Told → Bool
fits_row top width r = row_fits Pushed top width r

-- the fields say the same as the row that they tell
abbrev pub agrees : NodeObject → Bool
agrees o =
    same (is_some o.attributes) (is_element o.kind) && same (is_some o.count) (holds o.kind)
    && bytes_eq o.local_name (local_name (label_in o)) && bytes_eq o.name (node_name (label_in o))
    && holds_of_some (nat_lt 0) o.parent

-- an object that tells a node in this manner
abbrev pub tells : Manner → Bool → NodeObject → Bool
tells manner top o = agrees o && fits_told manner top (items_len (children_shown o)) (told_in o)

-- the object of a node, at the top or not
abbrev pub node_object : Manner → Bool → Description NodeObject
node_object manner top = refined node_fields (tells manner top)
