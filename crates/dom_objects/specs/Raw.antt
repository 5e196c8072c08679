-- The fields of a node's object as code holds them.
use Rattle.std.specs.Prelude.{ℕ, List, [], ◌∷◌, ◌++◌, codes, Bool, cond, Option, Some, None, option_map, is_some, unwrap_or, Vec}
use Rattle.std.specs.declared.alloc.Global.{Global}
use Rattle.json.specs.Token.{Token, end_object}
use Rattle.serde_json.specs.Data.{Items}
use Rattle.serde_json.specs.View.{items_view}
use Rattle.cdp_json.specs.Kinds.{whole, text}
use Rattle.node_tree.specs.Labels.{Pair, holds}
use Rattle.node_tree.specs.Nodes.{Branch, nodes_of}
use Rattle.dom_objects.specs.declared.node_read.NodeParts.{NodeParts}
use Rattle.dom_objects.specs.declared.node_read.RawNode.{RawNode}
use Rattle.dom_objects.specs.declared.node_read.Behind.{Behind}
use Rattle.dom_objects.specs.declared.node_read.Names.{Names}
use Rattle.dom_objects.specs.Told.{Told, hold_of, shown_children}
use Rattle.dom_objects.specs.NodeObject.{NodeObject, LastFields, node_type, label_in}
use Rattle.dom_objects.specs.NodeData.{tree_items}
use Rattle.dom_objects.specs.Tokens.{field_tokens}

-- the fields of a node, with these as its children, as numbers, texts and items
abbrev pub object_over : NodeParts → Option Items → NodeObject
object_over r children = record {
  attributes = r.attributes;
  serial = r.serial;
  count = r.count;
  children = children;
  local_name = r.local_name.now;
  id = r.id;
  name = r.name.now;
  kind = r.kind;
  value = r.value.now;
  parent = r.parent;
}

-- what the fields tell where children are shown, or none
abbrev pub told_over : NodeParts → Bool → Told
told_over r shown = record {
  parent = unwrap_or r.parent 0;
  count = unwrap_or r.count 0;
  seen = record {
    id = r.id;
    serial = r.serial;
    label = label_in (object_over r None);
    hold = hold_of shown (holds r.kind) (unwrap_or r.count 0);
  };
}

-- the tree that the fields tell with these children, which are shown where there are some
abbrev pub tree_over : NodeParts → Option (Vec (Branch Told) Global) → Branch Told
tree_over r children = record { row = told_over r (is_some children); children = shown_children children }

-- the fields of a node whose last ones were read together
abbrev pub object_behind : Option (List Pair) → ℕ → Option ℕ → Behind → NodeObject
object_behind attributes serial count b = record {
  attributes = attributes;
  serial = serial;
  count = count;
  children = None;
  local_name = b.local_name.now;
  id = b.id;
  name = b.name.now;
  kind = b.kind;
  value = b.value.now;
  parent = b.parent;
}

-- the last fields of a node as pairs
abbrev pub last_fields : Behind → LastFields
last_fields b = (b.local_name.now, (b.id, (b.name.now, (b.kind, (b.value.now, (b.parent, tt))))))

-- the tokens of the fields from `localName` to `nodeType`
abbrev pub names_tokens : Names → List Token
names_tokens n =
    field_tokens (codes "localName") (Some (text.spell n.local_name.now))
    ++ (field_tokens (codes "nodeId") (Some (whole.spell n.id))
    ++ (field_tokens (codes "nodeName") (Some (text.spell n.name.now))
    ++ field_tokens (codes "nodeType") (Some (node_type.spell n.kind))))

-- the tokens of these last fields, and the end of the object
abbrev pub behind_tokens : Behind → List Token
behind_tokens b =
    field_tokens (codes "localName") (Some (text.spell b.local_name.now))
    ++ (field_tokens (codes "nodeId") (Some (whole.spell b.id))
    ++ (field_tokens (codes "nodeName") (Some (text.spell b.name.now))
    ++ (field_tokens (codes "nodeType") (Some (node_type.spell b.kind))
    ++ (field_tokens (codes "nodeValue") (Some (text.spell b.value.now))
    ++ (field_tokens (codes "parentId") (option_map whole.spell b.parent) ++ end_object ∷ [])))))

-- the field after the number of children: the children, where they are shown
abbrev pub next_name : Bool → List ℕ
next_name shown = cond shown (codes "children") (codes "localName")

-- the children that are shown, as the items of an array
abbrev pub items_shown : Option (Vec (Branch Told) Global) → Option Items
items_shown o = option_map (λ trees. tree_items (nodes_of trees.items)) o

-- the fields with their children
abbrev pub object_in : RawNode → NodeObject
object_in r = object_over r.parts (option_map (λ xs. items_view xs.now) r.children)
