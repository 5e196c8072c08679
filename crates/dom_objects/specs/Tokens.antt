-- A node as the tokens of its compact text.
use Rattle.std.specs.Prelude.{List, [], ◌∷◌, ◌++◌, codes, nat_lt, Some, option_map}
use Rattle.json.specs.Token.{Token, begin_object, end_object}
use Rattle.cdp_json.specs.Kinds.{whole, text}
pub use Rattle.cdp_json.specs.Tokens.{data_tokens, field_tokens}
use Rattle.node_tree.specs.Labels.{is_element, holds}
use Rattle.dom_objects.specs.Told.{Told}
use Rattle.dom_objects.specs.NodeObject.{attribute_list, node_type, node_name, local_name, only_if}

-- the tokens of a node's object up to its children
abbrev pub head_tokens : Told → List Token
head_tokens r =
    begin_object ∷ (field_tokens (codes "attributes")
    (option_map attribute_list.spell (only_if (is_element r.seen.label.kind) r.seen.label.attributes))
    ++ (field_tokens (codes "backendNodeId") (Some (whole.spell r.seen.serial))
    ++ field_tokens (codes "childNodeCount") (option_map whole.spell (only_if (holds r.seen.label.kind) r.count))))

-- the tokens of a node's object behind its children
abbrev pub tail_tokens : Told → List Token
tail_tokens r =
    field_tokens (codes "localName") (Some (text.spell (local_name r.seen.label)))
    ++ (field_tokens (codes "nodeId") (Some (whole.spell r.seen.id))
    ++ (field_tokens (codes "nodeName") (Some (text.spell (node_name r.seen.label)))
    ++ (field_tokens (codes "nodeType") (Some (node_type.spell r.seen.label.kind))
    ++ (field_tokens (codes "nodeValue") (Some (text.spell r.seen.label.value))
    ++ (field_tokens (codes "parentId") (option_map whole.spell (only_if (nat_lt 0 r.parent) r.parent)) ++ end_object ∷ [])))))
