-- Messages that tell nodes, by what is written before the nodes, of each node, and behind them.
use Rattle.std.specs.Prelude.{ℕ, List, [], ◌∷◌, ◌++◌, codes, Some}
use Rattle.json.specs.Token.{Token, begin_object, end_object, key}
use Rattle.serde_json.specs.Data.{Data, object, no_members, member}
use Rattle.cdp_json.specs.Kinds.{whole, text}
use Rattle.cdp_messages.specs.declared.node_message.NodeMessage.{NodeMessage}
use Rattle.cdp_messages.specs.declared.node_message.NodeMessage.TheVariants.{Root, Node, Children, Inserted}
use Rattle.cdp_messages.specs.declared.event_names.EventName.TheVariants.{ChildNodeInserted, SetChildNodes}
use Rattle.dom_objects.specs.Tokens.{field_tokens}
use Rattle.cdp_messages.specs.Events.{event_name, envelope}
use Rattle.cdp_messages.specs.Replies.{reply, message_data}

-- ---- a message

-- the JSON of a message that tells this: the JSON of a node, or of an array of nodes
abbrev pub message_with : NodeMessage → Data → Data
message_with (Root id) d = message_data (reply id (object (member (codes "root") d no_members)))
message_with (Node id) d = message_data (reply id (object (member (codes "node") d no_members)))
message_with (Children parent) d = envelope.spell
    (event_name SetChildNodes, (object (member (codes "nodes") d (member (codes "parentId") (whole.spell parent) no_members)), tt))
message_with (Inserted parent previous) d =
    envelope.spell (
      event_name ChildNodeInserted,
      (
        object (member (codes "node") d
            (member (codes "parentNodeId") (whole.spell parent) (member (codes "previousNodeId") (whole.spell previous) no_members))),
        tt,
      ),
    )

-- a reply up to the one member of its result
abbrev pub reply_opening : ℕ → List ℕ → List Token
reply_opening id name = begin_object
    ∷ (field_tokens (codes "id") (Some (whole.spell id)) ++ key (codes "result") ∷ begin_object ∷ key name ∷ [])

-- an event of that method up to the first of its parameters
abbrev pub event_opening : List ℕ → List ℕ → List Token
event_opening method name = begin_object
    ∷ (field_tokens (codes "method") (Some (text.spell method)) ++ key (codes "params") ∷ begin_object ∷ key name ∷ [])

-- what is written before the nodes
abbrev pub opening_tokens : NodeMessage → List Token
opening_tokens (Root id) = reply_opening id (codes "root")
opening_tokens (Node id) = reply_opening id (codes "node")
opening_tokens (Children parent) = event_opening (event_name SetChildNodes) (codes "nodes")
opening_tokens (Inserted parent previous) = event_opening (event_name ChildNodeInserted) (codes "node")

-- the fields behind the nodes, which an event alone has
abbrev pub fields_behind : NodeMessage → List Token
fields_behind (Root id) = []
fields_behind (Node id) = []
fields_behind (Children parent) = field_tokens (codes "parentId") (Some (whole.spell parent))
fields_behind (Inserted parent previous) = field_tokens (codes "parentNodeId") (Some (whole.spell parent))
    ++ field_tokens (codes "previousNodeId") (Some (whole.spell previous))

-- what is written behind the nodes
abbrev pub closing_tokens : NodeMessage → List Token
closing_tokens m = fields_behind m ++ end_object ∷ end_object ∷ []
