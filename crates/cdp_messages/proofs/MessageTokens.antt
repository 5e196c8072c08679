-- The tokens of messages that tell nodes.
use Rattle.std.proofs.Common.{◌≡◌, ℕ, ◌+◌, List, [], ◌∷◌, ◌++◌, Some, append_assoc, sym, ap, ◌∙◌}
use Rattle.std.specs.Prelude.{codes}
use Rattle.json.specs.Token.{Token, begin_object, end_object, key}
use Rattle.serde_json.specs.Data.{Data}
use Rattle.cdp_json.specs.Kinds.{whole, text}
use Rattle.cdp_messages.specs.Events.{event_name}
use Rattle.dom_objects.specs.Tokens.{data_tokens, field_tokens}
use Rattle.cdp_messages.specs.NodeWrites.{message_with, reply_opening, event_opening, opening_tokens, fields_behind, closing_tokens}
use Rattle.cdp_messages.specs.declared.event_names.EventName.TheVariants.{ChildNodeInserted, SetChildNodes}
use Rattle.cdp_messages.specs.declared.node_message.NodeMessage.{NodeMessage}
use Rattle.cdp_messages.specs.declared.node_message.NodeMessage.TheVariants.{Root, Node, Children, Inserted}
use Rattle.dom_objects.proofs.TokenLists.{after}

-- a reply up to the one member of its result
pub reply_opened : (old : List Token) (id : ℕ) (name : List ℕ) {t1 t2 t3 t4 new : List Token} → t1 ≡ old ++ begin_object ∷ []
    → t2 ≡ t1 ++ field_tokens (codes "id") (Some (whole.spell id))
    → t3 ≡ t2 ++ key (codes "result") ∷ [] → t4 ≡ t3 ++ begin_object ∷ [] → new ≡ t4 ++ key name ∷ [] → new ≡ old ++ reply_opening id name
reply_opened old id name e1 e2 e3 e4 e5 = rw (e5, e4, e3, e2, e1) (simp append_assoc)

-- an event up to the first of its parameters
pub event_opened : (old : List Token) (method name : List ℕ) {shown : List ℕ} {t1 t2 t3 t4 new : List Token} → shown ≡ method
    → t1 ≡ old ++ begin_object ∷ []
    → t2 ≡ t1 ++ field_tokens (codes "method") (Some (text.spell shown)) → t3 ≡ t2 ++ key (codes "params") ∷ []
    → t4 ≡ t3 ++ begin_object ∷ [] → new ≡ t4 ++ key name ∷ []
    → new ≡ old ++ event_opening method name
event_opened old method name is e1 e2 e3 e4 e5 = rw (e5, e4, e3, e2, e1, is) (simp append_assoc)

-- a message behind its nodes
pub message_closed : (old : List Token) (m : NodeMessage) {t1 t2 new : List Token} → t1 ≡ old ++ fields_behind m
    → t2 ≡ t1 ++ end_object ∷ [] → new ≡ t2 ++ end_object ∷ [] → new ≡ old ++ closing_tokens m
message_closed old m e1 e2 e3 = rw (e3, e2, e1) (simp append_assoc)

-- the parts of a message
message_tokens : (m : NodeMessage) (d : Data) → opening_tokens m ++ (data_tokens d ++ closing_tokens m) ≡ data_tokens (message_with m d)
message_tokens (Root id) d = ap (λ ts. reply_opening id (codes "root") ++ ts)
    (sym (append_assoc (data_tokens d) (end_object ∷ []) (end_object ∷ [])))
message_tokens (Node id) d = ap (λ ts. reply_opening id (codes "node") ++ ts)
    (sym (append_assoc (data_tokens d) (end_object ∷ []) (end_object ∷ [])))
message_tokens (Children parent) d =
    ap (λ ts. event_opening (event_name SetChildNodes) (codes "nodes") ++ ts)
    (sym (append_assoc (data_tokens d) (field_tokens (codes "parentId") (Some (whole.spell parent)) ++ end_object ∷ [])
    (end_object ∷ [])))
message_tokens (Inserted parent previous) d =
    ap (λ ts. event_opening (event_name ChildNodeInserted) (codes "node") ++ ts)
    (sym (append_assoc (data_tokens d)
    (field_tokens (codes "parentNodeId") (Some (whole.spell parent))
    ++ (field_tokens (codes "previousNodeId") (Some (whole.spell previous)) ++ end_object ∷ [])) (end_object ∷ [])))

-- a message whose nodes were written between its opening and its closing
pub message_written : (old : List Token) (m : NodeMessage) (d : Data) {t1 t2 new : List Token} → t1 ≡ old ++ opening_tokens m
    → t2 ≡ t1 ++ data_tokens d → new ≡ t2 ++ closing_tokens m
    → new ≡ old ++ data_tokens (message_with m d)
message_written old m d {t1 = t1} e1 e2 e3 =
    after old (opening_tokens m) (data_tokens d ++ closing_tokens m) e1 (after t1 (data_tokens d) (closing_tokens m) e2 e3) ∙ ap
    (λ ts. old ++ ts) (message_tokens m d)
