-- Tokens that are read one after the other.
use Rattle.std.proofs.Common.{◌≡◌, ℕ, ◌<◌, List, [], ◌∷◌, ◌++◌, length, Bool, Option, Some, None, option_map, decimal}
use Rattle.std.proofs.Common.{append_assoc, sym, ap, ◌∙◌, arith}
use Rattle.std.specs.Prelude.{codes}
use Rattle.json.specs.Json.{after_end_array}
use Rattle.json.specs.Token.{Token, begin_object, end_object, begin_array, key, string, number}
use Rattle.serde_json.specs.Data.{Data, array, Items}
use Rattle.cdp_json.specs.Kinds.{whole, text}
use Rattle.cdp_json.proofs.TakenTokens.{items_step, items_over, shorter}
pub use Rattle.cdp_json.proofs.TakenTokens.{IsRead, none_yet}
use Rattle.node_tree.specs.Labels.{Pair}
use Rattle.node_tree.specs.Nodes.{Branch, nodes_of}
use Rattle.dom_objects.specs.declared.node_read.NodeParts.{NodeParts}
use Rattle.dom_objects.specs.declared.node_read.Behind.{Behind}
use Rattle.dom_objects.specs.declared.node_read.Names.{Names}
use Rattle.dom_objects.specs.Told.{Told}
use Rattle.dom_objects.specs.NodeObject.{NodeObject, attribute_list, node_fields}
use Rattle.dom_objects.specs.NodeData.{tree_items, tree_data}
use Rattle.dom_objects.specs.Tokens.{data_tokens, field_tokens}
use Rattle.dom_objects.specs.Raw.{object_over, object_behind, names_tokens, behind_tokens, next_name}
use Rattle.dom_objects.proofs.TokenLists.{object_tokens, pair_tokens, branch_tokens, pairs_tokens, branches_tokens}

-- ---- the items of an array

pub pairs_step : (start left middle new : List Token) (ps qs : List Pair) (name value : List ℕ) → IsRead pair_tokens start ps left
    → left ≡ string name ∷ middle → middle ≡ string value ∷ new
    → qs ≡ ps ++ (name, value) ∷ [] → IsRead pair_tokens start qs new
pairs_step start left middle new ps qs name value so e1 e2 m = items_step pair_tokens start left new ps qs (name, value) so
    (e1 ∙ ap (λ r. string name ∷ r) e2) m

pub pairs_over : (start left new : List Token) (ps : List Pair) → IsRead pair_tokens start ps left → after_end_array left ≡ Some new
    → start ≡ data_tokens (attribute_list.spell ps) ++ new
pairs_over start left new ps so e = items_over pair_tokens start left new ps so e ∙ ap (λ ts. (begin_array ∷ ts) ++ new)
    (sym (pairs_tokens ps))

pub branches_step : (start left new : List Token) (bs cs : List (Branch Told)) (b : Branch Told) → IsRead branch_tokens start bs left
    → left ≡ data_tokens (tree_data b) ++ new → cs ≡ bs ++ b ∷ []
    → IsRead branch_tokens start cs new
branches_step start left new bs cs b so e m = items_step branch_tokens start left new bs cs b so e m

pub branches_over : (start left new : List Token) (bs : List (Branch Told)) → IsRead branch_tokens start bs left
    → after_end_array left ≡ Some new
    → start ≡ data_tokens (array (tree_items (nodes_of bs))) ++ new
branches_over start left new bs so e = items_over branch_tokens start left new bs so e ∙ ap (λ ts. (begin_array ∷ ts) ++ new)
    (sym (branches_tokens bs))

-- ---- fewer are left

pub pair_shorter : (left middle new : List Token) (name value : List ℕ) → left ≡ string name ∷ middle → middle ≡ string value ∷ new
    → length new < length left
pair_shorter left middle new name value e1 e2 = omega (arith, ap length e1, ap length e2)

pub branch_shorter : (left new : List Token) (b : Branch Told) → left ≡ data_tokens (tree_data b) ++ new → length new < length left
branch_shorter left new b e = shorter begin_object _ left new e

-- ---- a node's object

-- the attributes, and the name behind them
pub attributes_read : (ps : List Pair) {old r1 r2 new : List Token} → old ≡ key (codes "attributes") ∷ r1
    → r1 ≡ data_tokens (attribute_list.spell ps) ++ r2 → r2 ≡ key (codes "backendNodeId") ∷ new
    → old ≡ field_tokens (codes "attributes") (Some (attribute_list.spell ps)) ++ (key (codes "backendNodeId") ∷ new)
attributes_read ps e0 e1 e2 = e0 ∙ ap (λ r. key (codes "attributes") ∷ r) (e1 ∙ ap (λ r. data_tokens (attribute_list.spell ps) ++ r) e2)

-- three parts, one behind the other
in_parts : (a b c new : List Token) {old r1 r2 : List Token} → old ≡ a ++ r1 → r1 ≡ b ++ r2 → r2 ≡ c ++ new
    → old ≡ (a ++ (b ++ c)) ++ new
in_parts a b c new e0 e1 e2 = rw (e0, e1, e2) (simp append_assoc)

-- the last fields by each of the calls that read them
pub behind_read : (n : Names) (value shown : List ℕ) (parent : Option ℕ) (b : Behind) (new : List Token) {old r1 r2 : List Token}
    → shown ≡ value
    → behind_tokens b ≡ names_tokens n ++ (field_tokens (codes "nodeValue") (Some (text.spell shown))
    ++ (field_tokens (codes "parentId") (option_map whole.spell parent) ++ end_object ∷ []))
    → key (codes "localName") ∷ old ≡ names_tokens n ++ r1
    → r1 ≡ field_tokens (codes "nodeValue") (Some (text.spell value)) ++ r2
    → r2 ≡ field_tokens (codes "parentId") (option_map whole.spell parent) ++ (end_object ∷ new)
    → key (codes "localName") ∷ old ≡ behind_tokens b ++ new
behind_read n value shown parent b new is all e0 e1 e2 =
    let last : List Token = field_tokens (codes "parentId") (option_map whole.spell parent) ++ end_object ∷ [] in
    in_parts (names_tokens n) (field_tokens (codes "nodeValue") (Some (text.spell value))) last new e0 e1
    (e2 ∙ sym (append_assoc (field_tokens (codes "parentId") (option_map whole.spell parent)) (end_object ∷ []) new))
    ∙ ap (λ ts. ts ++ new) (ap (λ v. names_tokens n ++ (field_tokens (codes "nodeValue") (Some (text.spell v)) ++ last)) (sym is)
    ∙ sym all)

abbrev with_children : NodeObject → Option Items → NodeObject
with_children o k = record o { children = k }

object_scanned : (parts : NodeParts) (k : Option Items) (attributes : Option (List Pair)) (serial : ℕ) (count : Option ℕ) (b : Behind)
    → object_over parts None ≡ object_behind attributes serial count b
    → data_tokens (node_fields.spell (object_over parts k))
    ≡ (begin_object ∷ (field_tokens (codes "attributes") (option_map attribute_list.spell attributes)
    ++ (field_tokens (codes "backendNodeId") (Some (whole.spell serial))
    ++ field_tokens (codes "childNodeCount") (option_map whole.spell count))))
    ++ (field_tokens (codes "children") (option_map array k) ++ behind_tokens b)
object_scanned parts k attributes serial count b of = ap
    (λ (o : NodeObject). data_tokens (node_fields.spell (with_children o k))) of ∙ object_tokens _ _ _ _ _ _ _ _ _ _

chain : (o : Token) (a s c k b new : List Token) {old r1 m1 r3 m3 m4 : List Token} → old ≡ o ∷ r1 → r1 ≡ a ++ m1 → m1 ≡ s ++ r3
    → r3 ≡ c ++ m3 → m3 ≡ k ++ m4 → m4 ≡ b ++ new → old ≡ ((o ∷ (a ++ (s ++ c))) ++ (k ++ b)) ++ new
chain o a s c k b new e0 e1 e2 e3 e4 e5 = rw (e0, e1, e2, e3, e4, e5) (simp append_assoc)

-- a node by each of the calls that read it
pub scanned : (parts : NodeParts) (k : Option Items) (attributes : Option (List Pair)) (serial : ℕ) (count : Option ℕ) (shown : Bool)
    (b : Behind) (d : Data) (new : List Token) {old r1 r2 r3 r4 r5 : List Token}
    → object_over parts None ≡ object_behind attributes serial count b → d ≡ node_fields.spell (object_over parts k)
    → old ≡ begin_object ∷ r1 → r1
    ≡ field_tokens (codes "attributes") (option_map attribute_list.spell attributes) ++ (key (codes "backendNodeId") ∷ r2)
    → r2 ≡ number (decimal serial) ∷ r3
    → r3 ≡ field_tokens (codes "childNodeCount") (option_map whole.spell count) ++ (key (next_name shown) ∷ r4)
    → key (next_name shown) ∷ r4 ≡ field_tokens (codes "children") (option_map array k) ++ (key (codes "localName") ∷ r5)
    → key (codes "localName") ∷ r5 ≡ behind_tokens b ++ new → old ≡ data_tokens d ++ new
scanned parts k attributes serial count shown b d new of is e0 e1 e2 e3 e4 e5 =
    chain begin_object (field_tokens (codes "attributes") (option_map attribute_list.spell attributes))
    (field_tokens (codes "backendNodeId") (Some (whole.spell serial)))
    (field_tokens (codes "childNodeCount") (option_map whole.spell count)) (field_tokens (codes "children") (option_map array k))
    (behind_tokens b) new
    e0 e1 (ap (λ r. key (codes "backendNodeId") ∷ r) e2) e3 e4 e5
    ∙ ap (λ ts. ts ++ new) (sym (object_scanned parts k attributes serial count b of)) ∙ ap (λ x. data_tokens x ++ new) (sym is)
