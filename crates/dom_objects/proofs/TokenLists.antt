-- Nodes that are written, as tokens one after the other.
use Rattle.std.proofs.Common.{◌≡◌, ℕ, ◌≤◌, List, [], ◌∷◌, ◌++◌, length, take, map, Option, Some, Result, Ok, Err}
use Rattle.std.proofs.Common.{Vec, Global, OnOk, IsOk, IsUtf8, append_assoc, refl, sym, ap, ap₂, ◌∙◌, subst}
use Rattle.std.specs.Prelude.{codes, nat_lt, flat_map, option_map}
use Rattle.json.specs.Token.{Token, begin_object, end_object, begin_array, end_array, key, string}
use Rattle.json.specs.Print.{print}
use Rattle.json.specs.Tree.{items_tokens}
use Rattle.serde_json.specs.Data as values
use Rattle.serde_json.specs.Data.{Data, array, Items, no_members, member}
use Rattle.serde_json.specs.View.{items_of}
use Rattle.serde_json.specs.Written.{items_outline, compact_text}
use Rattle.serde_json.proofs.Texts.{print-outline}
use Rattle.cdp_json.specs.Kinds.{whole, text}
use Rattle.cdp_json.specs.Rows.{maybe_member}
use Rattle.cdp_json.proofs.WrittenTokens.{rest_tokens, field_first, items_end}
pub use Rattle.cdp_json.proofs.WrittenTokens.{after, after_last, items_turn}
use Rattle.node_tree.specs.Labels.{Pair, Label, is_element, holds}
use Rattle.node_tree.specs.Nodes.{Branch, nodes_of}
use Rattle.node_tree.specs.Seen.{is_opened}
use Rattle.pipe_frames.specs.Frames.{framed}
use Rattle.dom_objects.specs.Told.{Told}
use Rattle.dom_objects.specs.NodeObject.{flat, attribute_list, type_number, node_name, local_name, only_if, node_data, node_members}
use Rattle.dom_objects.specs.NodeObject.{node_fields, node_object_with}
use Rattle.dom_objects.specs.NodeData.{tree_items, tree_data}
use Rattle.dom_objects.specs.Tokens.{data_tokens, field_tokens, head_tokens, tail_tokens}
use Rattle.dom_objects.specs.NodeRows.{unshown}
use Rattle.dom_objects.proofs.Written.{told_tree, written_items, tree_written}

-- ---- a node's object, part after part

-- a node's object behind its children; some of its texts are known by other names
pub tail_written : (old : List Token) (r : Told) {local name value : List ℕ} {number : ℕ} {t1 t2 t3 t4 t5 t6 new : List Token}
    → local ≡ local_name r.seen.label → name ≡ node_name r.seen.label → number ≡ type_number r.seen.label.kind → value ≡ r.seen.label.value
    → t1 ≡ old ++ field_tokens (codes "localName") (Some (text.spell local))
    → t2 ≡ t1 ++ field_tokens (codes "nodeId") (Some (whole.spell r.seen.id))
    → t3 ≡ t2 ++ field_tokens (codes "nodeName") (Some (text.spell name))
    → t4 ≡ t3 ++ field_tokens (codes "nodeType") (Some (whole.spell number))
    → t5 ≡ t4 ++ field_tokens (codes "nodeValue") (Some (text.spell value))
    → t6 ≡ t5 ++ field_tokens (codes "parentId") (option_map whole.spell (only_if (nat_lt 0 r.parent) r.parent))
    → new ≡ t6 ++ end_object ∷ [] → new ≡ old ++ tail_tokens r
tail_written old r el en et ev e1 e2 e3 e4 e5 e6 e7 = rw (e7, e6, e5, e4, e3, e2, e1, el, en, et, ev) (simp append_assoc)

-- a node's object up to its children
pub head_written : (old : List Token) (r : Told) {t1 t2 t3 new : List Token} → t1 ≡ old ++ begin_object ∷ []
    → t2 ≡ t1 ++ field_tokens (codes "attributes")
    (option_map attribute_list.spell (only_if (is_element r.seen.label.kind) r.seen.label.attributes))
    → t3 ≡ t2 ++ field_tokens (codes "backendNodeId") (Some (whole.spell r.seen.serial))
    → new ≡ t3 ++ field_tokens (codes "childNodeCount") (option_map whole.spell (only_if (holds r.seen.label.kind) r.count))
    → new ≡ old ++ head_tokens r
head_written old r e1 e2 e3 e4 = rw (e4, e3, e2, e1) (simp append_assoc)

-- ---- the members of an object

regroup : (b : Token) (x y z r : List Token) → b ∷ (x ++ (y ++ (z ++ r))) ≡ (b ∷ (x ++ (y ++ z))) ++ r
regroup b x y z r = ap (λ ts. b ∷ ts) (sym (append_assoc x (y ++ z) r ∙ ap (λ ts. x ++ ts) (append_assoc y z r)))

-- a node's object by its fields
pub object_tokens : (a : Option Data) (s : Data) (c k : Option Data) (l i n t v : Data) (p : Option Data)
    → data_tokens (node_members a s c k l i n t v p)
    ≡ (begin_object ∷ (field_tokens (codes "attributes") a
    ++ (field_tokens (codes "backendNodeId") (Some s) ++ field_tokens (codes "childNodeCount") c)))
    ++ (field_tokens (codes "children") k
    ++ (field_tokens (codes "localName") (Some l)
    ++ (field_tokens (codes "nodeId") (Some i) ++ (field_tokens (codes "nodeName") (Some n)
    ++ (field_tokens (codes "nodeType") (Some t)
    ++ (field_tokens (codes "nodeValue") (Some v) ++ (field_tokens (codes "parentId") p ++ end_object ∷ [])))))))
object_tokens a s c k l i n t v p =
    let t9 = field_tokens (codes "parentId") p ++ end_object ∷ [] in
    let m9 = maybe_member (codes "parentId") p no_members in
    let e9 : rest_tokens m9 ≡ t9 = field_first (codes "parentId") p no_members (end_object ∷ []) refl in
    let m8 = member (codes "nodeValue") v m9 in
    let t8 = field_tokens (codes "nodeValue") (Some v) ++ t9 in
    let e8 : rest_tokens m8 ≡ t8 = field_first (codes "nodeValue") (Some v) m9 t9 e9 in
    let m7 = member (codes "nodeType") t m8 in
    let t7 = field_tokens (codes "nodeType") (Some t) ++ t8 in
    let e7 : rest_tokens m7 ≡ t7 = field_first (codes "nodeType") (Some t) m8 t8 e8 in
    let m6 = member (codes "nodeName") n m7 in
    let t6 = field_tokens (codes "nodeName") (Some n) ++ t7 in
    let e6 : rest_tokens m6 ≡ t6 = field_first (codes "nodeName") (Some n) m7 t7 e7 in
    let m5 = member (codes "nodeId") i m6 in
    let t5 = field_tokens (codes "nodeId") (Some i) ++ t6 in
    let e5 : rest_tokens m5 ≡ t5 = field_first (codes "nodeId") (Some i) m6 t6 e6 in
    let m4 = member (codes "localName") l m5 in
    let t4 = field_tokens (codes "localName") (Some l) ++ t5 in
    let e4 : rest_tokens m4 ≡ t4 = field_first (codes "localName") (Some l) m5 t5 e5 in
    let m3 = maybe_member (codes "children") k m4 in
    let t3 = field_tokens (codes "children") k ++ t4 in
    let e3 : rest_tokens m3 ≡ t3 = field_first (codes "children") k m4 t4 e4 in
    let m2 = maybe_member (codes "childNodeCount") c m3 in
    let t2 = field_tokens (codes "childNodeCount") c ++ t3 in
    let e2 : rest_tokens m2 ≡ t2 = field_first (codes "childNodeCount") c m3 t3 e3 in
    let m1 = member (codes "backendNodeId") s m2 in
    let t1 = field_tokens (codes "backendNodeId") (Some s) ++ t2 in
    let e1 : rest_tokens m1 ≡ t1 = field_first (codes "backendNodeId") (Some s) m2 t2 e2 in
    ap (λ ts. begin_object ∷ ts) (field_first (codes "attributes") a m1 t1 e1)
    ∙ regroup begin_object (field_tokens (codes "attributes") a) (field_tokens (codes "backendNodeId") (Some s))
    (field_tokens (codes "childNodeCount") c) t3

-- a node's object by its row and its children, where they are shown
row_tokens : (r : Told) (k : Option Items)
    → data_tokens (node_fields.spell (node_object_with r k))
    ≡ head_tokens r ++ (field_tokens (codes "children") (option_map array k) ++ tail_tokens r)
row_tokens r k = object_tokens _ _ _ _ _ _ _ _ _ _

-- the same of a told row, over the items of its children
pub node_tokens : (r : Told) (ds : Items)
    → data_tokens (node_data r ds)
    ≡ head_tokens r ++ (field_tokens (codes "children") (option_map array (only_if (is_opened r.seen.hold) ds)) ++ tail_tokens r)
node_tokens r ds = row_tokens r (only_if (is_opened r.seen.hold) ds)

pub tree_tokens : (parent count id serial : ℕ) (label : Label) (o : Option (Vec (Branch Told) Global)) (b : Branch Told)
    → told_tree parent count id serial label o ≡ b
    → head_tokens b.row ++ (field_tokens (codes "children") (option_map array (option_map written_items o)) ++ tail_tokens b.row)
    ≡ data_tokens (tree_data b)
tree_tokens parent count id serial label o b e =
    sym (row_tokens b.row (option_map written_items o)) ∙ ap data_tokens
    (tree_written parent count id serial label o b (option_map written_items o) e refl)

-- a node whose children are written, and one whose children are not shown
pub shown_written : (parent count id serial : ℕ) (label : Label) (o : Option (Vec (Branch Told) Global)) (ts : Vec (Branch Told) Global)
    (b : Branch Told) (r : Told) (old : List Token) {t1 t2 t3 new : List Token}
    → told_tree parent count id serial label o ≡ b → o ≡ Some ts → r ≡ unshown b.row → t1 ≡ old ++ head_tokens r
    → t2 ≡ t1 ++ key (codes "children") ∷ []
    → t3 ≡ t2 ++ data_tokens (array (tree_items (nodes_of ts.items))) → new ≡ t3 ++ tail_tokens r → new ≡ old ++ data_tokens (tree_data b)
shown_written parent count id serial label o ts b r old {t1 = t1} {t2 = t2} {t3 = t3} {new = new} told is same head e2 e3 tail =
    let e1 : t1 ≡ old ++ head_tokens b.row = head ∙ ap (λ x. old ++ head_tokens x) same in
    let e4 : new ≡ t3 ++ tail_tokens b.row = tail ∙ ap (λ x. t3 ++ tail_tokens x) same in
    let written = tree_tokens parent count id serial label (Some ts) b
    (subst (λ x. told_tree parent count id serial label x ≡ b) is told) in
    after old (head_tokens b.row) (field_tokens (codes "children") (Some (array (tree_items (nodes_of ts.items)))) ++ tail_tokens b.row) e1
    (after t1 (key (codes "children") ∷ []) (data_tokens (array (tree_items (nodes_of ts.items))) ++ tail_tokens b.row) e2
    (after t2 (data_tokens (array (tree_items (nodes_of ts.items)))) (tail_tokens b.row) e3 e4))
    ∙ ap (λ xs. old ++ xs) written

-- ---- the items of an array

abbrev pub pair_tokens : Pair → List Token
pair_tokens p = string p.0 ∷ string p.1 ∷ []

abbrev pub branch_tokens : Branch Told → List Token
branch_tokens b = data_tokens (tree_data b)

pub pairs_tokens : (ps : List Pair)
    → items_tokens (items_outline (items_of (map values.string (flat ps)))) ≡ flat_map pair_tokens ps ++ end_array ∷ []
pairs_tokens [] = refl
pairs_tokens (p ∷ ps) = ap (λ ts. string p.0 ∷ string p.1 ∷ ts) (pairs_tokens ps)

pub branches_tokens : (bs : List (Branch Told))
    → items_tokens (items_outline (tree_items (nodes_of bs))) ≡ flat_map branch_tokens bs ++ end_array ∷ []
branches_tokens [] = refl
branches_tokens (b ∷ bs) = ap (λ ts. branch_tokens b ++ ts) (branches_tokens bs) ∙ sym
    (append_assoc (branch_tokens b) (flat_map branch_tokens bs) (end_array ∷ []))

pub pairs_end : (old now last : List Token) (ps : List Pair) → now ≡ (old ++ begin_array ∷ []) ++ flat_map pair_tokens ps
    → last ≡ now ++ end_array ∷ [] → last ≡ old ++ data_tokens (attribute_list.spell ps)
pairs_end old now last ps so framed =
    after old (begin_array ∷ []) (flat_map pair_tokens ps ++ end_array ∷ []) refl
    (after (old ++ begin_array ∷ []) (flat_map pair_tokens ps) (end_array ∷ []) so framed)
    ∙ ap (λ ts. old ++ (begin_array ∷ ts)) (sym (pairs_tokens ps))

pub branches_end : (old start now last : List Token) (bs cs : List (Branch Told)) (i : ℕ) → length bs ≤ i → bs ≡ cs
    → start ≡ old ++ begin_array ∷ []
    → now ≡ start ++ flat_map branch_tokens (take i bs) → last ≡ now ++ end_array ∷ []
    → last ≡ old ++ data_tokens (array (tree_items (nodes_of cs)))
branches_end old start now last bs cs i all same begun so framed =
    items_end branch_tokens old start now last bs i all begun so framed
    ∙ ap (λ ts. old ++ (begin_array ∷ ts)) (sym (branches_tokens bs)) ∙ ap
    (λ ds. old ++ data_tokens (array (tree_items (nodes_of ds)))) same

-- ---- a frame

text_is : (ts : List Token) {us : List Token} (d : Data) → us ≡ [] → ts ≡ us ++ data_tokens d → print ts ≡ compact_text d
text_is ts d none e = ap print (e ∙ ap (λ us. us ++ data_tokens d) none) ∙ print-outline d

pub frame_is : {E : Type 0} (written result : Result (Unit {0}) E) (old before now : List ℕ) (us ts : List Token) (d : Data) → us ≡ []
    → OnOk written (ts ≡ us ++ data_tokens d) → OnOk result (IsOk written)
    → before ≡ old → OnOk result (now ≡ before ++ framed (print ts)) → OnOk result (now ≡ old ++ framed (compact_text d))
frame_is (Ok u) (Ok w) old before now us ts d begun e done b n = n ∙ ap₂ (λ xs ys. xs ++ framed ys) b (text_is ts d begun e)
frame_is (Ok u) (Err x) old before now us ts d begun e done b n = tt
frame_is (Err x) (Ok w) old before now us ts d begun e done b n = absurd cc
frame_is (Err x) (Err y) old before now us ts d begun e done b n = tt

pub frame_utf8 : {E : Type 0} (written result : Result (Unit {0}) E) (us ts : List Token) (d : Data) → us ≡ []
    → OnOk written (ts ≡ us ++ data_tokens d) → OnOk result (IsOk written)
    → OnOk result (IsUtf8 (print ts)) → OnOk result (IsUtf8 (compact_text d))
frame_utf8 (Ok u) (Ok w) us ts d begun e done b = subst IsUtf8 (text_is ts d begun e) b
frame_utf8 (Ok u) (Err x) us ts d begun e done b = tt
frame_utf8 (Err x) (Ok w) us ts d begun e done b = absurd cc
frame_utf8 (Err x) (Err y) us ts d begun e done b = tt

-- a frame that was written behind what it begins with
pub frame_sent : {E : Type 0} (written result : Result (Unit {0}) E) (old before now : List ℕ) (us ts : List Token) (d : Data) → us ≡ []
    → OnOk written (ts ≡ us ++ data_tokens d) → before ≡ old
    → (OnOk written (ts ≡ data_tokens d) → OnOk result (now ≡ before ++ framed (compact_text d)))
    → OnOk result (now ≡ old ++ framed (compact_text d))
frame_sent (Err x) result old before now us ts d begun e b done = subst
    (λ (l : List ℕ). OnOk result (now ≡ l ++ framed (compact_text d))) b (done tt)
frame_sent (Ok u) result old before now us ts d begun e b done =
    subst (λ (l : List ℕ). OnOk result (now ≡ l ++ framed (compact_text d))) b (done (e ∙ ap (λ xs. xs ++ data_tokens d) begun))

pub sent_utf8 : {E : Type 0} (written result : Result (Unit {0}) E) (us ts : List Token) (d : Data) → us ≡ []
    → OnOk written (ts ≡ us ++ data_tokens d)
    → (OnOk written (ts ≡ data_tokens d) → OnOk result (IsUtf8 (compact_text d))) → OnOk result (IsUtf8 (compact_text d))
sent_utf8 (Err x) result us ts d begun e done = done tt
sent_utf8 (Ok u) result us ts d begun e done = done (e ∙ ap (λ xs. xs ++ data_tokens d) begun)
