-- A tree of nodes, read level by level.
use Rattle.std.proofs.Common.{◌≡◌, ℕ, zero, suc, ◌+◌, add-one, ◌<◌, ◌≤◌, List, [], ◌∷◌, ◌++◌, length, get_or, drop, Bool, true, false, cond}
use Rattle.std.proofs.Common.{Option, Some, None, option_map, option_and_then, is_some, Vec, Global, Err, refl, sym, ap, ap₂, ◌∙◌, subst}
use Rattle.std.proofs.Common.{arith}
use Rattle.std.specs.Prelude.{codes, unwrap_or}
use Rattle.std.proofs.Math.Seq.{drop-cons}
use Rattle.std.proofs.lemmas.List.{drop_all}
use Rattle.serde_json.specs.Data.{Data, null, boolean, number, string, array, object, Items, Members, no_members, member, depth}
use Rattle.serde_json.specs.Data.{items_depth, members_depth}
use Rattle.serde_json.specs.View.{view, items_view}
use Rattle.serde_json.specs.declared.value.Value.{Value}
use Rattle.cdp_json.specs.Kinds.{if_holds, whole, text, any_items}
use Rattle.cdp_json.specs.Rows.{maybe_member, members_of}
use Rattle.node_tree.specs.Labels.{holds}
use Rattle.node_tree.specs.Nodes.{Nodes, none, node, Branch, nodes_of, beside}
use Rattle.node_tree.proofs.NodeLemmas.{nodes_of-append, beside_assoc}
use Rattle.dom_objects.specs.declared.node_rules.Manner.{Manner}
use Rattle.dom_objects.specs.Told.{Told, hold_of, shown_children}
use Rattle.dom_objects.specs.declared.down_err.DownErr.{DownErr}
use Rattle.dom_objects.specs.declared.down_err.DownErr.TheVariants.{NotMessage, Memory}
use Rattle.dom_objects.specs.Answers.{GivesMessage}
use Rattle.dom_objects.specs.NodeObject.{NodeObject, attribute_list, node_type, node_members, node_row, fields_of, node_fields, label_in}
use Rattle.dom_objects.specs.NodeObject.{told_in, tells}
use Rattle.dom_objects.specs.NodeData.{over, tree_before, tree_told, children_told, trees_of}
use Rattle.dom_objects.proofs.NodeObjects.{fields_lawful}
use Rattle.dom_objects.proofs.NodeTrees.{trees_of_some, children_of-members, object_inside}
use Rattle.dom_objects.proofs.Written.{told_tree}

-- a node by its fields and its children
pub tree_of-read : (m : Manner) (top : Bool) (d : Data) (o : NodeObject) → node_fields.reads d ≡ Some o
    → tree_told m top d ≡ over (if_holds (tells m top) o) (trees_of_some m o.children)
tree_of-read m top null o e = absurd cc
tree_of-read m top (boolean b) o e = absurd cc
tree_of-read m top (number n) o e = absurd cc
tree_of-read m top (string s) o e = absurd cc
tree_of-read m top (array ds) o e = absurd cc
tree_of-read m top (object ms) o e =
    let t = fields_lawful.takes (object ms) o e in
    ap₂ over (ap (option_and_then (if_holds (tells m top))) e)
    (ap (children_told m) (sym (object_inside (members_of (node_row.writes (fields_of o))) ms t.0)) ∙ children_of-members m
    (fields_of o))

-- fields that tell a node whose children are no nodes
pub tree_of-childless : (m : Manner) (top : Bool) (d : Data) (o : NodeObject) (ds : Items) → node_fields.reads d ≡ Some o
    → tells m top o ≡ true → o.children ≡ Some ds → trees_of m ds ≡ None → tree_told m top d ≡ None
tree_of-childless m top d o ds e f c n =
    tree_of-read m top d o e ∙ ap (λ b. over (cond b (Some o) None) (trees_of_some m o.children)) f ∙ ap
    (λ k. over (Some o) (trees_of_some m k)) c ∙ ap (over (Some o)) n

-- fields that tell a node
pub tree_of-told : (m : Manner) (top : Bool) (d : Data) (o : NodeObject) (n : Nodes Told) → node_fields.reads d ≡ Some o
    → tells m top o ≡ true → trees_of_some m o.children ≡ Some n
    → tree_told m top d ≡ Some (record { row = told_in o; children = n })
tree_of-told m top d o n e f c = tree_of-read m top d o e ∙ ap (λ b. over (cond b (Some o) None) (trees_of_some m o.children)) f ∙ ap
    (over (Some o)) c

-- ---- trees side by side

abbrev pub read_beside : Nodes Told → Option (Nodes Told) → Option (Nodes Told)
read_beside n None = None
read_beside n (Some m) = Some (beside n m)

one_more : (ts : List (Branch Told)) (b : Branch Told) (o : Option (Nodes Told))
    → read_beside (nodes_of (ts ++ b ∷ [])) o ≡ read_beside (nodes_of ts) (tree_before (Some b) o)
one_more ts b None = refl
one_more ts b (Some n) = ap Some (ap (λ m. beside m n) (nodes_of-append ts (b ∷ [])) ∙ beside_assoc (nodes_of ts) (nodes_of (b ∷ [])) n)

-- a turn of the reader's loop
pub trees_turn : (w : Manner) (ts more : List (Branch Told)) (b : Branch Told) (vs : List Value) (i : ℕ) (v : Value) → i < length vs
    → v ≡ get_or vs i v → more ≡ ts ++ b ∷ [] → tree_told w false (view v) ≡ Some b
    → read_beside (nodes_of ts) (trees_of w (items_view (drop i vs))) ≡ trees_of w (items_view vs)
    → read_beside (nodes_of more) (trees_of w (items_view (drop (i + 1) vs))) ≡ trees_of w (items_view vs)
trees_turn w ts more b vs i v below at m e so =
    let later = drop (i + 1) vs in
    let r : drop i vs ≡ v ∷ later = drop-cons vs i v below ∙ ap₂ (λ x l. x ∷ l) (sym at) (ap (λ n. drop n vs) (sym (add-one i))) in
    ap (λ l. read_beside (nodes_of l) (trees_of w (items_view later))) m ∙ one_more ts b (trees_of w (items_view later))
    ∙ ap (λ o. read_beside (nodes_of ts) (tree_before o (trees_of w (items_view later)))) (sym e) ∙ ap
    (λ l. read_beside (nodes_of ts) (trees_of w (items_view l))) (sym r) ∙ so

beside-nothing : (n : Nodes Told) → beside n none ≡ n
beside-nothing none = refl
beside-nothing (node r c t) = ap (node r c) (beside-nothing t)

pub trees_end : (m : Manner) (ts : List (Branch Told)) (vs : List Value) (i : ℕ) → length vs ≤ i
    → read_beside (nodes_of ts) (trees_of m (items_view (drop i vs))) ≡ trees_of m (items_view vs)
    → trees_of m (items_view vs) ≡ Some (nodes_of ts)
trees_end m ts vs i all so = sym so ∙ ap (λ l. read_beside (nodes_of ts) (trees_of m (items_view l))) (drop_all i vs all) ∙ ap Some
    (beside-nothing (nodes_of ts))

-- the node that is made of its fields and its children
pub finished_is : (o : NodeObject) (children : Option (Vec (Branch Told) Global)) → is_some children ≡ is_some o.children
    → told_tree (unwrap_or o.parent 0) (unwrap_or o.count 0) o.id o.serial (label_in o) children
    ≡ record { row = told_in o; children = shown_children children }
finished_is o children e =
    ap (λ b. record {
      row = record {
        parent = unwrap_or o.parent 0;
        count = unwrap_or o.count 0;
        seen = record { id = o.id; serial = o.serial; label = label_in o; hold = hold_of b (holds o.kind) (unwrap_or o.count 0) };
      };
      children = shown_children children;
    }) e

pub read_shown : (m : Manner) (top : Bool) (d : Data) (o : NodeObject) (ds : Items) (ts : Vec (Branch Told) Global) (t : Branch Told)
    → node_fields.reads d ≡ Some o → tells m top o ≡ true → o.children ≡ Some ds → trees_of m ds ≡ Some (nodes_of ts.items)
    → t ≡ told_tree (unwrap_or o.parent 0) (unwrap_or o.count 0) o.id o.serial (label_in o) (Some ts) → tree_told m top d ≡ Some t
read_shown m top d o ds ts t e f c n is =
    tree_of-told m top d o (nodes_of ts.items) e f (ap (trees_of_some m) c ∙ n) ∙ ap Some
    (sym (finished_is o (Some ts) (sym (ap is_some c))) ∙ sym is)

pub read_hidden : (m : Manner) (top : Bool) (d : Data) (o : NodeObject) (t : Branch Told) → node_fields.reads d ≡ Some o
    → tells m top o ≡ true → o.children ≡ None
    → t ≡ told_tree (unwrap_or o.parent 0) (unwrap_or o.count 0) o.id o.serial (label_in o) None → tree_told m top d ≡ Some t
read_hidden m top d o t e f c is =
    tree_of-told m top d o none e f (ap (trees_of_some m) c) ∙ ap Some (sym (finished_is o None (sym (ap is_some c))) ∙ sym is)

-- an error of the children is the node's
pub Gives-error : {A B X Y : Type 0} (f : X → A) (g : Y → B) (e : DownErr) (a : Option A) (b : Option B) → (a ≡ None → b ≡ None)
    → GivesMessage f (Err e) a → GivesMessage g (Err e) b
Gives-error f g NotMessage a b h x = h x
Gives-error f g Memory a b h x = tt

-- ---- measures

pub item_depth : (vs : List Value) (i : ℕ) (v : Value) → i < length vs → v ≡ get_or vs i v → depth (view v) ≤ items_depth (items_view vs)
item_depth [] i v below is = absurd (omega arith)
item_depth (w ∷ vs) zero v below is = let same : v ≡ w = is in omega (arith, ap (λ x. depth (view x)) same)
item_depth (w ∷ vs) (suc i) v below is = omega (arith, item_depth vs i v (omega arith) is)

deep_member : (x : ℕ) (k : List ℕ) (d : Data) (ms : Members) → x ≤ members_depth ms → x ≤ members_depth (member k d ms)
deep_member x k d ms h = omega arith

deep_maybe : (x : ℕ) (k : List ℕ) (o : Option Data) (ms : Members) → x ≤ members_depth ms → x ≤ members_depth (maybe_member k o ms)
deep_maybe x k None ms h = h
deep_maybe x k (Some d) ms h = omega arith

deep_list : (k : Option Items) (ds : Items) (ms : Members) → k ≡ Some ds
    → suc (items_depth ds) ≤ members_depth (maybe_member (codes "children") (option_map any_items.spell k) ms)
deep_list None ds ms e = absurd cc
deep_list (Some es) ds ms e = let same : es ≡ ds = cc in omega (arith, ap items_depth same)

deep_members : (a : Option Data) (s : Data) (c : Option Data) (k : Option Items) (l i n t v : Data) (p : Option Data) (ds : Items)
    → k ≡ Some ds
    → items_depth ds + 1 < depth (node_members a s c (option_map any_items.spell k) l i n t v p)
deep_members a s c k l i n t v p ds e =
    let m5 = member (codes "localName") l
    (member (codes "nodeId") i (member (codes "nodeName") n
    (member (codes "nodeType") t (member (codes "nodeValue") v (maybe_member (codes "parentId") p no_members))))) in
    let m4 = maybe_member (codes "children") (option_map any_items.spell k) m5 in
    let m3 = maybe_member (codes "childNodeCount") c m4 in
    let m2 = member (codes "backendNodeId") s m3 in
    let below : suc (items_depth ds) ≤ members_depth (maybe_member (codes "attributes") a m2) =
    deep_maybe _ (codes "attributes") a m2
    (deep_member _ (codes "backendNodeId") s m3 (deep_maybe _ (codes "childNodeCount") c m4 (deep_list k ds m5 e))) in
    omega arith

pub shallower : (d : Data) (o : NodeObject) (ds : Items) → node_fields.reads d ≡ Some o → o.children ≡ Some ds
    → items_depth ds + 1 < depth d
shallower d o ds e c =
    let t = fields_lawful.takes d o e in
    let deep = deep_members (option_map attribute_list.spell o.attributes) (whole.spell o.serial)
    (option_map whole.spell o.count) o.children (text.spell o.local_name) (whole.spell o.id) (text.spell o.name)
    (node_type.spell o.kind) (text.spell o.value) (option_map whole.spell o.parent) ds c in
    subst (λ x. items_depth ds + 1 < depth x) t.0 deep
