-- What a load's values spell.
use Rattle.std.proofs.Common.{◌≡◌, ℕ, zero, suc, ◌+◌, ◌<◌, ◌≤◌, max, List, [], ◌∷◌, ◌++◌, length, get_or, drop, add-one, Option, Some, None}
use Rattle.std.proofs.Common.{option_map, Bool, true, false, cond, codes, nat_cmp, is_eq, Ordering, Less, Equal, Greater, refl, sym, ap}
use Rattle.std.proofs.Common.{◌∙◌, arith}
use Rattle.std.proofs.Math.Seq.{drop-cons}
use Rattle.std.proofs.lemmas.List.{drop_all}
use Rattle.std.specs.Option.{option_map_or, option_and_then}
use Rattle.std.specs.Ordering.{match_ordering}
use Rattle.std.specs.Cmp.Lexicographic.{slice_cmp}
use Rattle.std.proofs.lemmas.Map.Text.{is_eq-slice_cmp}
use Rattle.serde_json.specs.Data.{Data, null, boolean, number, string, array, object, Items, no_items, Members, no_members, member, depth}
use Rattle.serde_json.specs.Data.{items_depth, members_depth}
use Rattle.serde_json.specs.Find.{get_member, as_array}
use Rattle.serde_json.specs.View.{view, items_view}
use Rattle.serde_json.specs.declared.value.Value.{Value}
use Rattle.node_tree.specs.Nodes.{Nodes, Branch, nodes_of, beside}
use Rattle.node_tree.specs.Labels.{Label}
use Rattle.node_tree.proofs.NodeLemmas.{nodes_of-append, beside-none, beside_assoc}
use Rattle.page_tree.specs.Loads.{label_spelled, branch_of, form_before, node_spelled, forms_of, below_of, nodes_listed, values_below}

-- ---- a node is its label and its children

list_of-array : (d : Data) → nodes_listed d ≡ option_and_then (forms_of false) (as_array d)
list_of-array null = refl
list_of-array (boolean b) = refl
list_of-array (number n) = refl
list_of-array (string s) = refl
list_of-array (array ds) = refl
list_of-array (object ms) = refl

below_step : (o : Ordering) (b : Bool) (d : Data) (rest : Option (Nodes Label)) (g : Option Data) → is_eq o ≡ b
    → rest ≡ option_and_then (forms_of false) (option_map_or as_array g (Some no_items))
    → cond b (nodes_listed d) rest
    ≡ option_and_then (forms_of false) (option_map_or as_array (match_ordering o g (Some d) g) (Some no_items))
below_step Less false d rest g e h = h
below_step Less true d rest g e h = absurd (cc)
below_step Equal true d rest g e h = list_of-array d
below_step Equal false d rest g e h = absurd (cc)
below_step Greater false d rest g e h = h
below_step Greater true d rest g e h = absurd (cc)

below_of-children : (ms : Members) → below_of ms ≡ option_and_then (forms_of false) (values_below (object ms))
below_of-children no_members = refl
below_of-children (member k d ms) = below_step (slice_cmp nat_cmp (codes "c") k) _ d _ (get_member (codes "c") ms)
    (is_eq-slice_cmp (codes "c") k) (below_of-children ms)

pub form_of-parts : (top : Bool) (d : Data)
    → node_spelled top d ≡ branch_of (label_spelled top d) (option_and_then (forms_of false) (values_below d))
form_of-parts true null = refl
form_of-parts false null = refl
form_of-parts true (boolean b) = refl
form_of-parts false (boolean b) = refl
form_of-parts true (number n) = refl
form_of-parts false (number n) = refl
form_of-parts true (string s) = refl
form_of-parts false (string s) = refl
form_of-parts true (array ds) = refl
form_of-parts false (array ds) = refl
form_of-parts top (object ms) = ap (branch_of (label_spelled top (object ms))) (below_of-children ms)

-- the node of a label and of children that were read; none where the children have not their form
pub form_made : (top : Bool) (d : Data) (l : Label) (children : Option Items) (n : Option (Nodes Label)) → Some l ≡ label_spelled top d
    → children ≡ values_below d → n ≡ option_and_then (forms_of false) children
    → option_map (λ n. record { row = l; children = n }) n ≡ node_spelled top d
form_made top d l children n is_label is_children is_n = sym (rw (form_of-parts top d, ← is_label, ← is_children, ← is_n))

-- ---- depths

get_step : (o : Ordering) (d e : Data) (g : Option Data) (m : ℕ) → match_ordering o g (Some e) g ≡ Some d → (g ≡ Some d → depth d ≤ m)
    → depth d ≤ max (depth e) m
get_step Less d e g m is h = let k = h is in omega arith
get_step Equal d e g m is h = let k : e ≡ d = cc in let u = ap depth k in omega arith
get_step Greater d e g m is h = let k = h is in omega arith

get_member-depth : (key : List ℕ) (ms : Members) (d : Data) → get_member key ms ≡ Some d → depth d ≤ members_depth ms
get_member-depth key no_members d e = absurd (cc)
get_member-depth key (member k v ms) d e = get_step (slice_cmp nat_cmp key k) d v (get_member key ms) (members_depth ms) e
    (get_member-depth key ms d)

as_array-depth : (d : Data) (ds : Items) → as_array d ≡ Some ds → items_depth ds < depth d
as_array-depth null ds e = absurd (cc)
as_array-depth (boolean b) ds e = absurd (cc)
as_array-depth (number n) ds e = absurd (cc)
as_array-depth (string s) ds e = absurd (cc)
as_array-depth (array es) ds e = let k : es ≡ ds = cc in let u = ap items_depth k in omega arith
as_array-depth (object ms) ds e = absurd (cc)

listed-depth : (g : Option Data) (ds : Items) (m : ℕ) → ((d : Data) → g ≡ Some d → depth d ≤ m)
    → option_map_or as_array g (Some no_items) ≡ Some ds → items_depth ds ≤ m
listed-depth None ds m h e = let k : no_items ≡ ds = cc in let u = ap items_depth k in omega arith
listed-depth (Some d) ds m h e = let u = h d refl in let v = as_array-depth d ds e in omega arith

-- what an object lists is less deep than it
pub children_in-depth : (d : Data) (ds : Items) → values_below d ≡ Some ds → items_depth ds < depth d
children_in-depth null ds e = absurd (cc)
children_in-depth (boolean b) ds e = absurd (cc)
children_in-depth (number n) ds e = absurd (cc)
children_in-depth (string s) ds e = absurd (cc)
children_in-depth (array es) ds e = absurd (cc)
children_in-depth (object ms) ds e = let u = listed-depth (get_member (codes "c") ms) ds (members_depth ms)
    (get_member-depth (codes "c") ms) e in omega arith

pub item-depth : (vs : List Value) (i : ℕ) (d : Value) → i < length vs → depth (view (get_or vs i d)) ≤ items_depth (items_view vs)
item-depth [] i d h = absurd (omega arith)
item-depth (v ∷ vs) zero d h = omega arith
item-depth (v ∷ vs) (suc i) d h = let u = item-depth vs i d (omega arith) in omega arith

-- ---- a list of nodes, node by node

read_step : (done : List (Branch Label)) (b : Branch Label) (rest all : Option (Nodes Label))
    → option_map (beside (nodes_of done)) (form_before (Some b) rest) ≡ all → option_map (beside (nodes_of (done ++ b ∷ []))) rest ≡ all
read_step done b None all e = e
read_step done b (Some n) all e = ap Some
    (ap (λ (m : Nodes Label). beside m n) (nodes_of-append done (b ∷ [])) ∙ beside_assoc (nodes_of done) (nodes_of (b ∷ [])) n) ∙ e

forms_of-drop : (top : Bool) (vs : List Value) (i : ℕ) (v : Value) → i < length vs → v ≡ get_or vs i v
    → forms_of top (items_view (drop i vs)) ≡ form_before (node_spelled top (view v)) (forms_of top (items_view (drop (i + 1) vs)))
forms_of-drop top vs i v h e = rw (add-one, drop-cons vs i v)
    (ap (λ (u : Value). form_before (node_spelled top (view u)) (forms_of top (items_view (drop (suc i) vs)))) (sym e))

-- one node more is read
pub read_turn : (top : Bool) (vs : List Value) (i : ℕ) (v : Value) (done : List (Branch Label)) (b : Branch Label)
    (all : Option (Nodes Label)) → i < length vs → v ≡ get_or vs i v → Some b ≡ node_spelled top (view v)
    → option_map (beside (nodes_of done)) (forms_of top (items_view (drop i vs))) ≡ all
    → option_map (beside (nodes_of (done ++ b ∷ []))) (forms_of top (items_view (drop (i + 1) vs))) ≡ all
read_turn top vs i v done b all h e is_form so_far = read_step done b _ all (rw (forms_of-drop top vs i v h e, ← is_form) at so_far)

-- all are read
pub read_end : (top : Bool) (vs : List Value) (i : ℕ) (done : List (Branch Label)) (all : Option (Nodes Label)) → length vs ≤ i
    → option_map (beside (nodes_of done)) (forms_of top (items_view (drop i vs))) ≡ all → Some (nodes_of done) ≡ all
read_end top vs i done all h so_far = ap Some (sym (beside-none (nodes_of done))) ∙ (rw (drop_all i vs h) at so_far)
