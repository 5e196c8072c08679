-- What a load's values spell may make up a page.
use Rattle.std.proofs.Common.{◌≡◌, ◌⊎◌, ℕ, suc, ◌==◌, List, [], ◌∷◌, Option, Some, None, option_map, Bool, true, false, not, ◌&&◌, ◌||◌}
use Rattle.std.proofs.Common.{cond, codes, bytes_eq, nat_cmp, is_eq, Ordering, Less, Equal, Greater, inl, inr, subst, refl, sym, ap, ◌∙◌}
use Rattle.std.proofs.Common.{arith}
use Rattle.std.specs.Option.{option_map_or, option_and_then}
use Rattle.std.specs.Ordering.{match_ordering, is_lt, ordering_reverse}
use Rattle.std.specs.Cmp.Lexicographic.{slice_cmp}
use Rattle.std.proofs.lemmas.Cmp.{nat_list_cmp_total}
use Rattle.std.proofs.lemmas.Map.Text.{is_eq-slice_cmp}
use Rattle.std.proofs.lemmas.Slice.Eq.{bytes_eq-Decides}
use Rattle.std.proofs.lemmas.Bool.{leb-true, ne_eqb}
use Rattle.serde_json.specs.Data.{Data, null, boolean, number, string, array, object, Items, no_items, item, Members, no_members, member}
use Rattle.serde_json.specs.Find.{get, as_str, as_array}
use Rattle.serde_json.specs.Events.{members_len}
use Rattle.node_tree.specs.Nodes.{Nodes, none, node, Branch, alone, is_no_node}
use Rattle.node_tree.proofs.PairLemmas.{both, left, right, is_ascending-placed}
use Rattle.node_tree.specs.Labels.{Pair, Label, is_formed_label, is_ascending, is_below, is_before, holds}
use Rattle.node_tree.specs.Keys.{first_of, first_true}
use Rattle.node_tree.specs.declared.Kind.TheVariants.{Element, Text, Comment, Doctype}
use Rattle.page_tree.specs.Forms.{may_stand, are_formed, CanLoad}
use Rattle.page_tree.specs.Loads.{placed, is_taken, in_order, attributes_spelled, attributes_at, pairs_of, labelled, text_alone}
use Rattle.page_tree.specs.Loads.{element_name, element_label, label_spelled, branch_of, form_before, node_spelled, forms_of, below_of}
use Rattle.page_tree.specs.Loads.{nodes_listed, nodes_in, limit_faults}
use Rattle.page_tree.specs.declared.faults.LoadFault.{LoadFault}
use Rattle.page_tree.specs.declared.faults.LoadFault.TheVariants.{TooDeep, TooMany, BadName}

-- ---- attributes are in order

in_order_step : (b : Bool) (p : Pair) (ordered qs : List Pair) (rest : Option (List Pair)) → is_ascending ordered ≡ true
    → cond b None rest ≡ Some qs → (is_ascending (placed p ordered) ≡ true → rest ≡ Some qs → is_ascending qs ≡ true)
    → is_ascending qs ≡ true
in_order_step true p ordered qs rest h e after = absurd (cc)
in_order_step false p ordered qs rest h e after = after (is_ascending-placed p ordered h) e

is_ascending-in_order : (ps : List Pair) (ordered qs : List Pair) → is_ascending ordered ≡ true → in_order ordered ps ≡ Some qs
    → is_ascending qs ≡ true
is_ascending-in_order [] ordered qs h e = let same : ordered ≡ qs = cc in sym (ap is_ascending same) ∙ h
is_ascending-in_order (p ∷ ps) ordered qs h e = in_order_step (is_taken p.0 ordered) p ordered qs (in_order (placed p ordered) ps) h e
    (is_ascending-in_order ps (placed p ordered) qs)

listed_ascending : (o : Option (List Pair)) (ps : List Pair) → option_and_then (in_order []) o ≡ Some ps → is_ascending ps ≡ true
listed_ascending None ps e = absurd (cc)
listed_ascending (Some qs) ps e = is_ascending-in_order qs [] ps refl e

pub attributes_ascending_at : (g : Option Data) (ps : List Pair) → option_map_or attributes_spelled g (Some []) ≡ Some ps
    → is_ascending ps ≡ true
attributes_ascending_at None ps e = let same : [] ≡ ps = cc in sym (ap is_ascending same)
attributes_ascending_at (Some d) ps e = listed_ascending (option_and_then pairs_of (as_array d)) ps e

-- ---- labels

-- what a label in one of the four forms is; where it is no element, there is one property, and that is not `c`
record IsLabel (top : Bool) (d : Data) (l : Label) : Type 0 where
  formed : is_formed_label l ≡ true
  stands : may_stand top l.kind ≡ true
  single : (holds l.kind ≡ true) ⊎ ((key : List ℕ) × (text : List ℕ) × (bytes_eq (codes "c") key ≡ false) × (text_alone key d ≡ Some text))

always : (top : Bool) → (top || true) ≡ true
always true = refl
always false = refl

module _ (top : Bool) (d : Data) where
  element_is : (name : Option (List ℕ)) (attributes : Option (List Pair)) (l : Label)
      → ((ps : List Pair) → attributes ≡ Some ps → is_ascending ps ≡ true)
      → option_and_then (λ n. option_map (labelled Element n []) attributes) name ≡ Some l → IsLabel top d l
  element_is None attributes l h e = absurd (cc)
  element_is (Some n) None l h e = absurd (cc)
  element_is (Some n) (Some ps) l h e =
      let same : labelled Element n [] ps ≡ l = cc in
      subst (IsLabel top d) same (record { formed = both _ _ (both _ _ (h ps refl) refl) refl; stands = always top; single = inl refl })

  text_is : (text : List ℕ) → text_alone (codes "t") d ≡ Some text → IsLabel top d (labelled Text [] text [])
  text_is text e = record { formed = refl; stands = always top; single = inr (codes "t", text, refl, e) }

  comment_is : (text : List ℕ) → text_alone (codes "k") d ≡ Some text → IsLabel top d (labelled Comment [] text [])
  comment_is text e = record { formed = refl; stands = always top; single = inr (codes "k", text, refl, e) }

doctype_is : (d : Data) (name : List ℕ) → text_alone (codes "d") d ≡ Some name → IsLabel true d (labelled Doctype name [] [])
doctype_is d name e = record { formed = refl; stands = refl; single = inr (codes "d", name, refl, e) }

label_is : (top : Bool) (d : Data) (l : Label) (e : Option Label) (t k n : Option (List ℕ)) → ((m : Label) → e ≡ Some m → IsLabel top d m)
    → t ≡ text_alone (codes "t") d → k ≡ text_alone (codes "k") d → n ≡ text_alone (codes "d") d
    → first_of e (first_of (option_map (λ text. labelled Text [] text []) t)
    (first_of (option_map (λ text. labelled Comment [] text []) k)
    (cond top (option_map (λ name. labelled Doctype name [] []) n) None))) ≡ Some l → IsLabel top d l
label_is top d l (Some m) t k n h is_t is_k is_n e = h l e
label_is top d l None (Some x) k n h is_t is_k is_n e = let same : labelled Text [] x []
    ≡ l = cc in subst (IsLabel top d) same (text_is top d x (sym is_t))
label_is top d l None None (Some x) n h is_t is_k is_n e = let same : labelled Comment [] x []
    ≡ l = cc in subst (IsLabel top d) same (comment_is top d x (sym is_k))
label_is true d l None None None (Some x) h is_t is_k is_n e = let same : labelled Doctype x [] []
    ≡ l = cc in subst (IsLabel true d) same (doctype_is d x (sym is_n))
label_is true d l None None None None h is_t is_k is_n e = absurd (cc)
label_is false d l None None None n h is_t is_k is_n e = absurd (cc)

label_of_is : (top : Bool) (d : Data) (l : Label) → label_spelled top d ≡ Some l → IsLabel top d l
label_of_is top d l e =
    label_is top d l (element_label d) (text_alone (codes "t") d) (text_alone (codes "k") d) (text_alone (codes "d") d)
    (λ m f. element_is top d (element_name d) (attributes_at d) m (attributes_ascending_at (get (codes "a") d)) f) refl refl refl e

-- ---- what has one property has no children

one_member : (o : Ordering) (b : Bool) (v : Data) (text : List ℕ) → is_eq o ≡ b
    → option_and_then as_str (match_ordering o None (Some v) None) ≡ Some text → b ≡ true
one_member Less b v text is e = absurd (cc)
one_member Equal b v text is e = sym is
one_member Greater b v text is e = absurd (cc)

bare_below : (key : List ℕ) (ms : Members) (text : List ℕ) → bytes_eq (codes "c") key ≡ false → text_alone key (object ms) ≡ Some text
    → below_of ms ≡ Some none
bare_below key no_members text other e = absurd (cc)
bare_below key (member k v no_members) text other e =
    let same : key ≡ k = (bytes_eq-Decides key k).0
    (one_member (slice_cmp nat_cmp key k) (bytes_eq key k) v text (is_eq-slice_cmp key k) e) in
    let apart : bytes_eq (codes "c") k ≡ false = ap (bytes_eq (codes "c")) (sym same) ∙ other in
    rw apart refl
bare_below key (member k v (member l w ms)) text other e =
    let more : (suc (suc (members_len ms)) == 1) ≡ false = ne_eqb _ _ (λ h. omega arith) in
    absurd (let f = rw more at e in cc)

-- ---- nodes

bare_if : (k : Bool) (n c : Nodes Label) → c ≡ n → n ≡ none → (k || is_no_node c) ≡ true
bare_if true n c e f = refl
bare_if false n c e f = ap is_no_node (e ∙ f)

formed_node : (top : Bool) (ms : Members) (b : Branch Label) (lab : Option Label) (n : Option (Nodes Label))
    → ((l : Label) → lab ≡ Some l → IsLabel top (object ms) l) → n ≡ below_of ms
    → ((m : Nodes Label) → n ≡ Some m → are_formed false m ≡ true)
    → branch_of lab n ≡ Some b → are_formed top (alone b) ≡ true
formed_node top ms b None n h is_n below e = absurd (cc)
formed_node top ms b (Some l) None h is_n below e = absurd (cc)
formed_node top ms b (Some l) (Some c) h is_n below e =
    let same : ◌≡◌ {A = Branch Label} (record { row = l; children = c }) b = cc in
    let fit = h l refl in
    let bare : (holds l.kind || is_no_node c)
    ≡ true = elim fit.single [
      | inl is ↦ rw is refl
      | inr (key, text, other, alone_is) ↦ let none_is : Some c
          ≡ Some none = is_n ∙ bare_below key ms text other alone_is in bare_if (holds l.kind) c c refl (cc)
    ] in
    subst (λ (x : Branch Label). are_formed top (alone x) ≡ true) same
    (both _ _ (both _ _ (both _ _ (both _ _ fit.formed fit.stands) bare) (below c refl)) refl)

formed_beside : (top : Bool) (b : Option (Branch Label)) (t : Option (Nodes Label)) (n : Nodes Label)
    → ((x : Branch Label) → b ≡ Some x → are_formed top (alone x) ≡ true) → ((m : Nodes Label) → t ≡ Some m → are_formed top m ≡ true)
    → form_before b t ≡ Some n → are_formed top n ≡ true
formed_beside top None t n h k e = absurd (cc)
formed_beside top (Some b) None n h k e = absurd (cc)
formed_beside top (Some b) (Some m) n h k e =
    let same : node b.row b.children m ≡ n = cc in
    subst (λ (x : Nodes Label). are_formed top x ≡ true) same (both _ _ (left _ _ (h b refl)) (k m refl))

formed_choice : (b : Bool) (o p : Option (Nodes Label)) (n : Nodes Label) → (o ≡ Some n → are_formed false n ≡ true)
    → (p ≡ Some n → are_formed false n ≡ true) → cond b o p ≡ Some n → are_formed false n ≡ true
formed_choice true o p n h k e = h e
formed_choice false o p n h k e = k e

mutual
  pub form_formed : (d : Data) (top : Bool) (b : Branch Label) → node_spelled top d ≡ Some b → are_formed top (alone b) ≡ true
  form_formed null top b e = absurd (cc)
  form_formed (boolean x) top b e = absurd (cc)
  form_formed (number x) top b e = absurd (cc)
  form_formed (string s) top b e = absurd (cc)
  form_formed (array ds) top b e = absurd (cc)
  form_formed (object ms) top b e = formed_node top ms b (label_spelled top (object ms)) (below_of ms) (label_of_is top (object ms)) refl
      (below_formed ms) e

  forms_formed : (ds : Items) (top : Bool) (n : Nodes Label) → forms_of top ds ≡ Some n → are_formed top n ≡ true
  forms_formed no_items top n e = let same : none ≡ n = cc in sym (ap (are_formed top) same)
  forms_formed (item d ds) top n e = formed_beside top (node_spelled top d) (forms_of top ds) n (form_formed d top) (forms_formed ds top) e

  below_formed : (ms : Members) (n : Nodes Label) → below_of ms ≡ Some n → are_formed false n ≡ true
  below_formed no_members n e = let same : none ≡ n = cc in sym (ap (are_formed false) same)
  below_formed (member k d ms) n e = formed_choice (bytes_eq (codes "c") k) (nodes_listed d) (below_of ms) n (list_formed d n)
      (below_formed ms n) e

  list_formed : (d : Data) (n : Nodes Label) → nodes_listed d ≡ Some n → are_formed false n ≡ true
  list_formed null n e = absurd (cc)
  list_formed (boolean b) n e = absurd (cc)
  list_formed (number x) n e = absurd (cc)
  list_formed (string s) n e = absurd (cc)
  list_formed (array ds) n e = forms_formed ds false n e
  list_formed (object ms) n e = absurd (cc)

-- ---- a load without a fault

pub all_clear : (a b c : Bool) → first_true {A = LoadFault} ((TooDeep, not a) ∷ (TooMany, not b) ∷ (BadName, not c) ∷ []) ≡ None
    → (a ≡ true) × (b ≡ true) × (c ≡ true)
all_clear true true true e = (refl, refl, refl)
all_clear true true false e = absurd (cc)
all_clear true false c e = absurd (cc)
all_clear false b c e = absurd (cc)

nodes_formed : (o : Option Items) (n : Nodes Label) → option_and_then (forms_of true) o ≡ Some n → are_formed true n ≡ true
nodes_formed None n e = absurd (cc)
nodes_formed (Some ds) n e = forms_formed ds true n e

-- nodes in their form, without a fault, may be loaded
pub can_load : (d : Data) (n : Nodes Label) → nodes_in d ≡ Some n → first_true (limit_faults n) ≡ None → CanLoad n
can_load d n e clear =
    let tests = all_clear _ _ _ clear in
    record { formed = nodes_formed (as_array d) n e; named = tests.2; levels = leb-true _ _ tests.0; room = leb-true _ _ tests.1 }
