-- The nodes that a value spells: their texts are UTF-8 where those of the value are.
use Rattle.std.proofs.Common.{ℕ, ◌+◌, ◌==◌, cond, List, [], ◌∷◌, Bool, true, false, bytes_eq, codes, Option, Some, None, option_and_then}
use Rattle.std.proofs.Common.{option_map, Ordering, Less, Equal, Greater, nat_cmp, IsUtf8}
use Rattle.std.specs.Option.{option_map_or}
use Rattle.std.specs.Ordering.{match_ordering}
use Rattle.std.specs.Cmp.Lexicographic.{slice_cmp}
use Rattle.std.proofs.lemmas.Str.{IsUtf8-nil}
use Rattle.serde_json.specs.Data.{Data, null, boolean, number, string, array, object, Items, no_items, item, Members, no_members, member}
use Rattle.serde_json.specs.Find.{get_member, get, as_str, as_array, as_object}
use Rattle.cdp_json.specs.Plain.{HasUtf8, ItemsHaveUtf8, MembersHaveUtf8}
use Rattle.node_tree.specs.Keys.{first_of}
use Rattle.node_tree.specs.Nodes.{Nodes, Branch}
use Rattle.node_tree.specs.Labels.{Pair, Label}
use Rattle.node_tree.specs.declared.Kind.TheVariants.{Element, Text, Comment, Doctype}
use Rattle.page_tree.specs.Loads.{pairs_of, is_taken, placed, in_order, attributes_spelled, property_count, times_of, text_at, text_alone}
use Rattle.page_tree.specs.Loads.{labelled, attributes_at, element_name, element_label, label_spelled, branch_of, form_before, node_spelled}
use Rattle.page_tree.specs.Loads.{forms_of, below_of, nodes_listed, nodes_in}
use Rattle.node_tree.specs.Labels.{PairsHaveUtf8, LabelHasUtf8}
use Rattle.page_forms.specs.Texts.{HaveTexts, FormHasTexts}
use Rattle.cdp_json.proofs.ReadTexts.{IfSome, map_keeps, then_keeps}

-- ---- parts of a value

str_utf8 : (d : Data) → HasUtf8 d → IfSome IsUtf8 (as_str d)
str_utf8 null u = tt
str_utf8 (boolean b) u = tt
str_utf8 (number n) u = tt
str_utf8 (string s) u = u
str_utf8 (array ds) u = tt
str_utf8 (object ms) u = tt

pub array_utf8 : (d : Data) → HasUtf8 d → IfSome ItemsHaveUtf8 (as_array d)
array_utf8 null u = tt
array_utf8 (boolean b) u = tt
array_utf8 (number n) u = tt
array_utf8 (string s) u = tt
array_utf8 (array ds) u = u
array_utf8 (object ms) u = tt

pub object_utf8 : (d : Data) → HasUtf8 d → IfSome MembersHaveUtf8 (as_object d)
object_utf8 null u = tt
object_utf8 (boolean b) u = tt
object_utf8 (number n) u = tt
object_utf8 (string s) u = tt
object_utf8 (array ds) u = tt
object_utf8 (object ms) u = u

found : (o : Ordering) (here : Data) (later : Option Data) → HasUtf8 here → IfSome HasUtf8 later
    → IfSome HasUtf8 (match_ordering o later (Some here) later)
found Less here later u v = v
found Equal here later u v = u
found Greater here later u v = v

member_utf8 : (k : List ℕ) (ms : Members) → MembersHaveUtf8 ms → IfSome HasUtf8 (get_member k ms)
member_utf8 k no_members u = tt
member_utf8 k (member l e ms) u = found (slice_cmp nat_cmp k l) e (get_member k ms) u.1 (member_utf8 k ms u.2)

pub get_utf8 : (k : List ℕ) (d : Data) → HasUtf8 d → IfSome HasUtf8 (get k d)
get_utf8 k null u = tt
get_utf8 k (boolean b) u = tt
get_utf8 k (number n) u = tt
get_utf8 k (string s) u = tt
get_utf8 k (array ds) u = tt
get_utf8 k (object ms) u = member_utf8 k ms u

-- ---- attributes

pairs_utf8 : (ds : Items) → ItemsHaveUtf8 ds → IfSome PairsHaveUtf8 (pairs_of ds)
pairs_utf8 no_items u = tt
pairs_utf8 (item n no_items) u = tt
pairs_utf8 (item n (item v ds)) u =
    then_keeps IsUtf8 PairsHaveUtf8 (λ name. option_and_then (λ value. option_map (λ ps. (name, value) ∷ ps) (pairs_of ds)) (as_str v))
    (λ name un. then_keeps IsUtf8 PairsHaveUtf8 (λ value. option_map (λ ps. (name, value) ∷ ps) (pairs_of ds))
    (λ value uv. map_keeps PairsHaveUtf8 PairsHaveUtf8 (λ ps. (name, value) ∷ ps) (λ ps us. (un, uv, us)) (pairs_of ds)
    (pairs_utf8 ds u.1.1))
    (as_str v) (str_utf8 v u.1.0))
    (as_str n) (str_utf8 n u.0)

placed_at : (o : Ordering) (p q : Pair) (qs : List Pair) → IsUtf8 p.0 → IsUtf8 p.1 → IsUtf8 q.0 → IsUtf8 q.1 → PairsHaveUtf8 qs
    → PairsHaveUtf8 (placed p qs)
    → PairsHaveUtf8 (match_ordering o (p ∷ q ∷ qs) ((q.0, p.1) ∷ qs) (q ∷ placed p qs))
placed_at Less p q qs pn pv qn qv us later = (pn, pv, (qn, qv, us))
placed_at Equal p q qs pn pv qn qv us later = (qn, pv, us)
placed_at Greater p q qs pn pv qn qv us later = (qn, qv, later)

pub placed_utf8 : (p : Pair) (qs : List Pair) → IsUtf8 p.0 → IsUtf8 p.1 → PairsHaveUtf8 qs → PairsHaveUtf8 (placed p qs)
placed_utf8 p [] pn pv us = (pn, pv, tt)
placed_utf8 p (q ∷ qs) pn pv us = placed_at (slice_cmp nat_cmp p.0 q.0) p q qs pn pv us.0 us.1 us.2 (placed_utf8 p qs pn pv us.2)

unless : {A : Type 0} (Q : A → Type 0) (b : Bool) (o : Option A) → IfSome Q o → IfSome Q (cond b None o)
unless Q true o u = tt
unless Q false o u = u

pub when : {A : Type 0} (Q : A → Type 0) (b : Bool) (o : Option A) → IfSome Q o → IfSome Q (cond b o None)
when Q true o u = u
when Q false o u = tt

ordered_utf8 : (ordered ps : List Pair) → PairsHaveUtf8 ordered → PairsHaveUtf8 ps → IfSome PairsHaveUtf8 (in_order ordered ps)
ordered_utf8 ordered [] us vs = us
ordered_utf8 ordered (p ∷ ps) us vs =
    unless PairsHaveUtf8 (is_taken p.0 ordered) (in_order (placed p ordered) ps)
    (ordered_utf8 (placed p ordered) ps (placed_utf8 p ordered vs.0 vs.1 us) vs.2)

attributes_utf8 : (d : Data) → HasUtf8 d → IfSome PairsHaveUtf8 (attributes_spelled d)
attributes_utf8 d u =
    then_keeps PairsHaveUtf8 PairsHaveUtf8 (in_order []) (λ ps us. ordered_utf8 [] ps tt us) (option_and_then pairs_of (as_array d))
    (then_keeps ItemsHaveUtf8 PairsHaveUtf8 pairs_of pairs_utf8 (as_array d) (array_utf8 d u))

-- ---- labels

pub text_at-utf8 : (k : List ℕ) (d : Data) → HasUtf8 d → IfSome IsUtf8 (text_at k d)
text_at-utf8 k d u = then_keeps HasUtf8 IsUtf8 as_str str_utf8 (get k d) (get_utf8 k d u)

text_alone-utf8 : (k : List ℕ) (d : Data) → HasUtf8 d → IfSome IsUtf8 (text_alone k d)
text_alone-utf8 k d u = when IsUtf8 (property_count d == 1) (text_at k d) (text_at-utf8 k d u)

pub listed : (o : Option Data) → IfSome HasUtf8 o → IfSome PairsHaveUtf8 (option_map_or attributes_spelled o (Some []))
listed None u = tt
listed (Some d) u = attributes_utf8 d u

element_utf8 : (d : Data) → HasUtf8 d → IfSome LabelHasUtf8 (element_label d)
element_utf8 d u =
    then_keeps IsUtf8 LabelHasUtf8 (λ name. option_map (labelled Element name []) (attributes_at d))
    (λ name un. map_keeps PairsHaveUtf8 LabelHasUtf8 (labelled Element name []) (λ ps us. (un, IsUtf8-nil, us)) (attributes_at d)
    (listed (get (codes "a") d) (get_utf8 (codes "a") d u)))
    (element_name d)
    (when IsUtf8 (property_count d == 1 + times_of (codes "a") d + times_of (codes "c") d) (text_at (codes "e") d)
    (text_at-utf8 (codes "e") d u))

pub either_utf8 : {A : Type 0} (Q : A → Type 0) (o p : Option A) → IfSome Q o → IfSome Q p → IfSome Q (first_of o p)
either_utf8 Q None p u v = v
either_utf8 Q (Some x) p u v = u

label_utf8 : (top : Bool) (d : Data) → HasUtf8 d → IfSome LabelHasUtf8 (label_spelled top d)
label_utf8 top d u =
    either_utf8 LabelHasUtf8 (element_label d) _ (element_utf8 d u)
    (either_utf8 LabelHasUtf8 (option_map (λ text. labelled Text [] text []) (text_alone (codes "t") d)) _
    (map_keeps IsUtf8 LabelHasUtf8 (λ text. labelled Text [] text []) (λ text v. (IsUtf8-nil, v, tt)) (text_alone (codes "t") d)
    (text_alone-utf8 (codes "t") d u))
    (either_utf8 LabelHasUtf8 (option_map (λ text. labelled Comment [] text []) (text_alone (codes "k") d)) _
    (map_keeps IsUtf8 LabelHasUtf8 (λ text. labelled Comment [] text []) (λ text v. (IsUtf8-nil, v, tt)) (text_alone (codes "k") d)
    (text_alone-utf8 (codes "k") d u))
    (when LabelHasUtf8 top (option_map (λ name. labelled Doctype name [] []) (text_alone (codes "d") d))
    (map_keeps IsUtf8 LabelHasUtf8 (λ name. labelled Doctype name [] []) (λ name v. (v, IsUtf8-nil, tt)) (text_alone (codes "d") d)
    (text_alone-utf8 (codes "d") d u)))))

-- ---- nodes

branch_utf8 : (l : Option Label) (n : Option (Nodes Label)) → IfSome LabelHasUtf8 l → IfSome HaveTexts n
    → IfSome FormHasTexts (branch_of l n)
branch_utf8 None n ul un = tt
branch_utf8 (Some l) None ul un = tt
branch_utf8 (Some l) (Some n) ul un = (ul, un)

before_utf8 : (b : Option (Branch Label)) (n : Option (Nodes Label)) → IfSome FormHasTexts b → IfSome HaveTexts n
    → IfSome HaveTexts (form_before b n)
before_utf8 None n ub un = tt
before_utf8 (Some b) None ub un = tt
before_utf8 (Some b) (Some n) ub un = (ub.0, ub.1, un)

below_utf8 : (b : Bool) (here later : Option (Nodes Label)) → IfSome HaveTexts here → IfSome HaveTexts later
    → IfSome HaveTexts (cond b here later)
below_utf8 true here later u v = u
below_utf8 false here later u v = v

mutual
  pub form_utf8 : (top : Bool) (d : Data) → HasUtf8 d → IfSome FormHasTexts (node_spelled top d)
  form_utf8 top null u = tt
  form_utf8 top (boolean b) u = tt
  form_utf8 top (number n) u = tt
  form_utf8 top (string s) u = tt
  form_utf8 top (array ds) u = tt
  form_utf8 top (object ms) u = branch_utf8 (label_spelled top (object ms)) (below_of ms) (label_utf8 top (object ms) u)
      (children_utf8 ms u)

  forms_utf8 : (top : Bool) (ds : Items) → ItemsHaveUtf8 ds → IfSome HaveTexts (forms_of top ds)
  forms_utf8 top no_items u = tt
  forms_utf8 top (item d ds) u = before_utf8 (node_spelled top d) (forms_of top ds) (form_utf8 top d u.0) (forms_utf8 top ds u.1)

  children_utf8 : (ms : Members) → MembersHaveUtf8 ms → IfSome HaveTexts (below_of ms)
  children_utf8 no_members u = tt
  children_utf8 (member k d ms) u = below_utf8 (bytes_eq (codes "c") k) (nodes_listed d) (below_of ms) (list_utf8 d u.1)
      (children_utf8 ms u.2)

  list_utf8 : (d : Data) → HasUtf8 d → IfSome HaveTexts (nodes_listed d)
  list_utf8 null u = tt
  list_utf8 (boolean b) u = tt
  list_utf8 (number n) u = tt
  list_utf8 (string s) u = tt
  list_utf8 (array ds) u = forms_utf8 false ds u
  list_utf8 (object ms) u = tt

-- the nodes that a load lists
pub nodes_utf8 : (d : Data) → HasUtf8 d → IfSome HaveTexts (nodes_in d)
nodes_utf8 d u = then_keeps ItemsHaveUtf8 HaveTexts (forms_of true) (forms_utf8 true) (as_array d) (array_utf8 d u)
