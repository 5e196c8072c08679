-- A told row and its object say the same.
use Rattle.std.proofs.Common.{◌≡◌, ℕ, ◌==◌, List, [], ◌∷◌, Bool, true, false, not, ◌||◌, cond, nat_lt, Option, Some, None, bytes_eq, refl}
use Rattle.std.proofs.Common.{sym, ap, ◌∙◌, arith, ◌≤◌, ltb-false, eqb-true}
use Rattle.std.specs.Prelude.{is_some, unwrap_or}
use Rattle.std.specs.List.{list_all}
use Rattle.std.proofs.lemmas.Slice.Eq.{bytes_eq-Decides}
use Rattle.serde_json.specs.Data.{Items, no_items}
use Rattle.serde_json.specs.Events.{items_len}
use Rattle.cdp_json.specs.Kinds.{text, any_items, is_counted, holds_of_some}
use Rattle.cdp_json.specs.Lawful.{LawfulKind}
use Rattle.cdp_json.proofs.Options.{both, both_parts, map_some}
use Rattle.cdp_json.proofs.KindLaws.{whole_lawful, text_lawful, any_items_lawful, refined_lawful, through_lawful, list_lawful, same_name}
use Rattle.cdp_json.proofs.RowLaws.{ends_lawful, and_need_lawful, and_may_lawful, object_lawful}
use Rattle.node_tree.specs.declared.Kind.{Kind}
use Rattle.node_tree.specs.declared.Kind.TheVariants.{Document, Element, Text, Comment, Doctype}
use Rattle.node_tree.specs.Labels.{Pair, Label, is_document, is_element, holds, has_name, has_value, is_empty, is_ascending}
use Rattle.node_tree.specs.Labels.{is_formed_label, is_named_label}
use Rattle.node_tree.specs.Seen.{Hold, leaf, counted, opened, is_opened}
use Rattle.dom_objects.specs.declared.node_rules.Manner.{Manner}
use Rattle.dom_objects.specs.declared.node_rules.Manner.TheVariants.{Pushed, Described}
use Rattle.dom_objects.specs.Told.{Told, hold_of}
use Rattle.dom_objects.specs.NodeObject.{NodeObject, flat, paired, attribute_list, type_number, first_numbered, kind_of_type, node_type}
use Rattle.dom_objects.specs.NodeObject.{Fields, fields_of, of_fields, node_fields, node_name, local_name, only_if, object_for, name_in}
use Rattle.dom_objects.specs.NodeObject.{label_in, told_in, children_shown, same, fits_hold, fits_place, fits_told, is_counted_row}
use Rattle.dom_objects.specs.NodeObject.{row_fits, agrees, tells, node_object}

-- ---- the fields are lawful

paired-flat : (ps : List Pair) → paired (flat ps) ≡ Some ps
paired-flat [] = refl
paired-flat (p ∷ ps) = rw (paired-flat ps)

flat_of_paired : (s : List (List ℕ)) (ps : List Pair) → paired s ≡ Some ps → flat ps ≡ s
flat_of_paired [] ps e = let same : [] ≡ ps = cc in ap flat (sym same)
flat_of_paired (name ∷ []) ps e = absurd cc
flat_of_paired (name ∷ value ∷ rest) ps e =
    let p = map_some (λ qs. (name, value) ∷ qs) (paired rest) ps e in
    ap flat (sym p.2) ∙ ap (λ r. name ∷ value ∷ r) (flat_of_paired rest p.0 p.1)

pub attributes_lawful : LawfulKind attribute_list
attributes_lawful = through_lawful flat paired flat_of_paired paired-flat (list_lawful text_lawful)

numbered_at : {T : Type 0} (number : T → ℕ) (y : T) (xs : List T) (n : ℕ) (x : T) (b : Bool) → (number y == n) ≡ b
    → (first_numbered number xs n ≡ Some x → number x ≡ n) → cond b (Some y) (first_numbered number xs n) ≡ Some x → number x ≡ n
numbered_at number y xs n x true is later e = let first : y ≡ x = cc in ap number (sym first) ∙ eqb-true _ _ is
numbered_at number y xs n x false is later e = later e

numbered_is : {T : Type 0} (number : T → ℕ) (xs : List T) (n : ℕ) (x : T) → first_numbered number xs n ≡ Some x → number x ≡ n
numbered_is number [] n x e = absurd cc
numbered_is number (y ∷ xs) n x e = numbered_at number y xs n x _ refl (numbered_is number xs n x) e

kind_of-type_number : (k : Kind) → kind_of_type (type_number k) ≡ Some k
kind_of-type_number Document = refl
kind_of-type_number Element = refl
kind_of-type_number Text = refl
kind_of-type_number Comment = refl
kind_of-type_number Doctype = refl

type_lawful : LawfulKind node_type
type_lawful = through_lawful type_number kind_of_type
    (numbered_is type_number (Element ∷ Text ∷ Comment ∷ Document ∷ Doctype ∷ [])) kind_of-type_number whole_lawful

of_fields_only : (f : Fields) (o : NodeObject) → Some (of_fields f) ≡ Some o → fields_of o ≡ f
of_fields_only f o e = let is : of_fields f ≡ o = cc in ap fields_of (sym is)

pub fields_lawful : LawfulKind node_fields
fields_lawful = through_lawful fields_of (λ f. Some (of_fields f)) of_fields_only (λ o. refl) (object_lawful
    (and_may_lawful _ attributes_lawful
    (and_need_lawful _ whole_lawful
    (and_may_lawful _ whole_lawful
    (and_may_lawful _ any_items_lawful
    (and_need_lawful _ text_lawful
    (and_need_lawful _ whole_lawful
    (and_need_lawful _ text_lawful
    (and_need_lawful _ type_lawful
    (and_need_lawful _ text_lawful
    (and_may_lawful _ whole_lawful ends_lawful refl) refl) refl) refl) refl) refl) refl) refl) refl) refl))

pub object_lawful_at : (m : Manner) (top : Bool) → LawfulKind (node_object m top)
object_lawful_at m top = refined_lawful (tells m top) fields_lawful

-- ---- an object that tells a node is that of the row that it tells

only_if-unwrap : {A : Type 0} (o : Option A) (b : Bool) (d : A) → same (is_some o) b ≡ true → only_if b (unwrap_or o d) ≡ o
only_if-unwrap None true d e = absurd cc
only_if-unwrap None false d e = refl
only_if-unwrap (Some x) true d e = refl
only_if-unwrap (Some x) false d e = absurd cc

opened-hold_of : (o : Option Items) (container : Bool) (n : ℕ)
    → only_if (is_opened (hold_of (is_some o) container n)) (unwrap_or o no_items) ≡ o
opened-hold_of None true n = refl
opened-hold_of None false n = refl
opened-hold_of (Some ds) container n = refl

positive_only : (o : Option ℕ) → holds_of_some (nat_lt 0) o ≡ true → only_if (nat_lt 0 (unwrap_or o 0)) (unwrap_or o 0) ≡ o
positive_only None e = refl
positive_only (Some n) e = rw e

same_text : (a b : List ℕ) → bytes_eq a b ≡ true → b ≡ a
same_text a b e = sym ((bytes_eq-Decides a b).0 e)

-- an object by its fields
object_is : (o : NodeObject) (attributes : Option (List Pair)) (count : Option ℕ) (children : Option Items) (local name : List ℕ)
    (parent : Option ℕ)
    → attributes ≡ o.attributes → count ≡ o.count → children ≡ o.children → local ≡ o.local_name → name ≡ o.name → parent ≡ o.parent
    → record o { attributes = attributes; count = count; children = children; local_name = local; name = name; parent = parent } ≡ o
object_is o attributes count children local name parent a c k l n p = λ i. record o {
  attributes = a i;
  count = c i;
  children = k i;
  local_name = l i;
  name = n i;
  parent = p i;
}

pub object_for-told_in : (m : Manner) (top : Bool) (o : NodeObject) → tells m top o ≡ true → object_for (told_in o) (children_shown o) ≡ o
object_for-told_in m top o t =
    let a = (both_parts (agrees o) (fits_told m top (items_len (children_shown o)) (told_in o)) t).0 in
    let p5 = both_parts _ (holds_of_some (nat_lt 0) o.parent) a in
    let p4 = both_parts _ (bytes_eq o.name (node_name (label_in o))) p5.0 in
    let p3 = both_parts _ (bytes_eq o.local_name (local_name (label_in o))) p4.0 in
    let p2 = both_parts (same (is_some o.attributes) (is_element o.kind)) (same (is_some o.count) (holds o.kind)) p3.0 in
    object_is o _ _ _ _ _ _ (only_if-unwrap o.attributes (is_element o.kind) [] p2.0) (only_if-unwrap o.count (holds o.kind) 0 p2.1)
    (opened-hold_of o.children (holds o.kind) (unwrap_or o.count 0)) (same_text o.local_name _ p3.1) (same_text o.name _ p4.1)
    (positive_only o.parent p5.1)

-- ---- the row that its object tells

positive_at : (n : ℕ) (b : Bool) → nat_lt 0 n ≡ b → unwrap_or (only_if b n) 0 ≡ n
positive_at n true e = refl
positive_at n false e = let none : n ≤ 0 = ltb-false 0 n e in omega arith

positive : (n : ℕ) → unwrap_or (only_if (nat_lt 0 n) n) 0 ≡ n
positive n = positive_at n _ refl

-- parts of a formed label
empty_is : {A : Type 0} (xs : List A) → is_empty xs ≡ true → xs ≡ []
empty_is [] e = refl
empty_is (x ∷ xs) e = absurd cc

formed_attributes : (b : Bool) (ps : List Pair) → cond b (is_ascending ps) (is_empty ps) ≡ true → unwrap_or (only_if b ps) [] ≡ ps
formed_attributes true ps e = refl
formed_attributes false ps e = sym (empty_is ps e)

formed_name : (k : Kind) (name value : List ℕ) (ps : List Pair) → cond (has_name k) true (is_empty name) ≡ true
    → name_in k (local_name (record { kind = k; name = name; value = value; attributes = ps }))
    (node_name (record { kind = k; name = name; value = value; attributes = ps })) ≡ name
formed_name Document name value ps e = sym (empty_is name e)
formed_name Element name value ps e = refl
formed_name Text name value ps e = sym (empty_is name e)
formed_name Comment name value ps e = sym (empty_is name e)
formed_name Doctype name value ps e = refl

kept_hold : (h : Hold) (container : Bool) (count width : ℕ) (ds : Items) → fits_hold h container count width ≡ true
    → hold_of (is_some (only_if (is_opened h) ds)) container (unwrap_or (only_if container count) 0) ≡ h
kept_hold leaf true count width ds e = absurd cc
kept_hold leaf false count width ds e = refl
kept_hold (counted n) true count width ds e = ap counted (sym (eqb-true n count e))
kept_hold (counted n) false count width ds e = absurd cc
kept_hold opened container count width ds e = refl

kept_count : (h : Hold) (container : Bool) (count width : ℕ) → fits_hold h container count width ≡ true
    → unwrap_or (only_if container count) 0 ≡ count
kept_count leaf true count width e = absurd cc
kept_count leaf false count width e = sym (eqb-true count 0 e)
kept_count (counted n) true count width e = refl
kept_count (counted n) false count width e = absurd cc
kept_count opened true count width e = refl
kept_count opened false count width e = absurd cc

-- the parts of a test of a row's place
pub record Placed (top : Bool) (width : ℕ) (r : Told) : Type 0 where
  pub id : nat_lt 0 r.seen.id ≡ true
  pub serial : nat_lt 0 r.seen.serial ≡ true
  pub formed : is_formed_label r.seen.label ≡ true
  pub named : is_named_label r.seen.label ≡ true
  pub at_top : same (is_document r.seen.label.kind) top ≡ true
  pub parent : same (r.parent == 0) top ≡ true
  pub hold : fits_hold r.seen.hold (holds r.seen.label.kind) r.count width ≡ true

pub placed : (top : Bool) (width : ℕ) (r : Told) → fits_place top width r ≡ true → Placed top width r
placed top width r f =
    let p6 = both_parts _ (fits_hold r.seen.hold (holds r.seen.label.kind) r.count width) f in
    let p5 = both_parts _ (same (r.parent == 0) top) p6.0 in
    let p4 = both_parts _ (same (is_document r.seen.label.kind) top) p5.0 in
    let p3 = both_parts _ _ p4.0 in
    let p2 = both_parts _ (is_formed_label r.seen.label) p3.0 in
    let p1 = both_parts (nat_lt 0 r.seen.id) (nat_lt 0 r.seen.serial) p2.0 in
    record { id = p1.0; serial = p1.1; formed = p2.1; named = p3.1; at_top = p4.1; parent = p5.1; hold = p6.1 }

-- the parts that are the same in both manners
pub record Standing (width : ℕ) (r : Told) : Type 0 where
  pub formed : is_formed_label r.seen.label ≡ true
  pub named : is_named_label r.seen.label ≡ true
  pub hold : fits_hold r.seen.hold (holds r.seen.label.kind) r.count width ≡ true

pub standing : (m : Manner) (top : Bool) (width : ℕ) (r : Told) → fits_told m top width r ≡ true → Standing width r
standing Pushed top width r f = let p = placed top width r f in record { formed = p.formed; named = p.named; hold = p.hold }
standing Described top width r f =
    let p6 = both_parts _ (fits_hold r.seen.hold (holds r.seen.label.kind) r.count width) f in
    let p5 = both_parts _ (r.parent == 0) p6.0 in
    let p4 = both_parts _ (top || not (is_document r.seen.label.kind)) p5.0 in
    let p3 = both_parts _ (is_named_label r.seen.label) p4.0 in
    let p2 = both_parts _ (is_formed_label r.seen.label) p3.0 in
    record { formed = p2.1; named = p3.1; hold = p6.1 }

-- the row is told again
told_is : (r : Told) (parent count : ℕ) (name : List ℕ) (attributes : List Pair) (hold : Hold) → parent ≡ r.parent → count ≡ r.count
    → name ≡ r.seen.label.name → attributes ≡ r.seen.label.attributes → hold ≡ r.seen.hold
    → record r {
      parent = parent;
      count = count;
      seen = record r.seen { label = record r.seen.label { name = name; attributes = attributes }; hold = hold };
    } ≡ r
told_is r parent count name attributes hold p c n a h =
    λ i. record r {
      parent = p i;
      count = c i;
      seen = record r.seen { label = record r.seen.label { name = n i; attributes = a i }; hold = h i };
    }

pub told_in-object_for : (m : Manner) (top : Bool) (width : ℕ) (r : Told) (ds : Items) → fits_told m top width r ≡ true
    → told_in (object_for r ds) ≡ r
told_in-object_for m top width r ds f =
    let p = standing m top width r f in
    let l = r.seen.label in
    let q2 = both_parts _ (cond (has_value l.kind) true (is_empty l.value)) p.formed in
    let q1 = both_parts (cond (is_element l.kind) (is_ascending l.attributes) (is_empty l.attributes))
    (cond (has_name l.kind) true (is_empty l.name)) q2.0 in
    told_is r _ _ _ _ _ (positive r.parent) (kept_count r.seen.hold (holds l.kind) r.count width p.hold)
    (formed_name l.kind l.name l.value l.attributes q1.1)
    (formed_attributes (is_element l.kind) l.attributes q1.0) (kept_hold r.seen.hold (holds l.kind) r.count width ds p.hold)

-- ---- such an object tells a node

same_there : {A : Type 0} (b : Bool) (x : A) → same (is_some (only_if b x)) b ≡ true
same_there true x = refl
same_there false x = refl

positive_there : (n : ℕ) → holds_of_some (nat_lt 0) (only_if (nat_lt 0 n) n) ≡ true
positive_there n = there _ refl where
  there : (b : Bool) → nat_lt 0 n ≡ b → holds_of_some (nat_lt 0) (only_if b n) ≡ true
  there true e = e
  there false e = refl

pub agrees-object_for : (r : Told) (ds : Items) → told_in (object_for r ds) ≡ r → agrees (object_for r ds) ≡ true
agrees-object_for r ds e =
    let l : label_in (object_for r ds) ≡ r.seen.label = ap (λ (t : Told). t.seen.label) e in
    both (both (both (both (same_there (is_element r.seen.label.kind) r.seen.label.attributes)
    (same_there (holds r.seen.label.kind) r.count))
    (ap (λ (m : Label). bytes_eq (local_name r.seen.label) (local_name m)) l ∙ same_name (local_name r.seen.label)))
    (ap (λ (m : Label). bytes_eq (node_name r.seen.label) (node_name m)) l ∙ same_name (node_name r.seen.label)))
    (positive_there r.parent)

same_hold : (h : Hold) (container : Bool) (count width : ℕ) (ds : Items) → items_len ds ≡ width → fits_hold h container count width ≡ true
    → fits_hold h container count (items_len (unwrap_or (only_if (is_opened h) ds) no_items)) ≡ true
same_hold leaf container count width ds w f = f
same_hold (counted n) container count width ds w f = f
same_hold opened container count width ds w f = rw w f

same_place : (m : Manner) (top : Bool) (width : ℕ) (r : Told) (ds : Items) → items_len ds ≡ width → fits_told m top width r ≡ true
    → fits_told m top (items_len (children_shown (object_for r ds))) r ≡ true
same_place Pushed top width r ds w f =
    let p6 = both_parts _ (fits_hold r.seen.hold (holds r.seen.label.kind) r.count width) f in
    both p6.0 (same_hold r.seen.hold (holds r.seen.label.kind) r.count width ds w p6.1)
same_place Described top width r ds w f =
    let p6 = both_parts _ (fits_hold r.seen.hold (holds r.seen.label.kind) r.count width) f in
    both p6.0 (same_hold r.seen.hold (holds r.seen.label.kind) r.count width ds w p6.1)

pub tells-object_for : (m : Manner) (top : Bool) (width : ℕ) (r : Told) (ds : Items) → items_len ds ≡ width
    → fits_told m top width r ≡ true → tells m top (object_for r ds) ≡ true
tells-object_for m top width r ds w f =
    let e = told_in-object_for m top width r ds f in
    both (agrees-object_for r ds e)
    (ap (fits_told m top (items_len (children_shown (object_for r ds)))) e ∙ same_place m top width r ds w f)

-- its fields fit

counted_only : (b : Bool) (n : ℕ) → is_counted n ≡ true → holds_of_some is_counted (only_if b n) ≡ true
counted_only true n c = c
counted_only false n c = refl

pub flat_fits : (ps : List (List ℕ)) → list_all text.fits ps ≡ true
flat_fits [] = refl
flat_fits (s ∷ ss) = flat_fits ss

attributes_fit : (b : Bool) (ps : List Pair) → holds_of_some attribute_list.fits (only_if b ps) ≡ true
attributes_fit true ps = flat_fits (flat ps)
attributes_fit false ps = refl

items_fit : (b : Bool) (ds : Items) → holds_of_some any_items.fits (only_if b ds) ≡ true
items_fit true ds = refl
items_fit false ds = refl

type_fits : (k : Kind) → node_type.fits k ≡ true
type_fits Document = refl
type_fits Element = refl
type_fits Text = refl
type_fits Comment = refl
type_fits Doctype = refl

-- the parts of a test of a row's numbers
pub record Counted (r : Told) : Type 0 where
  pub id : is_counted r.seen.id ≡ true
  pub serial : is_counted r.seen.serial ≡ true
  pub count : is_counted r.count ≡ true
  pub parent : is_counted r.parent ≡ true

pub counted_parts : (r : Told) → is_counted_row r ≡ true → Counted r
counted_parts r f =
    let p3 = both_parts _ (is_counted r.parent) f in
    let p2 = both_parts _ (is_counted r.count) p3.0 in
    let p1 = both_parts (is_counted r.seen.id) (is_counted r.seen.serial) p2.0 in
    record { id = p1.0; serial = p1.1; count = p2.1; parent = p3.1 }

fields_fit : (r : Told) (ds : Items) → is_counted_row r ≡ true → node_fields.fits (object_for r ds) ≡ true
fields_fit r ds f =
    let c = counted_parts r f in
    let k = r.seen.label.kind in
    both (attributes_fit (is_element k) r.seen.label.attributes)
    (both c.serial (both (counted_only (holds k) r.count c.count) (both (items_fit (is_opened r.seen.hold) ds)
    (both refl (both c.id (both refl (both (type_fits k) (both refl (both (counted_only (nat_lt 0 r.parent) r.parent c.parent) refl)))))))))

-- a row that fits has an object that is read
pub object_fits : (m : Manner) (top : Bool) (width : ℕ) (r : Told) (ds : Items) → items_len ds ≡ width → row_fits m top width r ≡ true
    → (node_object m top).fits (object_for r ds) ≡ true
object_fits m top width r ds w f =
    let p = both_parts (is_counted_row r) (fits_told m top width r) f in
    both (fields_fit r ds p.0) (tells-object_for m top width r ds w p.1)
