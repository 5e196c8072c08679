-- What is written for a tree of nodes is read as that tree, and nothing else is read.
use Rattle.std.proofs.Common.{◌≡◌, ℕ, suc, Bool, true, false, cond, Option, Some, None, bytes_eq, refl, sym, ap, ap₂, ◌∙◌, subst}
use Rattle.std.specs.Prelude.{codes, is_some, unwrap_or}
use Rattle.serde_json.specs.Data.{Data, null, boolean, number, string, array, object, Items, no_items, item, Members, no_members, member}
use Rattle.serde_json.specs.Events.{items_len}
use Rattle.cdp_json.specs.Plain.{is_plain, items_are_plain}
use Rattle.cdp_json.specs.Kinds.{passes, holds_of_some, is_counted, any_items}
use Rattle.cdp_json.specs.Lawful.{LawfulKind}
use Rattle.cdp_json.specs.Rows.{members_of}
use Rattle.node_tree.specs.Nodes.{Nodes, none, node, Branch, width, is_no_node}
use Rattle.node_tree.specs.Seen.{is_opened}
use Rattle.node_tree.specs.Labels.{holds}
use Rattle.dom_objects.specs.declared.node_rules.Manner.{Manner}
use Rattle.dom_objects.specs.declared.node_rules.Manner.TheVariants.{Pushed, Described}
use Rattle.dom_objects.specs.Told.{Told, hold_of}
use Rattle.dom_objects.specs.NodeObject.{NodeObject, Fields, attribute_list, node_type, agrees, node_row, fields_of, node_fields}
use Rattle.dom_objects.specs.NodeObject.{node_data, object_for, told_in, children_shown, only_if, row_fits, fits_told, is_counted_row}
use Rattle.dom_objects.specs.NodeObject.{tells, node_object}
use Rattle.dom_objects.specs.NodeData.{tree_items, tree_data, fits_below, nodes_fit, fits_nodes, tree_fits, fits_tree, over, tree_before}
use Rattle.dom_objects.specs.NodeData.{tree_told, children_told, trees_told, trees_of}
use Rattle.dom_objects.specs.NodeKinds.{nodes_kind, tree_kind}
use Rattle.dom_objects.specs.NodeKinds.{document_kind, described_kind}
use Rattle.cdp_json.proofs.Options.{both, both_parts}
use Rattle.dom_objects.proofs.NodeObjects.{fields_lawful, object_lawful_at, object_for-told_in, told_in-object_for, object_fits}

-- ---- the children of an object

abbrev pub trees_of_some : Manner → Option Items → Option (Nodes Told)
trees_of_some m None = Some none
trees_of_some m (Some ds) = trees_of m ds

pub children_of-members : (m : Manner) (f : Fields) → children_told m (members_of (node_row.writes f)) ≡ trees_of_some m f.1.1.1.0
children_of-members m (a, (s, (c, (k, (l, (i, (n, (t, (v, (p, u)))))))))) = at a c k p where
  at : (a' : _) (c' : Option ℕ) (k' : Option Items) (p' : Option ℕ)
      → children_told m (members_of (node_row.writes (a', (s, (c', (k', (l, (i, (n, (t, (v, (p', u)))))))))))) ≡ trees_of_some m k'
  at None None None None = refl
  at None None None (Some p') = refl
  at None None (Some ds) p' = refl
  at None (Some c') None None = refl
  at None (Some c') None (Some p') = refl
  at None (Some c') (Some ds) p' = refl
  at (Some a') None None None = refl
  at (Some a') None None (Some p') = refl
  at (Some a') None (Some ds) p' = refl
  at (Some a') (Some c') None None = refl
  at (Some a') (Some c') None (Some p') = refl
  at (Some a') (Some c') (Some ds) p' = refl

-- ---- what is written is read

pub items_len-tree_items : (n : Nodes Told) → items_len (tree_items n) ≡ width n
items_len-tree_items none = refl
items_len-tree_items (node r c t) = ap suc (items_len-tree_items t)

-- the children that a row shows
shown_again : (m : Manner) (opened : Bool) (c : Nodes Told) → cond opened true (is_no_node c) ≡ true → trees_of m (tree_items c) ≡ Some c
    → trees_of_some m (only_if opened (tree_items c)) ≡ Some c
shown_again m true c b e = e
shown_again m false none b e = refl
shown_again m false (node r c t) b e = absurd cc

branch_again : (m : Manner) (top : Bool) (r : Told) (c : Nodes Told) → row_fits m top (width c) r ≡ true → fits_below r c ≡ true
    → trees_of m (tree_items c) ≡ Some c
    → tree_told m top (node_data r (tree_items c)) ≡ Some (record { row = r; children = c })
branch_again m top r c f b e =
    let fits = object_fits m top (width c) r (tree_items c) (items_len-tree_items c) f in
    let place = (both_parts (is_counted_row r) (fits_told m top (width c) r) f).1 in
    ap₂ over ((object_lawful_at m top).again (object_for r (tree_items c)) fits)
    (children_of-members m (fields_of (object_for r (tree_items c))) ∙ shown_again m (is_opened r.seen.hold) c b e)
    ∙ ap (λ t. Some (record { row = t; children = c })) (told_in-object_for m top (width c) r (tree_items c) place)

-- the parts of the test of trees side by side
pub record FittingIn (m : Manner) (r : Told) (c t : Nodes Told) : Type 0 where
  pub row : row_fits m false (width c) r ≡ true
  pub below : fits_below r c ≡ true
  pub children : nodes_fit m c ≡ true
  pub later : nodes_fit m t ≡ true

pub fitting_in : (m : Manner) (r : Told) (c t : Nodes Told) → nodes_fit m (node r c t) ≡ true → FittingIn m r c t
fitting_in m r c t f =
    let p3 = both_parts _ (nodes_fit m t) f in
    let p2 = both_parts _ (nodes_fit m c) p3.0 in
    let p1 = both_parts (row_fits m false (width c) r) (fits_below r c) p2.0 in
    record { row = p1.0; below = p1.1; children = p2.1; later = p3.1 }

pub record FittingTreeIn (m : Manner) (top : Bool) (b : Branch Told) : Type 0 where
  pub row : row_fits m top (width b.children) b.row ≡ true
  pub below : fits_below b.row b.children ≡ true
  pub children : nodes_fit m b.children ≡ true

pub tree_in : (m : Manner) (top : Bool) (b : Branch Told) → tree_fits m top b ≡ true → FittingTreeIn m top b
tree_in m top b f =
    let p2 = both_parts _ (nodes_fit m b.children) f in
    let p1 = both_parts (row_fits m top (width b.children) b.row) (fits_below b.row b.children) p2.0 in
    record { row = p1.0; below = p1.1; children = p2.1 }

-- the same for nodes of a session
pub fitting_parts : (r : Told) (c t : Nodes Told) → fits_nodes (node r c t) ≡ true → FittingIn Pushed r c t
fitting_parts r c t f = fitting_in Pushed r c t f

pub tree_parts : (top : Bool) (b : Branch Told) → fits_tree top b ≡ true → FittingTreeIn Pushed top b
tree_parts top b f = tree_in Pushed top b f

pub trees_again : (m : Manner) (n : Nodes Told) → nodes_fit m n ≡ true → trees_of m (tree_items n) ≡ Some n
trees_again m none f = refl
trees_again m (node r c t) f =
    let p = fitting_in m r c t f in
    ap₂ tree_before (branch_again m false r c p.row p.below (trees_again m c p.children)) (trees_again m t p.later)

pub tree_again : (m : Manner) (top : Bool) (b : Branch Told) → tree_fits m top b ≡ true → tree_told m top (tree_data b) ≡ Some b
tree_again m top b f = let p = tree_in m top b f in branch_again m top b.row b.children p.row p.below (trees_again m b.children p.children)

-- ---- nothing else is read

abbrev items_in : Data → Items
items_in null = no_items
items_in (boolean b) = no_items
items_in (number n) = no_items
items_in (string s) = no_items
items_in (array ds) = ds
items_in (object ms) = no_items

-- the items of the array named `children`
abbrev child_items : Members → Items
child_items no_members = no_items
child_items (member k d ms) = cond (bytes_eq (codes "children") k) (items_in d) (child_items ms)

child_items-members : (f : Fields) → child_items (members_of (node_row.writes f)) ≡ unwrap_or f.1.1.1.0 no_items
child_items-members (a, (s, (c, (k, (l, (i, (n, (t, (v, (p, u)))))))))) = at a c k p where
  at : (a' : _) (c' : Option ℕ) (k' : Option Items) (p' : Option ℕ)
      → child_items (members_of (node_row.writes (a', (s, (c', (k', (l, (i, (n, (t, (v, (p', u)))))))))))) ≡ unwrap_or k' no_items
  at None None None None = refl
  at None None None (Some p') = refl
  at None None (Some ds) p' = refl
  at None (Some c') None None = refl
  at None (Some c') None (Some p') = refl
  at None (Some c') (Some ds) p' = refl
  at (Some a') None None None = refl
  at (Some a') None None (Some p') = refl
  at (Some a') None (Some ds) p' = refl
  at (Some a') (Some c') None None = refl
  at (Some a') (Some c') None (Some p') = refl
  at (Some a') (Some c') (Some ds) p' = refl

-- what a node and its children were read from
over_some : (o : Option NodeObject) (c : Option (Nodes Told)) (b : Branch Told) → over o c ≡ Some b
    → (x : NodeObject) × (n : Nodes Told) × (o ≡ Some x) × (c ≡ Some n) × (record { row = told_in x; children = n } ≡ b)
over_some None c b e = absurd cc
over_some (Some x) None b e = absurd cc
over_some (Some x) (Some n) b e = (x, n, refl, refl, cc)

before_some : (o : Option (Branch Told)) (t : Option (Nodes Told)) (n : Nodes Told) → tree_before o t ≡ Some n
    → (b : Branch Told) × (m : Nodes Told) × (o ≡ Some b) × (t ≡ Some m) × (node b.row b.children m ≡ n)
before_some None t n e = absurd cc
before_some (Some b) None n e = absurd cc
before_some (Some b) (Some m) n e = (b, m, refl, refl, cc)

pub counted_or_zero : (o : Option ℕ) → holds_of_some is_counted o ≡ true → is_counted (unwrap_or o 0) ≡ true
counted_or_zero None e = refl
counted_or_zero (Some n) e = e

-- what is read has numbers below 2^53
counted_told : (x : NodeObject) → node_fields.fits x ≡ true → is_counted_row (told_in x) ≡ true
counted_told x f =
    let p0 = both_parts (holds_of_some attribute_list.fits x.attributes) _ f in
    let p1 = both_parts (is_counted x.serial) _ p0.1 in
    let p2 = both_parts (holds_of_some is_counted x.count) _ p1.1 in
    let p3 = both_parts (holds_of_some any_items.fits x.children) _ p2.1 in
    let p4 = both_parts true _ p3.1 in
    let p5 = both_parts (is_counted x.id) _ p4.1 in
    let p6 = both_parts true _ p5.1 in
    let p7 = both_parts (node_type.fits x.kind) _ p6.1 in
    let p8 = both_parts true _ p7.1 in
    let p9 = both_parts (holds_of_some is_counted x.parent) _ p8.1 in
    both (both (both p5.0 p1.0) (counted_or_zero x.count p2.0)) (counted_or_zero x.parent p9.0)

no_items_none : (n : Nodes Told) → tree_items n ≡ no_items → is_no_node n ≡ true
no_items_none none e = refl
no_items_none (node r c t) e = absurd cc

hidden_below : (o : Option Items) (container : Bool) (count : ℕ) (n : Nodes Told) → o ≡ None → is_no_node n ≡ true
    → cond (is_opened (hold_of (is_some o) container count)) true (is_no_node n) ≡ true
hidden_below None true count n is e = e
hidden_below None false count n is e = e
hidden_below (Some ds) container count n is e = absurd cc

pub below_told : (x : NodeObject) (n : Nodes Told) → tree_items n ≡ children_shown x → fits_below (told_in x) n ≡ true
below_told x n e = at x.children refl where
  at : (o : Option Items) → x.children ≡ o → fits_below (told_in x) n ≡ true
  at None is = hidden_below x.children (holds x.kind) (unwrap_or x.count 0) n is (no_items_none n (e ∙ ap (λ o. unwrap_or o no_items) is))
  at (Some ds) is = rw is

pub object_inside : (ms ns : Members) → object ms ≡ object ns → ms ≡ ns
object_inside ms ns e = cc

object_take : (m : Manner) (top : Bool) (ms : Members) (b : Branch Told)
    → ((n : Nodes Told) → children_told m ms ≡ Some n → (tree_items n ≡ child_items ms) × (nodes_fit m n ≡ true))
    → over ((node_object m top).reads (object ms)) (children_told m ms) ≡ Some b → (tree_data b ≡ object ms) × (tree_fits m top b ≡ true)
object_take m top ms b rec e =
    let p = over_some _ _ b e in
    let x = p.0 in
    let n = p.1 in
    let t = (object_lawful_at m top).takes (object ms) x p.2 in
    let f = both_parts (node_fields.fits x) (tells m top x) t.1 in
    let r = rec n p.3 in
    let kids : tree_items n ≡ children_shown x = r.0 ∙ ap child_items
    (sym (object_inside (members_of (node_row.writes (fields_of x))) ms t.0)) ∙ child_items-members (fields_of x) in
    let place = (both_parts (agrees x) (fits_told m top (items_len (children_shown x)) (told_in x)) f.1).1 in
    let wide : items_len (children_shown x) ≡ width n = ap items_len (sym kids) ∙ items_len-tree_items n in
    subst (λ (z : Branch Told). (tree_data z ≡ object ms) × (tree_fits m top z ≡ true)) p.4 (
      ap (node_data (told_in x)) kids ∙ ap node_fields.spell (object_for-told_in m top x f.1) ∙ t.0,
      both (both (both (counted_told x f.0) (subst (λ w. fits_told m top w (told_in x) ≡ true) wide place)) (below_told x n kids)) r.1,
    )

none_taken : (m : Manner) (n : Nodes Told) → none ≡ n → (tree_items n ≡ no_items) × (nodes_fit m n ≡ true)
none_taken m n e = subst (λ (x : Nodes Told). (tree_items x ≡ no_items) × (nodes_fit m x ≡ true)) e (refl, refl)

member_take : (m : Manner) (b : Bool) (here later : Option (Nodes Told)) (ds es : Items) (n : Nodes Told)
    → (here ≡ Some n → (tree_items n ≡ ds) × (nodes_fit m n ≡ true)) → (later ≡ Some n → (tree_items n ≡ es) × (nodes_fit m n ≡ true))
    → cond b here later ≡ Some n → (tree_items n ≡ cond b ds es) × (nodes_fit m n ≡ true)
member_take m true here later ds es n first rest e = first e
member_take m false here later ds es n first rest e = rest e

mutual
  pub tree_take : (m : Manner) (top : Bool) (d : Data) (b : Branch Told) → tree_told m top d ≡ Some b
      → (tree_data b ≡ d) × (tree_fits m top b ≡ true)
  tree_take m top null b e = absurd cc
  tree_take m top (boolean x) b e = absurd cc
  tree_take m top (number x) b e = absurd cc
  tree_take m top (string x) b e = absurd cc
  tree_take m top (array x) b e = absurd cc
  tree_take m top (object ms) b e = object_take m top ms b (children_take m ms) e

  children_take : (m : Manner) (ms : Members) (n : Nodes Told) → children_told m ms ≡ Some n
      → (tree_items n ≡ child_items ms) × (nodes_fit m n ≡ true)
  children_take m no_members n e = none_taken m n cc
  children_take m (member k d ms) n e = member_take m (bytes_eq (codes "children") k) (trees_told m d) (children_told m ms) (items_in d)
      (child_items ms) n (array_take m d n) (children_take m ms n) e

  array_take : (m : Manner) (d : Data) (n : Nodes Told) → trees_told m d ≡ Some n → (tree_items n ≡ items_in d) × (nodes_fit m n ≡ true)
  array_take m null n e = absurd cc
  array_take m (boolean x) n e = absurd cc
  array_take m (number x) n e = absurd cc
  array_take m (string x) n e = absurd cc
  array_take m (array ds) n e = trees_take m ds n e
  array_take m (object ms) n e = absurd cc

  trees_take : (m : Manner) (ds : Items) (n : Nodes Told) → trees_of m ds ≡ Some n → (tree_items n ≡ ds) × (nodes_fit m n ≡ true)
  trees_take m no_items n e = none_taken m n cc
  trees_take m (item d ds) n e =
      let p = before_some (tree_told m false d) (trees_of m ds) n e in
      let first = tree_take m false d p.0 p.2 in
      let rest = trees_take m ds p.1 p.3 in
      let f = tree_in m false p.0 first.1 in
      subst (λ (x : Nodes Told). (tree_items x ≡ item d ds) × (nodes_fit m x ≡ true)) p.4 (ap₂ item first.0 rest.0, both first.1 rest.1)

-- ---- a tree is plain JSON

children_plain : (opened : Bool) (ds : Items) → items_are_plain ds ≡ true
    → passes (Some (holds_of_some items_are_plain)) (only_if opened ds) ≡ true
children_plain true ds e = e
children_plain false ds e = refl

node_plain : (m : Manner) (top : Bool) (r : Told) (c : Nodes Told) → row_fits m top (width c) r ≡ true
    → items_are_plain (tree_items c) ≡ true → is_plain (node_data r (tree_items c)) ≡ true
node_plain m top r c f e =
    let fits = object_fits m top (width c) r (tree_items c) (items_len-tree_items c) f in
    fields_lawful.plain (object_for r (tree_items c)) (both_parts (node_fields.fits (object_for r (tree_items c))) _ fits).0
    (children_plain (is_opened r.seen.hold) (tree_items c) e)

pub trees_plain : (m : Manner) (n : Nodes Told) → nodes_fit m n ≡ true → items_are_plain (tree_items n) ≡ true
trees_plain m none f = refl
trees_plain m (node r c t) f =
    let p = fitting_in m r c t f in
    both (node_plain m false r c p.row (trees_plain m c p.children)) (trees_plain m t p.later)

pub tree_plain : (m : Manner) (top : Bool) (b : Branch Told) → tree_fits m top b ≡ true → is_plain (tree_data b) ≡ true
tree_plain m top b f = let p = tree_in m top b f in node_plain m top b.row b.children p.row (trees_plain m b.children p.children)

nodes_take : (d : Data) (n : Nodes Told) → trees_told Pushed d ≡ Some n → (array (tree_items n) ≡ d) × (fits_nodes n ≡ true)
nodes_take null n e = absurd cc
nodes_take (boolean x) n e = absurd cc
nodes_take (number x) n e = absurd cc
nodes_take (string x) n e = absurd cc
nodes_take (array ds) n e = let t = trees_take Pushed ds n e in (ap array t.0, t.1)
nodes_take (object ms) n e = absurd cc

-- nodes that are no document
pub nodes_lawful : LawfulKind nodes_kind
nodes_lawful = record { takes = nodes_take; again = trees_again Pushed; plain = λ n f l. trees_plain Pushed n f }

-- one of these
pub tree_lawful : LawfulKind tree_kind
tree_lawful = record { takes = tree_take Pushed false; again = tree_again Pushed false; plain = λ b f l. tree_plain Pushed false b f }

-- a document with all that is shown of it
pub document_lawful : LawfulKind document_kind
document_lawful = record { takes = tree_take Pushed true; again = tree_again Pushed true; plain = λ b f l. tree_plain Pushed true b f }

-- a node that is described alone
pub described_lawful : LawfulKind described_kind
described_lawful = record {
  takes = tree_take Described true;
  again = tree_again Described true;
  plain = λ b f l. tree_plain Described true b f;
}
