-- One node changed: what is refused, and that the mirror stays one.
use Rattle.std.proofs.Common.{◌≡◌, ℕ, suc, ◌+◌, ◌-◌, ◌<◌, ◌≤◌, ◌==◌, max, nat_le, Bool, true, false, not, cond, ◌&&◌, ◌||◌, List, [], ◌∷◌}
use Rattle.std.proofs.Common.{Option, Some, None, option_map, unwrap_or, Result, Ok, refl, sym, ap, ◌∙◌, arith}
use Rattle.std.specs.List.{list_all}
use Rattle.node_tree.specs.declared.Kind.{Kind}
use Rattle.node_tree.specs.declared.Kind.TheVariants as kind
use Rattle.node_tree.specs.Nodes.{Nodes, none, node, Branch, alone, height, is_no_node}
use Rattle.node_tree.specs.Names.{is_attribute_name}
use Rattle.node_tree.specs.Labels.{Pair, Label, is_document, is_element, has_value, is_ascending, is_formed_label, is_named_label}
use Rattle.node_tree.specs.LabelChanges.{placed, pairs_without, with_attribute, without_attribute, with_value}
use Rattle.node_tree.specs.Keys.{Spot, tally, tally_in, find, spot, put, At, here, within, past, first_true}
use Rattle.node_tree.specs.Seen.{Seen, Hold, leaf, counted, opened, is_opened, shows_count, seen_id, seen_serial}
use Rattle.node_tree.proofs.KeyLemmas.{tally-at, height-at, height_above-at}
use Rattle.node_tree.proofs.ChangeLemmas.{at-old}
use Rattle.node_tree.proofs.PairLemmas.{is_ascending-placed, names-placed, names-without, ascending-without}
use Rattle.dom_objects.specs.Told.{seen_nodes}
use Rattle.dom_objects.specs.NodeData.{fits_nodes}
use Rattle.client_views.specs.Moves.{Change, shows, inserts, removes, counts, sets, drops, says, changed, suits_change, has_tree, put_after}
use Rattle.client_views.specs.Moves.{without_tree, has_named_attribute, nodes_told}
use Rattle.client_views.specs.Views.{IsMirror, is_bare, has_formed_labels, is_document_tree}
use Rattle.node_tree.specs.Levels.{most_levels}
use Rattle.front_mirror.specs.declared.faults.FrontKind.{FrontKind}
use Rattle.front_mirror.specs.declared.edits.NodeChange.{NodeChange}
use Rattle.front_mirror.specs.declared.edits.NodeChange.TheVariants as edit
use Rattle.front_mirror.specs.Shown.{known_at, no_node}
use Rattle.front_mirror.specs.Front.{FrontValue, ToldChange, is_kin, is_unique, is_fresh, takes_change, knows_named, stands_low}
use Rattle.front_mirror.specs.Front.{change_fault, told, with_tree, at_spot}
use Rattle.front_mirror.specs.Edits.{edit_nodes, edit_change, edit_told, fits_edit, is_ready, spot_fault, with_changed}
use Rattle.front_mirror.specs.Sizes.{HasLowIds}
use Rattle.front_mirror.proofs.ToldLemmas.{height-seen}
use Rattle.front_mirror.proofs.ViewLemmas.{clear_three, shows_nodes}
use Rattle.front_mirror.proofs.SpotLemmas.{spot_branch, find-spot, put-spot, depth-at}
use Rattle.front_mirror.proofs.ApartLemmas.{Once, once_new}
use Rattle.client_views.proofs.InsertedLemmas.{Inserted, tally-inserted, height-inserted, inserted_after, taken_out, passes-at, all-at}
use Rattle.client_views.proofs.InsertedLemmas.{all-inserted}
use Rattle.client_views.proofs.BoolLemmas.{and_left, and_right, both}

-- ---- what is refused, and what is taken

pub known-spot : (id : ℕ) (tree : Nodes Seen) (s : Spot Seen) → spot seen_id id 0 tree ≡ Some s → known_at id tree ≡ s.branch
known-spot id tree s is = ap (λ (o : Option (Branch Seen)). unwrap_or o no_node)
    (find-spot seen_id id 0 tree ∙ ap (option_map spot_branch) is)

abbrev taken_well : FrontValue → Result FrontValue FrontKind
taken_well v = Ok v

taken_at : (v : FrontValue) (t : ToldChange) (o : Option (Spot Seen)) → spot seen_id t.node 0 v.tree ≡ o
    → spot_fault v.tree t o ≡ None → at_spot v t o ≡ Ok (told v (with_changed t.node t.change v.tree))
taken_at v t None is e = cc
taken_at v t (Some s) is e =
    ap (with_tree v (put seen_id t.node (changed t.change s.branch) v.tree)) e
    ∙ ap (λ (b : Branch Seen). taken_well (told v (put seen_id t.node (changed t.change b) v.tree))) (sym (known-spot t.node v.tree s is))

-- the same as code has it
pub edit_kept : (v : FrontValue) (t : ToldChange) (wrong : Option FrontKind) (tree : Nodes Seen) (taken : ℕ)
    → wrong ≡ spot_fault v.tree t (spot seen_id t.node 0 v.tree) → wrong ≡ None
    → tree ≡ with_changed t.node t.change v.tree → taken ≡ v.taken + 1
    → at_spot v t (spot seen_id t.node 0 v.tree) ≡ Ok (record v { tree = tree; taken = taken })
edit_kept v t wrong tree taken judged clear is one_more =
    taken_at v t (spot seen_id t.node 0 v.tree) refl (sym judged ∙ clear)
    ∙ ap (λ (n : Nodes Seen). taken_well (told v n)) (sym is)
    ∙ ap (λ (n : ℕ). taken_well (record v { tree = tree; taken = n })) (sym one_more)

-- ---- the labels of nodes

-- the test of one node by its row and its children, for trees that are bare and for formed labels
abbrev pub is_bare_node : Seen → Nodes Seen → Bool
is_bare_node r c = is_opened r.hold || is_no_node c

abbrev pub has_formed_label : Seen → Nodes Seen → Bool
has_formed_label r c = is_formed_label r.label && is_named_label r.label

-- a label's form, where its attributes or its value change
formed_with : (k : Kind) (name value : List ℕ) (ps qs : List Pair) → is_element k ≡ true → is_ascending qs ≡ true
    → is_formed_label (record { kind = k; name = name; value = value; attributes = ps }) ≡ true
    → is_formed_label (record { kind = k; name = name; value = value; attributes = qs }) ≡ true
formed_with kind.Document name value ps qs e asc f = absurd cc
formed_with kind.Element name value ps qs e asc f = both (both asc refl) (and_right (is_ascending ps && true) _ f)
formed_with kind.Text name value ps qs e asc f = absurd cc
formed_with kind.Comment name value ps qs e asc f = absurd cc
formed_with kind.Doctype name value ps qs e asc f = absurd cc

ascending_in : (k : Kind) (name value : List ℕ) (ps : List Pair) → is_element k ≡ true
    → is_formed_label (record { kind = k; name = name; value = value; attributes = ps }) ≡ true → is_ascending ps ≡ true
ascending_in kind.Document name value ps e f = absurd cc
ascending_in kind.Element name value ps e f = and_left (is_ascending ps) true (and_left (is_ascending ps && true) _ f)
ascending_in kind.Text name value ps e f = absurd cc
ascending_in kind.Comment name value ps e f = absurd cc
ascending_in kind.Doctype name value ps e f = absurd cc

pub ascending_label : (l : Label) → is_element l.kind ≡ true → is_formed_label l ≡ true → is_ascending l.attributes ≡ true
ascending_label l e f = ascending_in l.kind l.name l.value l.attributes e f

said_with : (k : Kind) (name value other : List ℕ) (ps : List Pair) → has_value k ≡ true
    → is_formed_label (record { kind = k; name = name; value = value; attributes = ps }) ≡ true
    → is_formed_label (record { kind = k; name = name; value = other; attributes = ps }) ≡ true
said_with kind.Document name value other ps e f = absurd cc
said_with kind.Element name value other ps e f = absurd cc
said_with kind.Text name value other ps e f = f
said_with kind.Comment name value other ps e f = f
said_with kind.Doctype name value other ps e f = absurd cc

-- ---- what a changed node owes

-- the nodes that come with a change
abbrev pub added : Change → Nodes Seen
added = nodes_told

-- the nodes that come are bare, and their labels have their forms
pub record Fine (c : Change) : Type 0 where
  pub bare : is_bare (added c) ≡ true
  pub labels : has_formed_labels (added c) ≡ true
  pub named : has_named_attribute c ≡ true

-- a node of a mirror
pub record Sound (b : Branch Seen) : Type 0 where
  pub bare : (is_bare_node b.row b.children && is_bare b.children) ≡ true
  pub labels : (has_formed_label b.row b.children && has_formed_labels b.children) ≡ true

-- what a changed node owes, where these nodes come with the change
pub record Owes (old new : Branch Seen) (more : Nodes Seen) : Type 0 where
  pub ids : (x : ℕ) → tally_in seen_id x new ≤ tally_in seen_id x old + tally seen_id x more
  pub serials : (x : ℕ) → tally_in seen_serial x new ≤ tally_in seen_serial x old + tally seen_serial x more
  pub levels : height new.children ≤ max (height old.children) (height more)
  pub sound : Sound new
  pub kind : new.row.label.kind ≡ old.row.label.kind

counted_empty : (h : Hold) (e : Bool) → shows_count h ≡ true → (is_opened h || e) ≡ true → e ≡ true
counted_empty leaf e c h = cc
counted_empty (counted n) e c h = h
counted_empty opened e c h = cc

pub empty_none : {R : Type 0} (n : Nodes R) → is_no_node n ≡ true → n ≡ none
empty_none none e = refl
empty_none (node r c t) e = cc

-- a node whose children are only counted has none
pub counted_none : (b : Branch Seen) → shows_count b.row.hold ≡ true → (is_bare_node b.row b.children && is_bare b.children) ≡ true
    → b.children ≡ none
counted_none b c e = empty_none b.children
    (counted_empty b.row.hold (is_no_node b.children) c (and_left (is_bare_node b.row b.children) (is_bare b.children) e))

or_here : (a b : Bool) → a ≡ true → (a || b) ≡ true
or_here true b e = refl
or_here false b e = cc

bare-inserted : {w : Branch Seen} {n m : Nodes Seen} → Inserted w n m
    → is_bare m ≡ ((is_bare_node w.row w.children && is_bare w.children) && is_bare n)
bare-inserted e = all-inserted is_bare is_bare_node (λ r c t. refl) e

labels-inserted : {w : Branch Seen} {n m : Nodes Seen} → Inserted w n m
    → has_formed_labels m ≡ ((has_formed_label w.row w.children && has_formed_labels w.children) && has_formed_labels n)
labels-inserted e = all-inserted has_formed_labels has_formed_label (λ r c t. refl) e

same_tally : (key : Seen → ℕ) (old : Branch Seen) (r : Seen) → key r ≡ key old.row → (x : ℕ)
    → tally_in key x (record { row = r; children = old.children }) ≤ tally_in key x old + tally key x none
same_tally key old r e x =
    let k : cond {A = ℕ} (key r == x) 1 0 ≡ cond {A = ℕ} (key old.row == x) 1 0 = ap (λ (i : ℕ). cond {A = ℕ} (i == x) 1 0) e in omega arith

module _ (b : Branch Seen) (sound : Sound b) where
  below_bare : is_bare b.children ≡ true
  below_bare = and_right (is_bare_node b.row b.children) (is_bare b.children) sound.bare

  below_labels : has_formed_labels b.children ≡ true
  below_labels = and_right (has_formed_label b.row b.children) (has_formed_labels b.children) sound.labels

  own_label : has_formed_label b.row b.children ≡ true
  own_label = and_left (has_formed_label b.row b.children) (has_formed_labels b.children) sound.labels

  formed : is_formed_label b.row.label ≡ true
  formed = and_left (is_formed_label b.row.label) (is_named_label b.row.label) own_label

  named : is_named_label b.row.label ≡ true
  named = and_right (is_formed_label b.row.label) (is_named_label b.row.label) own_label

  insert_owes : (previous : ℕ) (w : Branch Seen) → is_opened b.row.hold ≡ true → Inserted w b.children (put_after previous w b.children)
      → Fine (inserts previous w)
      → Owes b (changed (inserts previous w) b) (alone w)
  insert_owes previous w opens e fine = record {
    ids = λ x. let h = tally-inserted seen_id x e in omega arith;
    serials = λ x. let h = tally-inserted seen_serial x e in omega arith;
    levels = let h = height-inserted e in omega arith;
    sound = record {
      bare = both (or_here (is_opened b.row.hold) _ opens) (bare-inserted e ∙ both (and_left _ true fine.bare) below_bare);
      labels = both own_label (labels-inserted e ∙ both (and_left _ true fine.labels) below_labels);
    };
    kind = refl;
  }

  remove_owes : (id : ℕ) (w : Branch Seen) → is_opened b.row.hold ≡ true → Inserted w (without_tree id b.children) b.children
      → Owes b (changed (removes id) b) none
  remove_owes id w opens e = record {
    ids = λ x. let h = tally-inserted seen_id x e in omega arith;
    serials = λ x. let h = tally-inserted seen_serial x e in omega arith;
    levels = let h = height-inserted e in omega arith;
    sound = record {
      bare = both (or_here (is_opened b.row.hold) _ opens)
          (and_right (is_bare_node w.row w.children && is_bare w.children) _ (sym (bare-inserted e) ∙ below_bare));
      labels = both own_label (and_right (has_formed_label w.row w.children && has_formed_labels w.children) _
          (sym (labels-inserted e) ∙ below_labels));
    };
    kind = refl;
  }

  label_owes : (l : Label) → l.kind ≡ b.row.label.kind → is_formed_label l ≡ true → is_named_label l ≡ true
      → Owes b (record { row = record b.row { label = l }; children = b.children }) none
  label_owes l same f n = record {
    ids = same_tally seen_id b (record b.row { label = l }) refl;
    serials = same_tally seen_serial b (record b.row { label = l }) refl;
    levels = omega arith;
    sound = record { bare = sound.bare; labels = both (both f n) below_labels };
    kind = same;
  }

  names_ok : list_all (λ p. is_attribute_name p.0) b.row.label.attributes ≡ true
  names_ok = and_right _ (list_all (λ p. is_attribute_name p.0) b.row.label.attributes) named

  pub changed-owes : (c : Change) → suits_change c b ≡ true → Fine c → Owes b (changed c b) (added c)
  changed-owes (shows kids) s fine = record {
    ids = λ x. omega arith;
    serials = λ x. omega arith;
    levels = omega arith;
    sound = record { bare = fine.bare; labels = both own_label fine.labels };
    kind = refl;
  }
  changed-owes (inserts previous w) s fine =
      let p = and_left _ (not (is_opened w.row.hold)) s in
      insert_owes previous w (and_left _ (previous == 0 || has_tree previous b.children) p)
      (inserted_after previous w b.children (and_right (is_opened b.row.hold) _ p)) fine
  changed-owes (removes id) s fine =
      let o = taken_out id b.children (and_right (is_opened b.row.hold) (has_tree id b.children) s) in
      remove_owes id o.tree (and_left (is_opened b.row.hold) (has_tree id b.children) s) o.stood
  changed-owes (counts n) s fine = record {
    ids = same_tally seen_id b (record b.row { hold = counted n }) refl;
    serials = same_tally seen_serial b (record b.row { hold = counted n }) refl;
    levels = omega arith;
    sound = record {
      bare = both (ap is_no_node (counted_none b s sound.bare)) below_bare;
      labels = sound.labels;
    };
    kind = refl;
  }
  changed-owes (sets name value) s fine =
      let asc = ascending_label b.row.label s formed in
      label_owes (with_attribute name value b.row.label) refl
      (formed_with b.row.label.kind b.row.label.name b.row.label.value b.row.label.attributes
      (placed (name, value) b.row.label.attributes) s
      (is_ascending-placed (name, value) b.row.label.attributes asc) formed)
      (both (and_left _ (list_all (λ p. is_attribute_name p.0) b.row.label.attributes) named)
      (names-placed name value is_attribute_name b.row.label.attributes fine.named names_ok))
  changed-owes (drops name) s fine =
      let asc = ascending_label b.row.label s formed in
      label_owes (without_attribute name b.row.label) refl
      (formed_with b.row.label.kind b.row.label.name b.row.label.value b.row.label.attributes (pairs_without name b.row.label.attributes) s
      (ascending-without name b.row.label.attributes asc) formed)
      (both (and_left _ (list_all (λ p. is_attribute_name p.0) b.row.label.attributes) named)
      (names-without name is_attribute_name b.row.label.attributes names_ok))
  changed-owes (says value) s fine =
      label_owes (with_value value b.row.label) refl
      (said_with b.row.label.kind b.row.label.name b.row.label.value value b.row.label.attributes s formed) named

-- ---- the mirror that has the change

bare_same : (r : Seen) (old new : Branch Seen) (depth : ℕ) (c m : Nodes Seen) → At old new depth c m → is_bare_node r c ≡ is_bare_node r m
bare_same r old new _ _ _ (here t) = refl
bare_same r old new _ _ _ (within depth s c m t e) = refl
bare_same r old new _ _ _ (past depth s c t m e) = refl

label_same : (r : Seen) (old new : Branch Seen) (depth : ℕ) (c m : Nodes Seen) → At old new depth c m
    → has_formed_label r c ≡ has_formed_label r m
label_same r old new depth c m e = refl

module _ {old new : Branch Seen} where
  there-at : {depth : ℕ} {n m : Nodes Seen} → At old new depth n m → is_no_node n ≡ false
  there-at (here t) = refl
  there-at (within depth r c m t e) = refl
  there-at (past depth r c t m e) = refl

  document-at : {depth : ℕ} {n m : Nodes Seen} → At old new depth n m → is_document_tree n ≡ true → new.row.label.kind ≡ old.row.label.kind
      → is_document_tree m ≡ true
  document-at (here t) d same = rw same d
  document-at (within depth r c m t e) d same = d
  document-at (past depth r c t m e) d same =
      let gone : is_no_node t ≡ true = and_right (is_document r.label.kind) (is_no_node t) d in
      let there = there-at e in
      absurd (cc)

  pub bare-at : {depth : ℕ} {n m : Nodes Seen} → At old new depth n m → is_bare n ≡ true
      → (is_bare_node old.row old.children && is_bare old.children) ≡ true
  bare-at e b = passes-at is_bare is_bare_node (λ r c t. refl) e b

  sound-at : {depth : ℕ} {n m : Nodes Seen} → At old new depth n m → IsMirror n → Sound old
  sound-at e mirror = record {
    bare = bare-at e mirror.view.bare;
    labels = passes-at has_formed_labels has_formed_label (λ r c t. refl) e mirror.labels;
  }

  tally_kept : (key : Seen → ℕ) (x : ℕ) (more : Nodes Seen) {depth : ℕ} {n m : Nodes Seen} → At old new depth n m
      → tally_in key x new ≤ tally_in key x old + tally key x more
      → tally key x m ≤ tally key x n + tally key x more
  tally_kept key x more e h = let k = tally-at key x e in omega arith

  kept_view : (more : Nodes Seen) {depth : ℕ} {n m : Nodes Seen} → At old new depth n m → IsMirror n → Owes old new more
      → ((x : ℕ) → tally seen_id x n + tally seen_id x more ≤ 1) → ((x : ℕ) → tally seen_serial x n + tally seen_serial x more ≤ 1)
      → tally seen_id 0 more ≡ 0
      → suc (depth + height more) ≤ most_levels → IsMirror m
  kept_view more e mirror owes ids serials above levels = record {
    view = record {
      ids = λ x. let h = tally_kept seen_id x more e (owes.ids x) in let k = ids x in omega arith;
      serials = λ x. let h = tally_kept seen_serial x more e (owes.serials x) in let k = serials x in omega arith;
      above = let h = tally_kept seen_id 0 more e (owes.ids 0) in let k = mirror.view.above in omega arith;
      levels =
          let h = height-at e in
          let k = mirror.view.levels in
          let l = owes.levels in
          let j = height_above-at (at-old e) in
          omega arith;
      bare = all-at is_bare is_bare_node (λ r c t. refl) bare_same old new _ _ _ e mirror.view.bare owes.sound.bare;
    };
    labels = all-at has_formed_labels has_formed_label (λ r c t. refl) label_same old new _ _ _ e mirror.labels owes.sound.labels;
    document = document-at e mirror.document owes.kind;
  }

-- what holds where nothing is wrong with a change
pub record Clear (v : Nodes Seen) (t : ToldChange) (s : Spot Seen) : Type 0 where
  pub suits : suits_change t.change s.branch ≡ true
  pub new : (is_unique t.nodes && is_fresh v t.nodes) ≡ true
  pub low : stands_low s.level t.nodes ≡ true

clear_four : {A : Type 0} (x y z w : A) (p q r s : Bool) → first_true ((x, not p) ∷ (y, not q) ∷ (z, not r) ∷ (w, not s) ∷ []) ≡ None
    → (p ≡ true) × ((q ≡ true) × ((r ≡ true) × (s ≡ true)))
clear_four x y z w true q r s e = (refl, clear_three y z w q r s e)
clear_four x y z w false q r s e = cc

pub clear_change : (v : Nodes Seen) (t : ToldChange) (s : Spot Seen) → change_fault v t s ≡ None → Clear v t s
clear_change v t s e =
    let p = clear_four _ _ _ _ (takes_change t.change s.branch.row && knows_named v t.change)
    (suits_change t.change s.branch && is_kin t.node t.nodes) (is_unique t.nodes && is_fresh v t.nodes)
    (stands_low s.level t.nodes) e in
    record { suits = and_left (suits_change t.change s.branch) (is_kin t.node t.nodes) p.1.0; new = p.1.1.0; low = p.1.1.1 }

low_levels : (level h : ℕ) → level < most_levels → nat_le h (most_levels - 1 - level) ≡ true → suc (level + h) ≤ most_levels
low_levels level h below e = let k : h ≤ most_levels - 1 - level = grind arith in omega arith

pub edit_added : (e : NodeChange) → seen_nodes (edit_nodes e) ≡ added (edit_change e)
edit_added (edit.Show nodes) = refl
edit_added (edit.Insert previous n) = refl
edit_added (edit.Remove id) = refl
edit_added (edit.Count n) = refl
edit_added (edit.SetAttribute name value) = refl
edit_added (edit.DropAttribute name) = refl
edit_added (edit.SetValue value) = refl

fine_edit : (e : NodeChange) → fits_edit e ≡ true → Fine (edit_change e)
fine_edit e fits =
    let shows = shows_nodes (edit_nodes e) (and_left (fits_nodes (edit_nodes e)) (has_named_attribute (edit_change e)) fits) in
    record {
      bare = ap is_bare (sym (edit_added e)) ∙ shows.bare;
      labels = ap has_formed_labels (sym (edit_added e)) ∙ shows.labels;
      named = and_right (fits_nodes (edit_nodes e)) (has_named_attribute (edit_change e)) fits;
    }

-- the mirror stays one
module _ (v : Nodes Seen) (id : ℕ) (e : NodeChange) (mirror : IsMirror v) (fits : fits_edit e ≡ true) where
  mirror_at : (o : Option (Spot Seen)) → spot seen_id id 0 v ≡ o → spot_fault v (edit_told id e) o ≡ None
      → IsMirror (with_changed id (edit_change e) v)
  mirror_at None is clear = absurd cc
  mirror_at (Some s) is clear =
      let fine = clear_change v (edit_told id e) s clear in
      let p = put-spot seen_id id (changed (edit_change e) s.branch) 0 v s is in
      let shows = shows_nodes (edit_nodes e) (and_left (fits_nodes (edit_nodes e)) (has_named_attribute (edit_change e)) fits) in
      let once = once_new v (edit_nodes e) mirror.view fine.new in
      let is_added = edit_added e in
      let low : suc (p.0 + height (added (edit_change e))) ≤ most_levels
      = let d = depth-at p.2 in
      let k = mirror.view.levels in
      let l = p.1 in
      let h = height-seen (edit_nodes e) in
      let same : height (added (edit_change e)) ≡ height (edit_nodes e) = ap height (sym is_added) ∙ h in
      let j = low_levels s.level (height (edit_nodes e)) (omega arith) fine.low in
      omega arith in
      let kept : IsMirror (put seen_id id (changed (edit_change e) s.branch) v)
      = kept_view (added (edit_change e)) p.2 mirror
      (changed-owes s.branch (sound-at p.2 mirror) (edit_change e) fine.suits (fine_edit e fits))
      (λ x. let h = once.ids x in let k : tally seen_id x (added (edit_change e))
      ≡ tally seen_id x (seen_nodes (edit_nodes e)) = ap (tally seen_id x) (sym is_added) in omega arith)
      (λ x. let h = once.serials x in let k : tally seen_serial x (added (edit_change e))
      ≡ tally seen_serial x (seen_nodes (edit_nodes e)) = ap (tally seen_serial x) (sym is_added) in omega arith)
      (ap (tally seen_id 0) (sym is_added) ∙ shows.above) low in
      rw (known-spot id v s is) kept

  pub mirror_of_edit : spot_fault v (edit_told id e) (spot seen_id id 0 v) ≡ None → IsMirror (with_changed id (edit_change e) v)
  mirror_of_edit clear = mirror_at (spot seen_id id 0 v) refl clear

  -- the ids that come are low
  pub low_added : HasLowIds (added (edit_change e))
  low_added x far =
      let shows = shows_nodes (edit_nodes e) (and_left (fits_nodes (edit_nodes e)) (has_named_attribute (edit_change e)) fits) in
      ap (tally seen_id x) (sym (edit_added e)) ∙ shows.low x far

  low_at : (o : Option (Spot Seen)) → spot seen_id id 0 v ≡ o → spot_fault v (edit_told id e) o ≡ None → HasLowIds v
      → HasLowIds (with_changed id (edit_change e) v)
  low_at None is clear low = absurd cc
  low_at (Some s) is clear low =
      let fine = clear_change v (edit_told id e) s clear in
      let p = put-spot seen_id id (changed (edit_change e) s.branch) 0 v s is in
      let owes = changed-owes s.branch (sound-at p.2 mirror) (edit_change e) fine.suits (fine_edit e fits) in
      let kept : HasLowIds (put seen_id id (changed (edit_change e) s.branch) v) =
      λ x far.
      let h = tally_kept seen_id x (added (edit_change e)) p.2 (owes.ids x) in
      let k = low x far in
      let l = low_added x far in
      omega arith
      in
      rw (known-spot id v s is) kept

  -- its ids stay low
  pub low_of_edit : spot_fault v (edit_told id e) (spot seen_id id 0 v) ≡ None → HasLowIds v → HasLowIds (with_changed id (edit_change e) v)
  low_of_edit clear low = low_at (spot seen_id id 0 v) refl clear low

  once_at : (o : Option (Spot Seen)) → spot_fault v (edit_told id e) o ≡ None → Once v (edit_nodes e)
  once_at None clear = absurd cc
  once_at (Some s) clear = once_new v (edit_nodes e) mirror.view (clear_change v (edit_told id e) s clear).new

  -- the nodes that come are others than those of the tree
  pub once_of_edit : spot_fault v (edit_told id e) (spot seen_id id 0 v) ≡ None → Once v (edit_nodes e)
  once_of_edit clear = once_at (spot seen_id id 0 v) clear

  -- and the node is there, and may be changed
  ready_at : (o : Option (Spot Seen)) → spot seen_id id 0 v ≡ o → spot_fault v (edit_told id e) o ≡ None
      → is_ready id (edit_change e) v ≡ true
  ready_at None is clear = absurd cc
  ready_at (Some s) is clear =
      let fine = clear_change v (edit_told id e) s clear in
      let p = put-spot seen_id id (changed (edit_change e) s.branch) 0 v s is in
      let sound = sound-at p.2 mirror in
      let found : find seen_id id v ≡ Some s.branch = find-spot seen_id id 0 v ∙ ap (option_map spot_branch) is in
      rw found (both fine.suits (formed s.branch sound))

  pub edit_ready : spot_fault v (edit_told id e) (spot seen_id id 0 v) ≡ None → is_ready id (edit_change e) v ≡ true
  edit_ready clear = ready_at (spot seen_id id 0 v) refl clear
