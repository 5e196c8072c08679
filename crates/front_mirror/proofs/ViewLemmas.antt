-- A document that comes, and the view that it shows.
use Rattle.std.proofs.Common.{◌≡◌, ◌≢◌, ℕ, ◌+◌, ◌≤◌, ◌==◌, nat_eq, nat_lt, nat_le, Bool, true, false, not, cond, ◌&&◌, ◌||◌, List, [], ◌∷◌}
use Rattle.std.proofs.Common.{◌++◌, None, refl, sym, ap, ◌∙◌, inl, inr, arith}
use Rattle.std.proofs.lemmas.Bool.{cases_eq, ne_eqb}
use Rattle.node_tree.specs.Nodes.{Nodes, none, node, Branch, alone, height, width, is_no_node}
use Rattle.node_tree.specs.Keys.{tally, first_true}
use Rattle.node_tree.specs.Labels.{is_document, is_formed_label, is_named_label}
use Rattle.node_tree.specs.Seen.{Seen, is_opened, seen_id, seen_serial}
use Rattle.dom_objects.specs.Told.{Told, seen_nodes, told_nodes, told_branch}
use Rattle.cdp_json.specs.Kinds.{is_counted}
use Rattle.node_tree.specs.Numbers.{counted_limit}
use Rattle.dom_objects.specs.NodeObject.{fits_row, fits_place, is_counted_row, same, fits_hold}
use Rattle.dom_objects.specs.NodeData.{fits_below, fits_nodes, fits_tree}
use Rattle.front_mirror.specs.Shown.{told_id, told_serial}
use Rattle.client_views.specs.Views.{IsView, IsMirror, is_bare, has_formed_labels, keys, is_in, is_distinct}
use Rattle.node_tree.specs.Levels.{most_levels}
use Rattle.front_mirror.specs.Front.{is_kin, is_unique, root_fault}
use Rattle.dom_objects.proofs.NodeTrees.{fitting_parts, tree_parts}
use Rattle.front_mirror.specs.Sizes.{HasLowIds}
use Rattle.front_mirror.proofs.DistinctLemmas.{absent_and}
use Rattle.front_mirror.proofs.ToldLemmas.{height-seen, keys-seen}
use Rattle.client_views.proofs.ToldChanges.{height-told}
use Rattle.client_views.proofs.BoolLemmas.{and_left, and_right}

-- ---- how often a key comes

pub times : ℕ → List ℕ → ℕ
times x [] = 0
times x (y ∷ ys) = cond {A = ℕ} (y == x) 1 0 + times x ys

pub times-append : (x : ℕ) (xs ys : List ℕ) → times x (xs ++ ys) ≡ times x xs + times x ys
unfolding times
times-append x [] ys = omega arith
times-append x (y ∷ xs) ys = let h = times-append x xs ys in omega arith

pub tally-keys : {R : Type 0} (key : R → ℕ) (x : ℕ) (n : Nodes R) → tally key x n ≡ times x (keys key n)
unfolding times
tally-keys key x none = refl
tally-keys key x (node r c t) =
    let a = tally-keys key x c in let b = tally-keys key x t in let d = times-append x (keys key c) (keys key t) in omega arith

pub times_absent : (x : ℕ) (xs : List ℕ) → is_in x xs ≡ false → times x xs ≡ 0
unfolding times
times_absent x [] absent = refl
times_absent x (y ∷ xs) absent =
    elim (cases_eq x y) [
      | inl equal ↦ grind arith
      | inr other ↦
          let h : (nat_eq x y || is_in x xs) ≡ false = absent in
          let h2 : is_in x xs ≡ false = rw (ne_eqb x y other) at h in
          let other2 : y ≢ x = λ e. other (sym e) in
          let h3 = times_absent x xs h2 in
          rw (ne_eqb y x other2) (omega arith)
    ]

pub absent_times : (x : ℕ) (xs : List ℕ) → times x xs ≡ 0 → is_in x xs ≡ false
unfolding times
absent_times x [] none_of = refl
absent_times x (y ∷ xs) none_of =
    elim (cases_eq y x) [
      | inl equal ↦ grind arith
      | inr other ↦
          let h : times x xs ≡ 0 = omega arith in
          rw (ne_eqb x y (λ e. other (sym e))) (absent_times x xs h)
    ]

pub distinct_times : (x : ℕ) (xs : List ℕ) → is_distinct xs ≡ true → times x xs ≤ 1
unfolding times
distinct_times x [] distinct = omega arith
distinct_times x (y ∷ xs) distinct =
    let p = absent_and (is_in y xs) (is_distinct xs) distinct in
    elim (cases_eq y x) [
      | inl equal ↦
          let h : times x xs ≡ 0 = rw (← equal) (times_absent y xs p.0) in
          let h2 : cond {A = ℕ} (y == x) 1 0 ≤ 1 = grind arith in
          omega arith
      | inr other ↦ let h = distinct_times x xs p.1 in rw (ne_eqb y x other) (omega arith)
    ]

pub times_distinct : (xs : List ℕ) → ((x : ℕ) → times x xs ≤ 1) → is_distinct xs ≡ true
unfolding times
times_distinct [] at_most = refl
times_distinct (y ∷ xs) at_most =
    let here : times y (y ∷ xs) ≤ 1 = at_most y in
    let one : cond {A = ℕ} (y == y) 1 0 ≡ 1 = grind arith in
    let h : times y xs ≡ 0 = omega arith in
    let rest : (x : ℕ) → times x xs ≤ 1 = λ x. let e = at_most x in omega arith in
    rw (absent_times y xs h) (times_distinct xs rest)

-- a key that comes at most once in a list of keys stands at most once in the trees
pub tally_distinct : (key : Seen → ℕ) (n : Nodes Told) → is_distinct (keys (λ r. key r.seen) n) ≡ true → (x : ℕ)
    → tally key x (seen_nodes n) ≤ 1
tally_distinct key n distinct x = rw (tally-keys key x (seen_nodes n), keys-seen key n) (distinct_times x _ distinct)

-- ---- what each row of a message says

pub not_true : (a : Bool) → not a ≡ false → a ≡ true
not_true true e = refl
not_true false e = cc

same_is : (a top : Bool) → same a top ≡ true → a ≡ top
same_is true true e = refl
same_is true false e = cc
same_is false true e = cc
same_is false false e = refl

record Placed (top : Bool) (r : Told) : Type 0 where
  counted : nat_lt r.seen.id counted_limit ≡ true
  id : nat_lt 0 r.seen.id ≡ true
  formed : is_formed_label r.seen.label ≡ true
  named : is_named_label r.seen.label ≡ true
  document : is_document r.seen.label.kind ≡ top

placed_row : (top : Bool) (width_below : ℕ) (r : Told) → fits_row top width_below r ≡ true → Placed top r
placed_row top w r fits =
    let place = and_right (is_counted_row r) (fits_place top w r) fits in
    let a = and_left _ (fits_hold r.seen.hold _ r.count w) place in
    let b = and_left _ (same (r.parent == 0) top) a in
    let d = and_right _ (same (is_document r.seen.label.kind) top) b in
    let e = and_left _ (same (is_document r.seen.label.kind) top) b in
    let f = and_left _ (is_named_label r.seen.label) e in
    let g = and_left _ (is_formed_label r.seen.label) f in
    let counts = and_left (is_counted_row r) (fits_place top w r) fits in
    let two = and_left (is_counted r.seen.id && is_counted r.seen.serial) (is_counted r.count)
    (and_left _ (is_counted r.parent) counts) in
    record {
      counted = and_left (is_counted r.seen.id) (is_counted r.seen.serial) two;
      id = and_left (nat_lt 0 r.seen.id) (nat_lt 0 r.seen.serial) g;
      formed = and_right (nat_lt 0 r.seen.id && nat_lt 0 r.seen.serial) (is_formed_label r.seen.label) f;
      named = and_right (nat_lt 0 r.seen.id && nat_lt 0 r.seen.serial && is_formed_label r.seen.label) (is_named_label r.seen.label) e;
      document = same_is _ _ d;
    }

below_or : (b : Bool) (c : Nodes Told) → cond b true (is_no_node c) ≡ true → (b || is_no_node (seen_nodes c)) ≡ true
below_or true c e = refl
below_or false none e = refl
below_or false (node r c t) e = cc

above_here : (r : Told) (n : ℕ) → nat_lt 0 r.seen.id ≡ true → n ≡ 0 → cond {A = ℕ} (r.seen.id == 0) 1 0 + n ≡ 0
above_here r n positive e = grind arith

low_here : (r : Told) (n x : ℕ) → nat_lt r.seen.id counted_limit ≡ true → counted_limit ≤ x → n ≡ 0
    → cond {A = ℕ} (r.seen.id == x) 1 0 + n ≡ 0
low_here r n x low far e = grind arith

-- what the rows of a message show together
pub record Shows (n : Nodes Told) : Type 0 where
  pub above : tally seen_id 0 (seen_nodes n) ≡ 0
  pub bare : is_bare (seen_nodes n) ≡ true
  pub labels : has_formed_labels (seen_nodes n) ≡ true
  pub low : HasLowIds (seen_nodes n)

shows_more : (top : Bool) (w : ℕ) (r : Told) (c t : Nodes Told) → fits_row top w r ≡ true → fits_below r c ≡ true → Shows c → Shows t
    → Shows (node r c t)
shows_more top w r c t fits below sc st =
    let p = placed_row top w r fits in
    record {
      above = let e : tally seen_id 0 (seen_nodes c) + tally seen_id 0 (seen_nodes t)
          ≡ 0 = let a = sc.above in let b = st.above in omega arith in
          let h = above_here r (tally seen_id 0 (seen_nodes c) + tally seen_id 0 (seen_nodes t)) p.id e in omega arith;
      bare = rw (below_or (is_opened r.seen.hold) c below, sc.bare, st.bare) refl;
      labels = rw (p.formed, p.named, sc.labels, st.labels) refl;
      low = λ x far.
          let e : tally seen_id x (seen_nodes c) + tally seen_id x (seen_nodes t) ≡ 0 =
          let a = sc.low x far in let b = st.low x far in omega arith
          in
          let h = low_here r (tally seen_id x (seen_nodes c) + tally seen_id x (seen_nodes t)) x p.counted far e in omega arith;
    }

shows_none : Shows none
shows_none = record { above = refl; bare = refl; labels = refl; low = λ x far. refl }

pub shows_nodes : (n : Nodes Told) → fits_nodes n ≡ true → Shows n
shows_nodes none fits = shows_none
shows_nodes (node r c t) fits =
    let p = fitting_parts r c t fits in shows_more false (width c) r c t p.row p.below (shows_nodes c p.children) (shows_nodes t p.later)

-- ---- a document that nothing is wrong with

record Clear (b : Branch Told) : Type 0 where
  kin : is_kin b.row.seen.id b.children ≡ true
  unique : is_unique (alone b) ≡ true
  levels : nat_le (height (alone b)) most_levels ≡ true

pub clear_three : {A : Type 0} (x y z : A) (p q r : Bool) → first_true ((x, not p) ∷ (y, not q) ∷ (z, not r) ∷ []) ≡ None
    → (p ≡ true) × ((q ≡ true) × (r ≡ true))
clear_three x y z true true true e = (refl, (refl, refl))
clear_three x y z true true false e = cc
clear_three x y z true false r e = cc
clear_three x y z false q r e = cc

clear_root : (b : Branch Told) → root_fault b ≡ None → Clear b
clear_root b e = let p = clear_three _ _ _ (is_kin b.row.seen.id b.children) (is_unique (alone b))
    (nat_le (height (alone b)) most_levels) e in
    record { kin = p.0; unique = p.1.0; levels = p.1.1 }

pub within_limit : (h limit : ℕ) → nat_le h limit ≡ true → h ≤ limit
within_limit h limit e = grind arith

-- a document that comes
shows_root : (b : Branch Told) → fits_tree true b ≡ true → Shows (alone b)
shows_root b fits =
    let parts = tree_parts true b fits in
    shows_more true (width b.children) b.row b.children none parts.row parts.below (shows_nodes b.children parts.children) shows_none

pub low_of_root : (b : Branch Told) → fits_tree true b ≡ true → HasLowIds (seen_nodes (alone b))
low_of_root b fits = (shows_root b fits).low

-- the mirror that a document becomes
pub mirror_of_root : (b : Branch Told) → root_fault b ≡ None → fits_tree true b ≡ true → IsMirror (seen_nodes (alone b))
mirror_of_root b e fits =
    let clear = clear_root b e in
    let parts = tree_parts true b fits in
    let shows = shows_root b fits in
    let place = placed_row true (width b.children) b.row parts.row in
    record {
      view = record {
        ids = tally_distinct seen_id (alone b) (and_left _ (is_distinct (keys told_serial (alone b))) clear.unique);
        serials = tally_distinct seen_serial (alone b) (and_right (is_distinct (keys told_id (alone b))) _ clear.unique);
        above = shows.above;
        levels = rw (height-seen (alone b)) (within_limit _ _ clear.levels);
        bare = shows.bare;
      };
      labels = shows.labels;
      document = rw (place.document) refl;
    }

-- ---- a view, told as a document

pub is_kin-told : (p : ℕ) (n : Nodes Seen) → is_kin p (told_nodes p n) ≡ true
is_kin-told p none = refl
is_kin-told p (node r c t) = let e : (p == p) ≡ true = grind arith in rw (e, is_kin-told r.id c, is_kin-told p t) refl

pub keys-told : (key : Seen → ℕ) (p : ℕ) (n : Nodes Seen) → keys (λ r. key r.seen) (told_nodes p n) ≡ keys key n
keys-told key p none = refl
keys-told key p (node r c t) = rw (keys-told key r.id c, keys-told key p t) refl

pub subst_times : (key : Seen → ℕ) (n : Nodes Seen) (x : ℕ) → tally key x n ≤ 1 → times x (keys key n) ≤ 1
subst_times key n x h = let e = tally-keys key x n in omega arith

pub unique_told : (p : ℕ) (n : Nodes Seen) → IsView n → is_unique (told_nodes p n) ≡ true
unique_told p n view =
    let ids : is_distinct (keys told_id (told_nodes p n)) ≡ true
    = ap is_distinct (keys-told seen_id p n) ∙ times_distinct (keys seen_id n) (λ x. subst_times seen_id n x (view.ids x)) in
    let serials : is_distinct (keys told_serial (told_nodes p n)) ≡ true
    = ap is_distinct (keys-told seen_serial p n) ∙ times_distinct (keys seen_serial n)
    (λ x. subst_times seen_serial n x (view.serials x)) in
    rw (ids, serials) refl

-- nothing is wrong with a view that is told as a document
pub root_fault-told : (b : Branch Seen) → IsView (alone b) → root_fault (told_branch 0 b) ≡ None
root_fault-told b view =
    let kin = is_kin-told b.row.id b.children in
    let unique = unique_told 0 (alone b) view in
    let levels : nat_le (height (told_nodes 0 (alone b))) most_levels
    ≡ true = rw (height-told 0 (alone b)) (let h = view.levels in grind arith) in
    rw (kin, unique, levels) refl
