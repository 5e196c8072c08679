-- One node of a page is changed, and what becomes of it in the view.
use Rattle.std.proofs.Common.{◌≡◌, ℕ, ◌<◌, ◌≤◌, ◌==◌, Bool, true, false, cond, not, ◌||◌, List, [], ◌∷◌, Option, Some, None, refl, sym, ap}
use Rattle.std.proofs.Common.{subst, ◌∙◌, ◌⊎◌, inl, inr, arith}
use Rattle.std.proofs.lemmas.Bool.{eq-eqb, and_from}
use Rattle.std.specs.Ordering.{nat_cmp, match_ordering}
use Rattle.std.specs.Cmp.Lexicographic.{slice_cmp}
use Rattle.std.specs.Prelude.{bytes_eq}
use Rattle.node_tree.specs.Nodes.{Nodes, none, Branch, width, height}
use Rattle.node_tree.specs.Levels.{most_told}
use Rattle.node_tree.specs.Keys.{tally, tally_in, At}
use Rattle.node_tree.specs.Labels.{Pair, Label, holds}
use Rattle.node_tree.specs.Seen.{Seen, leaf, counted, opened, is_opened, seen_id}
use Rattle.page_tree.specs.Pages.{PageRow, row_serial}
use Rattle.page_tree.specs.Loads as loads
use Rattle.page_tree.specs.Edits as edits
use Rattle.page_tree.specs.Edits.{put_before, taken_out, relabelled, with_child, without_child, changed_at, after, after_tree, children_at}
use Rattle.node_binding.specs.Counts.{times, stands_in}
use Rattle.node_binding.specs.Cuts.{opens, known, cut}
use Rattle.node_binding.specs.Ids.{id_of}
use Rattle.node_binding.specs.Sessions.{knows, view}
use Rattle.node_binding.proofs.Places.{is_in-times}
use Rattle.node_binding.proofs.OpeningLemmas.{AreDistinct}
use Rattle.node_binding.proofs.ChangedLemmas.{IsAlike}
use Rattle.node_tree.specs.LabelChanges as label
use Rattle.client_views.specs.Moves.{Change, inserts, removes, counts, sets, drops, says, changed, suits_change, has_named_attribute}
use Rattle.client_views.specs.Moves.{put_after, without_tree, has_tree, nodes_told, ChangesNode}
use Rattle.dom_agent.specs.Requests.{shown}
use Rattle.dom_agent.specs.Edits.{id_before, unopened}
use Rattle.dom_agent.proofs.ShownLemmas.{is_root, SeenAt, seen-at, prior_is, insert_shown, root_seen, drop_shown}

-- a change whose parts a message can tell
abbrev pub CanName : Change → Type 0
CanName c = (has_named_attribute c ≡ true) × (height (nodes_told c) ≤ most_told)

-- a change of a node that is known, or nothing
pub record Tells (id : ℕ) (known_now : Bool) (c : Change) (v u : Nodes Seen) : Type 0 where
  pub seen : known_now ≡ true → ChangesNode id c v u
  pub unseen : known_now ≡ false → v ≡ u

module _ (o : ℕ → Bool) (i : ℕ → ℕ) {old new : Branch PageRow} (alike : IsAlike old new) {depth : ℕ} {n m : Nodes PageRow}
    (at : At old new depth n m) (c : Change) where
  abbrev pub before_after : SeenAt o i old new n m
  before_after = seen-at o i alike at

  pub changes : CanName c → suits_change c (shown o i old) ≡ true → shown o i new ≡ changed c (shown o i old)
      → (seen-at o i alike at).in_view ≡ true → ChangesNode (i old.row.serial) c (cut o i n) (cut o i m)
  changes named suits same e =
      let d = before_after.shows e in
      record {
        old = shown o i old;
        depth = d.0;
        is = refl;
        suits = suits;
        named = named.0;
        low = named.1;
        at = subst (λ (b : Branch Seen). At (shown o i old) b d.0 (cut o i n) (cut o i m)) same d.1;
      }

  pub tells : AreDistinct n → CanName c → suits_change c (shown o i old) ≡ true
      → shown o i new ≡ changed c (shown o i old)
      → Tells (i old.row.serial) (stands_in old.row.serial (known o n)) c (cut o i n) (cut o i m)
  tells distinct named suits same =
      let s = old.row.serial in
      let seen_times : times s (known o n) ≡ cond {A = ℕ} before_after.in_view 1 0 = before_after.known (distinct s) in
      record {
        seen = λ e. changes named suits same (there (before_after.in_view) (times s (known o n)) seen_times (is_in-times (known o n) s e));
        unseen = λ e. before_after.hides (nowhere before_after.in_view (times s (known o n)) seen_times e);
      }
    where
      there : (v : Bool) (k : ℕ) → k ≡ cond {A = ℕ} v 1 0 → 0 < k → v ≡ true
      there true k e h = refl
      there false k e h = absurd (omega arith)

      nowhere : (v : Bool) (k : ℕ) → k ≡ cond {A = ℕ} v 1 0 → not (k == 0) ≡ false → v ≡ false
      nowhere true k e h = let bad : true ≡ false = sym (ap (λ j. not (j == 0)) e) ∙ h in cc
      nowhere false k e h = refl

-- ---- labels

pub placed-same : (p : Pair) (qs : List Pair) → loads.placed p qs ≡ label.placed p qs
placed-same p [] = refl
placed-same p (q ∷ qs) = ap (λ l. match_ordering (slice_cmp nat_cmp p.0 q.0) (p ∷ q ∷ qs) ((q.0, p.1) ∷ qs) (q ∷ l)) (placed-same p qs)

pub without-same : (name : List ℕ) (qs : List Pair) → edits.pairs_without name qs ≡ label.pairs_without name qs
without-same name [] = refl
without-same name (q ∷ qs) = ap (λ l. cond (bytes_eq q.0 name) qs (q ∷ l)) (without-same name qs)

-- another label of the same kind, as it is seen
module _ (o : ℕ → Bool) (i : ℕ → ℕ) (b : Branch PageRow) where
  abbrev relabelled_as : Label → Branch Seen
  relabelled_as l = shown o i (record { row = record { serial = b.row.serial; label = l }; children = b.children })

  pub shown-sets : (name value : List ℕ)
      → shown o i (relabelled (edits.with_attribute name value) b) ≡ changed (sets name value) (shown o i b)
  shown-sets name value = ap (λ (a : List Pair). relabelled_as (record b.row.label { attributes = a }))
      (placed-same (name, value) b.row.label.attributes)

  pub shown-drops : (name : List ℕ) → shown o i (relabelled (edits.without_attribute name) b) ≡ changed (drops name) (shown o i b)
  shown-drops name = ap (λ (a : List Pair). relabelled_as (record b.row.label { attributes = a }))
      (without-same name b.row.label.attributes)

  pub shown-says : (value : List ℕ) → shown o i (relabelled (edits.with_value value) b) ≡ changed (says value) (shown o i b)
  shown-says value = refl

  -- the node by its kind, whether it is opened, and its children
  abbrev shown_as : Bool → Bool → ℕ → Nodes Seen → Branch Seen
  shown_as h a w kids = record {
    row = record {
      id = i b.row.serial;
      serial = b.row.serial;
      label = b.row.label;
      hold = cond h (cond a opened (counted w)) leaf;
    };
    children = cond (cond h a false) kids none;
  }

  -- a container that is not opened, with another number of children
  pub shown-counts : (c : Nodes PageRow) → holds b.row.label.kind ≡ true → o b.row.serial ≡ false
      → shown o i (record { row = b.row; children = c }) ≡ changed (counts (width c)) (shown o i b)
  shown-counts c container shut = by (holds b.row.label.kind) (o b.row.serial) container shut
    where
      by : (h a : Bool) → h ≡ true → a ≡ false
          → shown_as h a (width c) (cut o i c) ≡ changed (counts (width c)) (shown_as h a (width b.children) (cut o i b.children))
      by true true e f = let bad : true ≡ false = f in cc
      by true false e f = refl
      by false a e f = let bad : false ≡ true = e in cc

  pub suits-counts : (k : ℕ) → holds b.row.label.kind ≡ true → o b.row.serial ≡ false → suits_change (counts k) (shown o i b) ≡ true
  suits-counts k container shut = rw (container, shut) refl

-- ---- a page where one node has another label, or another number of children that are not shown

pub tells_by : (n m : Nodes PageRow) (opened_now : Option (ℕ → Bool)) (pushed : List ℕ) (since : ℕ) {old new : Branch PageRow} {depth : ℕ}
    (c : Change) → AreDistinct n → CanName c → IsAlike old new → At old new depth n m
    → ((o : ℕ → Bool) → opened_now ≡ Some o
    → (suits_change c (shown o (id_of pushed since) old) ≡ true)
    × (shown o (id_of pushed since) new ≡ changed c (shown o (id_of pushed since) old)))
    → Tells (id_of pushed since old.row.serial) (knows (record { opened = opened_now; pushed = pushed; since = since }) n old.row.serial) c
    (view (record { opened = opened_now; pushed = pushed; since = since }) n)
    (view (record { opened = opened_now; pushed = pushed; since = since }) m)
tells_by n m None pushed since c distinct named alike at fits = record { seen = λ e. let bad : false ≡ true = e in cc; unseen = λ e. refl }
tells_by n m (Some o) pushed since c distinct named alike at fits = let f = fits o refl in tells o
    (id_of pushed since) alike at c distinct named f.0 f.1

-- ---- a child put in below an opened node

-- an opened container with other children
module _ (o : ℕ → Bool) (i : ℕ → ℕ) (b : Branch PageRow) (open_now : opens o b.row ≡ true) where
  pub shown_children_of : (shown o i b).children ≡ cut o i b.children
  shown_children_of = ap (λ g. cond g (cut o i b.children) none) open_now

  pub shown_open : is_opened (shown o i b).row.hold ≡ true
  shown_open = by (holds b.row.label.kind) (o b.row.serial) open_now
    where
      by : (h a : Bool) → cond h a false ≡ true → is_opened (cond h (cond a opened (counted (width b.children))) leaf) ≡ true
      by true true e = refl
      by true false e = e
      by false a e = e

  pub shown-kids : (c : Nodes PageRow)
      → shown o i (record { row = b.row; children = c }) ≡ record { row = (shown o i b).row; children = cut o i c }
  shown-kids c = by (holds b.row.label.kind) (o b.row.serial) open_now
    where
      by : (h a : Bool) → cond h a false ≡ true
          → ◌≡◌ {A = Branch Seen} (record {
            row = record {
              id = i b.row.serial;
              serial = b.row.serial;
              label = b.row.label;
              hold = cond h (cond a opened (counted (width c))) leaf;
            };
            children = cond (cond h a false) (cut o i c) none;
          })
          (record {
            row = record {
              id = i b.row.serial;
              serial = b.row.serial;
              label = b.row.label;
              hold = cond h (cond a opened (counted (width b.children))) leaf;
            };
            children = cut o i c;
          })
      by true true e = refl
      by true false e = let bad : false ≡ true = e in cc
      by false a e = let bad : false ≡ true = e in cc

  -- its children are among those that are seen
  module _ (v : Nodes Seen) (few : (key : Seen → ℕ) (y : ℕ) → tally_in key y (shown o i b) ≤ tally key y v) where
    pub kids_tally : (key : Seen → ℕ) (y : ℕ) → tally key y (cut o i b.children) ≤ tally key y v
    kids_tally key y = omega (arith, few key y, ap (tally key y) shown_children_of)

  module _ (before : ℕ) (x : Branch PageRow) (apart : tally row_serial x.row.serial b.children ≡ 0) (shut : o x.row.serial ≡ false)
      (once : (y : ℕ) → tally seen_id y (cut o i b.children) ≤ 1) (above : tally seen_id 0 (cut o i b.children) ≡ 0) where
    abbrev pub inserting : Change
    inserting = inserts (id_before i 0 x.row.serial (put_before before x b.children)) (unopened (i x.row.serial) x)

    pub shown-inserts : shown o i (with_child before x b) ≡ changed inserting (shown o i b)
    shown-inserts =
        shown-kids (put_before before x b.children)
        ∙ ap (λ (c : Nodes Seen). record { row = (shown o i b).row; children = c })
        (sym (insert_shown o i before x shut b.children apart once above) ∙ ap
        (put_after (id_before i 0 x.row.serial (put_before before x b.children)) (unopened (i x.row.serial) x)) (sym shown_children_of))

    not_opened : (h : Bool) (k : ℕ) → not (is_opened (cond h (counted k) leaf)) ≡ true
    not_opened true k = refl
    not_opened false k = refl

    a_place : (q : ℕ) (v : Nodes Seen) → (q ≡ 0) ⊎ (has_tree q v ≡ true) → (q == 0 || has_tree q v) ≡ true
    a_place q v (inl e) = ap (λ b. b || has_tree q v) (eq-eqb q 0 e)
    a_place q v (inr e) = or_second (q == 0) (has_tree q v) e
      where
        or_second : (a b : Bool) → b ≡ true → (a || b) ≡ true
        or_second true b e = refl
        or_second false b e = e

    pub suits-inserts : suits_change inserting (shown o i b) ≡ true
    suits-inserts =
        let q = id_before i 0 x.row.serial (put_before before x b.children) in
        and_from _ _
        (and_from _ _ shown_open (a_place q (shown o i b).children
        (subst (λ (v : Nodes Seen). (q ≡ 0) ⊎ (has_tree q v ≡ true)) (sym shown_children_of)
        (prior_is o i before x 0 b.children apart))))
        (not_opened (holds x.row.label.kind) (width x.children))

  module _ (serial : ℕ) (there : is_root serial b.children ≡ true) (once : (y : ℕ) → tally seen_id y (cut o i b.children) ≤ 1) where
    pub shown-removes : shown o i (without_child serial b) ≡ changed (removes (i serial)) (shown o i b)
    shown-removes =
        shown-kids (taken_out serial b.children)
        ∙ ap (λ (c : Nodes Seen). record { row = (shown o i b).row; children = c })
        (sym (drop_shown o i serial b.children there once) ∙ ap (without_tree (i serial)) (sym shown_children_of))

    pub suits-removes : suits_change (removes (i serial)) (shown o i b) ≡ true
    suits-removes = and_from _ _ shown_open (ap (has_tree (i serial)) shown_children_of ∙ root_seen o i serial b.children there)
