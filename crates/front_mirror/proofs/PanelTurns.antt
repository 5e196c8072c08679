-- What a panel is told of a change of one node leads from the tree before to the tree after.
use Rattle.std.proofs.Common.{◌≡◌, ℕ, suc, ◌==◌, ◌||◌, ◌&&◌, Bool, true, false, not, cond, Some}
use Rattle.std.proofs.Common.{refl, sym, ap}
use Rattle.std.specs.Option.{option_map_or}
use Rattle.std.proofs.lemmas.Bool.{eqb-true}
use Rattle.node_tree.specs.Nodes.{Nodes, none, node, Branch, branch_count, tree_at}
use Rattle.node_tree.specs.Labels.{Label}
use Rattle.node_tree.specs.LabelChanges.{with_attribute, without_attribute, with_value}
use Rattle.node_tree.specs.Keys.{At, find, put}
use Rattle.node_tree.specs.Seen.{Seen, Hold, leaf, counted, opened, shows_count, is_opened, seen_id}
use Rattle.node_tree.proofs.KeyLemmas.{at-put, found_key}
use Rattle.front_mirror.specs.Panels.{without_place}
use Rattle.front_mirror.specs.Panels.{TreeTurns, NodeTurns, Differs, hold_form}
use Rattle.client_views.specs.Moves.{Change, shows, inserts, removes, counts, sets, drops, says, changed, suits_change, put_behind}
use Rattle.client_views.specs.Moves.{put_after}
use Rattle.client_views.specs.Moves.{without_tree, has_tree, labelled_by}
use Rattle.front_mirror.specs.PanelTold.{tree_place, panel_change}

and_true : (a b : Bool) → (a && b) ≡ true → (a ≡ true) × (b ≡ true)
and_true true true e = (refl, refl)
and_true true false e = absurd cc
and_true false b e = absurd cc

-- ---- a tree put among others

-- where a tree stands among others
pub record StandsAmong (w : Branch Seen) (n m : Nodes Seen) : Type 0 where
  pub place : ℕ
  pub there : tree_at place m ≡ Some w
  pub others : without_place place m ≡ n

first_among : (w : Branch Seen) (n : Nodes Seen) → StandsAmong w n (node w.row w.children n)
first_among w n = record { place = 0; there = refl; others = refl }

later_among : (w : Branch Seen) (r : Seen) (c n m : Nodes Seen) → StandsAmong w n m → StandsAmong w (node r c n) (node r c m)
later_among w r c n m s = record { place = suc s.place; there = s.there; others = ap (node r c) s.others }

behind_among : (id : ℕ) (w : Branch Seen) (n : Nodes Seen) → has_tree id n ≡ true → StandsAmong w n (put_behind id w n)
behind_among id w none e = absurd cc
behind_among id w (node r c t) e = at (r.id == id) e (behind_among id w t) where
  at : (b : Bool) → (b || has_tree id t) ≡ true → (has_tree id t ≡ true → StandsAmong w t (put_behind id w t))
      → StandsAmong w (node r c t) (cond b (node r c (node w.row w.children t)) (node r c (put_behind id w t)))
  at true f later = later_among w r c t (node w.row w.children t) (first_among w t)
  at false f later = later_among w r c t (put_behind id w t) (later f)

pub after_among : (previous : ℕ) (w : Branch Seen) (n : Nodes Seen) → (previous == 0 || has_tree previous n) ≡ true
    → StandsAmong w n (put_after previous w n)
after_among previous w n e = at (previous == 0) e where
  at : (b : Bool) → (b || has_tree previous n) ≡ true → StandsAmong w n (cond b (node w.row w.children n) (put_behind previous w n))
  at true f = first_among w n
  at false f = behind_among previous w n f

-- ---- a tree taken out

-- the tree that goes
pub record Goes (id : ℕ) (n : Nodes Seen) : Type 0 where
  pub tree : Branch Seen
  pub named : tree.row.id ≡ id
  pub there : tree_at (tree_place id n) n ≡ Some tree
  pub others : without_place (tree_place id n) n ≡ without_tree id n

pub goes : (id : ℕ) (n : Nodes Seen) → has_tree id n ≡ true → Goes id n
goes id none e = absurd cc
goes id (node r c t) e = let g = at (r.id == id) refl e (goes id t) in record { tree = g.0; named = g.1; there = g.2; others = g.3 }
  where
    at : (b : Bool) → (r.id == id) ≡ b → (b || has_tree id t) ≡ true → (has_tree id t ≡ true → Goes id t)
        → (w : Branch Seen) × (w.row.id ≡ id) × (tree_at (cond {A = ℕ} b 0 (suc (tree_place id t))) (node r c t) ≡ Some w)
        × (without_place (cond {A = ℕ} b 0 (suc (tree_place id t))) (node r c t) ≡ cond b t (node r c (without_tree id t)))
    at true is f later = (record { row = r; children = c }, eqb-true r.id id is, refl, refl)
    at false is f later = let g = later f in (g.tree, g.named, g.there, ap (node r c) g.others)

-- ---- what holds of a node that changes

shut_form : (h : Hold) (n : ℕ) → shows_count h ≡ true → hold_form (counted n) ≡ hold_form h
shut_form leaf n e = absurd cc
shut_form (counted k) n e = refl
shut_form opened n e = absurd cc

not_true : (b : Bool) → not b ≡ true → b ≡ false
not_true true e = absurd cc
not_true false e = refl

abbrev TurnsBy : ℕ → Change → Branch Seen → Nodes Seen → Nodes Seen → Type 0
TurnsBy id c b n m = TreeTurns n (panel_change id c b) m

module _ (id : ℕ) (n m : Nodes Seen) (b : Branch Seen) (depth : ℕ) (named : b.row.id ≡ id) where
  relabelled : (f : Label → Label) → (f b.row.label).kind ≡ b.row.label.kind → (f b.row.label).name ≡ b.row.label.name
      → At b (labelled_by f b) depth n m → NodeTurns Differs id n m
  relabelled f kind name e = record {
    old = b;
    new = labelled_by f b;
    depth = depth;
    named = named;
    at = e;
    turns = record { id = refl; serial = refl; kind = kind; name = name; hold = refl; children = refl };
  }

  pub turns_by : (c : Change) → suits_change c b ≡ true → At b (changed c b) depth n m → TurnsBy id c b n m
  turns_by (shows kids) suits e = record {
    old = b;
    new = changed (shows kids) b;
    depth = depth;
    named = named;
    at = e;
    turns = record { shut = suits; row = refl };
  }
  turns_by (inserts previous w) suits e =
      let s = and_true (is_opened b.row.hold && (previous == 0 || has_tree previous b.children)) (not (is_opened w.row.hold)) suits in
      let t = and_true (is_opened b.row.hold) (previous == 0 || has_tree previous b.children) s.0 in
      let among = after_among previous w b.children t.1 in
      record {
        old = b;
        new = changed (inserts previous w) b;
        depth = depth;
        named = named;
        at = e;
        turns = record {
          row = refl;
          place = among.place;
          gained = w;
          named = refl;
          unopened = not_true (is_opened w.row.hold) s.1;
          there = among.there;
          others = among.others;
        };
      }
  turns_by (removes child) suits e =
      let t = and_true (is_opened b.row.hold) (has_tree child b.children) suits in
      let g = goes child b.children t.1 in
      record {
        old = b;
        new = changed (removes child) b;
        depth = depth;
        named = named;
        at = e;
        turns = record {
          row = refl;
          lost = g.tree;
          named = g.named;
          known_were = ap (λ o. option_map_or (λ (w : Branch Seen). branch_count w) o 0) (sym g.there);
          there = g.there;
          others = g.others;
        };
      }
  turns_by (counts k) suits e = record {
    old = b;
    new = changed (counts k) b;
    depth = depth;
    named = named;
    at = e;
    turns = record { id = refl; serial = refl; kind = refl; name = refl; hold = shut_form b.row.hold k suits; children = refl };
  }
  turns_by (sets name value) suits e = relabelled (with_attribute name value) refl refl e
  turns_by (drops name) suits e = relabelled (without_attribute name) refl refl e
  turns_by (says value) suits e = relabelled (with_value value) refl refl e

-- a change that suits the node that is found
pub told_turns : (id : ℕ) (n : Nodes Seen) (b : Branch Seen) (c : Change) → find seen_id id n ≡ Some b → suits_change c b ≡ true
    → TreeTurns n (panel_change id c b) (put seen_id id (changed c b) n)
told_turns id n b c found suits =
    let e = at-put seen_id id (changed c b) n b found in
    turns_by id n (put seen_id id (changed c b) n) b e.0 (found_key seen_id id n b found) c suits e.1
