-- What is told of rows before nodes are made of them is what is told of the nodes.
use Rattle.std.proofs.Common.{◌≡◌, ℕ, zero, suc, ◌+◌, ◌<◌, ◌≤◌, ◌==◌, Bool, true, false, not, ◌&&◌, ◌||◌, cond, max, min, List, [], ◌∷◌}
use Rattle.std.proofs.Common.{map}
use Rattle.std.proofs.Common.{add-one, Option, Some, None, option_map, refl, sym, ap, ◌∙◌, arith}
use Rattle.std.specs.Option.{option_and_then}
use Rattle.std.proofs.lemmas.Bool.{eq-eqb, eqb-true, ne_eqb}
use Rattle.node_tree.specs.Nodes.{Nodes, none, node, alone, height, is_no_node}
use Rattle.node_tree.specs.Labels.{Label, holds}
use Rattle.node_tree.specs.Levels.{most_levels}
use Rattle.page_tree.specs.Forms.{may_stand}
use Rattle.page_tree.specs.Flat.{FlatRow, Pending, kids_of, others_of, under, gathered, top_trees, flat_nodes, are_held, flat_formed}
use Rattle.page_tree.specs.FlatRows.{is_none_left, is_ahead, TakesOutline, kid_levels, kids_held, past_kids, outline_under, outlined}
use Rattle.page_tree.specs.FlatRows.{outline_levels}
use Rattle.page_tree.specs.declared.outlines.Outline.{Outline}
use Rattle.page_tree.proofs.RowLemmas.{tops-are}

-- what is told of a tree that has no parent yet
abbrev pub outline_of : Pending → Outline
outline_of p = record {
  up = p.up;
  levels = min (height (alone p.tree)) most_levels;
  is_held = are_held (p.up == 0) (alone p.tree);
}

and_true : (b : Bool) → (b && true) ≡ b
and_true true = refl
and_true false = refl

-- ---- the children of a row

levels_step : (i : ℕ) (p : Pending) (ps : List Pending) (b : Bool) (k : ℕ) → k ≡ min (height (kids_of i ps)) most_levels
    → cond b (max (outline_of p).levels k) 0
    ≡ min (height (cond b (node p.tree.row p.tree.children (kids_of i ps)) none)) most_levels
levels_step i p ps true k e = omega (arith, e)
levels_step i p ps false k e = refl

levels-kids : (i : ℕ) (ps : List Pending) → kid_levels i (map outline_of ps) ≡ min (height (kids_of i ps)) most_levels
levels-kids i [] = refl
levels-kids i (p ∷ ps) = levels_step i p ps (p.up == i) (kid_levels i (map outline_of ps)) (levels-kids i ps)

held_step : (i : ℕ) (p : Pending) (ps : List Pending) (b : Bool) (k : Bool) → (p.up == i) ≡ b → k ≡ are_held (i == 0) (kids_of i ps)
    → cond b ((outline_of p).is_held && k) true ≡ are_held (i == 0) (cond b (node p.tree.row p.tree.children (kids_of i ps)) none)
held_step i p ps true k is e =
    ap (λ u. are_held (u == 0) (alone p.tree) && k) (eqb-true p.up i is)
    ∙ ap (λ h. are_held (i == 0) (alone p.tree) && h) e
    ∙ held_beside (may_stand (i == 0) p.tree.row.kind && (holds p.tree.row.kind || is_no_node p.tree.children)
    && are_held false p.tree.children) (are_held (i == 0) (kids_of i ps))
  where
    held_beside : (a b : Bool) → ((a && true) && b) ≡ (a && b)
    held_beside true b = refl
    held_beside false b = refl
held_step i p ps false k is e = refl

held-kids : (i : ℕ) (ps : List Pending) → kids_held i (map outline_of ps) ≡ are_held (i == 0) (kids_of i ps)
held-kids i [] = refl
held-kids i (p ∷ ps) = held_step i p ps (p.up == i) (kids_held i (map outline_of ps)) refl (held-kids i ps)

ahead_step : (i : ℕ) (p : Pending) (ps : List Pending) (b : Bool)
    → not b ≡ is_no_node (cond b (node p.tree.row p.tree.children (kids_of i ps)) none)
ahead_step i p ps true = refl
ahead_step i p ps false = refl

ahead-kids : (i : ℕ) (ps : List Pending) → not (is_ahead i (map outline_of ps)) ≡ is_no_node (kids_of i ps)
ahead-kids i [] = refl
ahead-kids i (p ∷ ps) = ahead_step i p ps (p.up == i)

past_step : (i : ℕ) (p : Pending) (ps : List Pending) (b : Bool) → past_kids i (map outline_of ps) ≡ map outline_of (others_of i ps)
    → cond b (past_kids i (map outline_of ps)) (outline_of p ∷ map outline_of ps)
    ≡ map outline_of (cond b (others_of i ps) (p ∷ ps))
past_step i p ps true e = e
past_step i p ps false e = refl

past-kids : (i : ℕ) (ps : List Pending) → past_kids i (map outline_of ps) ≡ map outline_of (others_of i ps)
past-kids i [] = refl
past-kids i (p ∷ ps) = past_step i p ps (p.up == i) (past-kids i ps)

-- ---- rows

levels_under : (h k : ℕ) → k ≡ min h most_levels → min (suc k) most_levels ≡ min (max (suc h) 0) most_levels
levels_under h k e = omega (arith, e)

abbrev outline_with : ℕ → ℕ → Bool → Outline
outline_with up levels is_held = record { up = up; levels = levels; is_held = is_held }

under-outline : (k : ℕ) (r : FlatRow) (ps : List Pending)
    → outline_under (suc k) r (map outline_of ps) ≡ map outline_of (under (suc k) r ps)
under-outline k r ps =
    let levels = levels_under (height (kids_of (suc k) ps)) (kid_levels (suc k) (map outline_of ps)) (levels-kids (suc k) ps) in
    let fits : (may_stand (r.up == 0) r.label.kind && (holds r.label.kind || not (is_ahead (suc k) (map outline_of ps)))
    && kids_held (suc k) (map outline_of ps))
    ≡ are_held (r.up == 0) (node r.label (kids_of (suc k) ps) none) =
    ap (λ n. may_stand (r.up == 0) r.label.kind && (holds r.label.kind || n) && kids_held (suc k) (map outline_of ps))
    (ahead-kids (suc k) ps)
    ∙ ap (λ h. may_stand (r.up == 0) r.label.kind && (holds r.label.kind || is_no_node (kids_of (suc k) ps)) && h)
    (held-kids (suc k) ps ∙ ap (λ b. are_held b (kids_of (suc k) ps)) (ne_eqb (suc k) 0 (λ e. omega arith)))
    ∙ sym (and_true (may_stand (r.up == 0) r.label.kind && (holds r.label.kind || is_no_node (kids_of (suc k) ps))
    && are_held false (kids_of (suc k) ps))) in
    ap (λ l. outline_with r.up l (may_stand (r.up == 0) r.label.kind
    && (holds r.label.kind || not (is_ahead (suc k) (map outline_of ps))) && kids_held (suc k) (map outline_of ps))
    ∷ past_kids (suc k) (map outline_of ps)) levels
    ∙ ap (λ h. outline_with r.up (min (max (suc (height (kids_of (suc k) ps))) 0) most_levels) h
    ∷ past_kids (suc k) (map outline_of ps)) fits
    ∙ ap (λ l. outline_of (record { up = r.up; tree = record { row = r.label; children = kids_of (suc k) ps } }) ∷ l) (past-kids (suc k) ps)

outlined-gathered : (k : ℕ) (rows : List FlatRow) → outlined (suc k) rows ≡ map outline_of (gathered (suc k) rows)
outlined-gathered k [] = refl
outlined-gathered k (r ∷ rs) =
    rw (add-one) (ap (outline_under (suc k) r) (outlined-gathered (suc k) rs) ∙ under-outline k r (gathered (suc (suc k)) rs))

-- ---- all of them

formed_step : (a h : Bool) (n : Nodes Label) → are_held true n ≡ h
    → cond (a && h) (Some (min (height n) most_levels)) None
    ≡ option_map (λ m. min (height m) most_levels) (option_and_then (λ m. cond (are_held true m) (Some m) None) (cond a (Some n) None))
formed_step true true n e = rw e refl
formed_step true false n e = rw e refl
formed_step false h n e = refl

none_left-map : (ps : List Pending) → is_none_left (map outline_of ps) ≡ is_none_left ps
none_left-map [] = refl
none_left-map (p ∷ ps) = refl

levels-top : (ps : List Pending)
    → outline_levels (map outline_of ps)
    ≡ option_map (λ m. min (height m) most_levels) (option_and_then (λ m. cond (are_held true m) (Some m) None) (top_trees ps))
levels-top ps =
    ap (λ l. cond (is_none_left l && kids_held 0 (map outline_of ps)) (Some (kid_levels 0 (map outline_of ps))) None) (past-kids 0 ps)
    ∙ ap (λ b. cond (b && kids_held 0 (map outline_of ps)) (Some (kid_levels 0 (map outline_of ps))) None) (none_left-map (others_of 0 ps))
    ∙ ap (λ b. cond (is_none_left (others_of 0 ps) && b) (Some (kid_levels 0 (map outline_of ps))) None) (held-kids 0 ps)
    ∙ ap (λ l. cond (is_none_left (others_of 0 ps) && are_held true (kids_of 0 ps)) (Some l) None) (levels-kids 0 ps)
    ∙ formed_step (is_none_left (others_of 0 ps)) (are_held true (kids_of 0 ps)) (kids_of 0 ps) refl
    ∙ ap (λ o. option_map (λ m. min (height m) most_levels) (option_and_then (λ m. cond (are_held true m) (Some m) None) o))
    (sym (tops-are ps))

pub levels-flat : (rows : List FlatRow)
    → outline_levels (outlined 1 rows) ≡ option_map (λ n. min (height n) most_levels) (flat_formed rows)
levels-flat rows = ap outline_levels (outlined-gathered 0 rows) ∙ levels-top (gathered 1 rows)

-- ---- in code

-- one child is taken
pub record IsKid (i : ℕ) (before : List Outline) (o : Outline) (after : List Outline) : Type 0 where
  pub levels : kid_levels i before ≡ max o.levels (kid_levels i after)
  pub held : kids_held i before ≡ (o.is_held && kids_held i after)
  pub past : past_kids i before ≡ past_kids i after

-- none is left
pub record IsPastKids (i : ℕ) (before : List Outline) : Type 0 where
  pub levels : kid_levels i before ≡ 0
  pub held : kids_held i before ≡ true
  pub past : past_kids i before ≡ before

pub held_beside : (a b c : Bool) → ((a && b) && c) ≡ (a && (b && c))
held_beside true b c = refl
held_beside false b c = refl

-- what code answers of all rows
pub levels-read : (rows : List FlatRow) (os : List Outline) (empty fits : Bool) (k : ℕ) → os ≡ outlined 1 rows
    → empty ≡ is_none_left (past_kids 0 os) → fits ≡ kids_held 0 os → k ≡ kid_levels 0 os
    → cond (empty && fits) (Some k) None ≡ option_map (λ n. min (height n) most_levels) (flat_formed rows)
levels-read rows os empty fits k is is_empty fit levels =
    ap (λ b. cond (b && fits) (Some k) None) is_empty
    ∙ ap (λ b. cond (is_none_left (past_kids 0 os) && b) (Some k) None) fit
    ∙ ap (λ j. cond (is_none_left (past_kids 0 os) && kids_held 0 os) (Some j) None) levels
    ∙ ap outline_levels is
    ∙ levels-flat rows

pub levels-none : (rows : List FlatRow) (os : List Outline) → os ≡ outlined 1 rows → is_none_left (past_kids 0 os) ≡ false
    → None ≡ option_map (λ n. min (height n) most_levels) (flat_formed rows)
levels-none rows os is more = levels-read rows os false (kids_held 0 os) (kid_levels 0 os) is (sym more) refl refl

pub not_held : (b : Bool) → not b ≡ true → b ≡ false
not_held true e = absurd cc
not_held false e = refl

pub not_unheld : (b : Bool) → not b ≡ false → b ≡ true
not_unheld true e = refl
not_unheld false e = absurd cc
