-- What each change does to the lines of the outline.
use Rattle.std.proofs.Common.{◌≡◌, ℕ, zero, suc, ◌+◌, ◌-◌, ◌<◌, ◌≤◌, Option, Some, IsSome, List, [], ◌∷◌, ◌++◌}
use Rattle.std.proofs.Common.{length, refl, sym, ap, ◌∙◌, subst, arith, length-append, option_map}
use Rattle.node_tree.specs.Nodes.{Nodes, none, node, Branch, node_count, branch_count, tree_at, width}
use Rattle.node_tree.specs.Keys.{find, level_of, At}
use Rattle.node_tree.specs.Seen.{Seen, seen_id}
use Rattle.node_tree.proofs.KeyLemmas.{find-stands, stands-find, found_key}
use Rattle.node_tree.proofs.ChangeLemmas.{at-back, at-new, level-at}
use Rattle.client_views.specs.Views.{IsMirror}
use Rattle.front_mirror.specs.Shown.{known_at}
use Rattle.front_mirror.specs.Panels.{NodeTurns, Opens, Gains, Loses, Differs, without_place}
use Rattle.front_mirror.specs.Walks.{walk, walk_in, spliced, rank_of, count_first}
use Rattle.front_mirror.proofs.OrderLemmas.{splits, splice_parts, walk_in-count}
use Rattle.front_mirror.proofs.GrowLemmas.{Grown, grown_place, grown-at, grows, rank-child}
use Rattle.front_mirror.proofs.RankLemmas.{count_first-zero, count-without, child_end}
use Rattle.front_mirror.proofs.ChildLemmas.{known-found, child_found, child_is}
use Rattle.panels.specs.Lines.{outline_line, outline_lines, place_left}
use Rattle.panels.proofs.ChangedNodes.{bare-at, unopened_none, shut_unopened, grown-stands}

-- ---- a node that changed is found after the change

module _ {old new : Branch Seen} {depth : ℕ} {n m : Nodes Seen} (e : At old new depth n m) (mirror : IsMirror m) where
  pub found-new : find seen_id new.row.id m ≡ Some new
  found-new = find-stands seen_id new m (depth, m, at-new e) (mirror.view.ids new.row.id)

  pub known-new : known_at new.row.id m ≡ new
  known-new = rw found-new refl

  pub level-new : level_of seen_id new.row.id 0 m ≡ Some (0 + depth)
  level-new = level-at seen_id 0 (at-back e) (mirror.view.ids new.row.id)

-- ---- one line for another

-- the lines of a node, those of its children first left in place
module _ (level : ℕ) where
  apart : (b : Branch Seen) (front rest : List (List ℕ))
      → front ++ (walk_in outline_line level b ++ rest)
      ≡ front ++ ((outline_line level b.row ∷ []) ++ (walk outline_line (suc level) b.children ++ rest))
  apart b front rest = refl

  -- a node without children has one line
  lone : (b : Branch Seen) → b.children ≡ none → walk_in outline_line level b ≡ outline_line level b.row ∷ []
  lone b e = rw e refl

-- What one node's change makes of the lines: so many from a place on, which are there, give way.
pub record LinesTurn (place count : ℕ) (new : List (List ℕ)) (before after : Nodes Seen) : Type 0 where
  pub fits : place + count ≤ length (outline_lines before)
  pub turned : outline_lines after ≡ spliced place count new (outline_lines before)

lines_turn : (place count : ℕ) (front old new rest : List (List ℕ)) (before after : Nodes Seen) → place ≡ length front → count ≡ length old
    → outline_lines before ≡ front ++ (old ++ rest) → outline_lines after ≡ front ++ (new ++ rest) → LinesTurn place count new before after
lines_turn place count front old new rest before after p c was is = record {
  fits =
      let l = ap (λ (x : List (List ℕ)). length x) was in
      let a = length-append front (old ++ rest) in
      let b = length-append old rest in
      omega arith;
  turned = splice_parts place count front old new rest (outline_lines before) (outline_lines after) p c was is;
}

module _ (id : ℕ) (before after : Nodes Seen) (was : IsMirror before) (is : IsMirror after) where
  -- the line of a node that changed
  pub lines_changed : NodeTurns Differs id before after → (level : ℕ) → level_of seen_id id 0 after ≡ Some level
      → LinesTurn (rank_of seen_id id after) 1 (outline_line level (known_at id after).row ∷ []) before after
  lines_changed t level at =
      let s = splits outline_line 0 t.at in
      let same : t.new.row.id ≡ id = t.turns.id ∙ t.named in
      let known : known_at id after ≡ t.new = subst (λ x. known_at x after ≡ t.new) same (known-new t.at is) in
      let low : level_of seen_id id 0 after ≡ Some (0 + t.depth) =
      subst (λ x. level_of seen_id x 0 after ≡ Some (0 + t.depth)) same (level-new t.at is)
      in
      let deep : level ≡ 0 + t.depth = let both : ◌≡◌ {A = Option ℕ} (Some level) (Some (0 + t.depth)) = sym at ∙ low in cc in
      let rank : rank_of seen_id id after ≡ length s.front =
      subst (λ x. rank_of seen_id x after ≡ length s.front) same (s.ranks seen_id (is.view.ids t.new.row.id))
      in
      let kids : walk outline_line (suc (0 + t.depth)) t.new.children ≡ walk outline_line (suc (0 + t.depth)) t.old.children =
      ap (walk outline_line (suc (0 + t.depth))) t.turns.children
      in
      let row : (known_at id after).row ≡ t.new.row = ap (λ (b : Branch Seen). b.row) known in
      rw (row, deep)
      (lines_turn (rank_of seen_id id after) 1 s.front (outline_line (0 + t.depth) t.old.row ∷ [])
      (outline_line (0 + t.depth) t.new.row ∷ []) (walk outline_line (suc (0 + t.depth)) t.old.children ++ s.rest)
      before after rank refl s.was
      (s.is ∙ ap (λ k. s.front ++ (outline_line (0 + t.depth) t.new.row ∷ (k ++ s.rest))) kids))

  -- the line of a node that was opened, and those of its children
  pub lines_opened : NodeTurns Opens id before after → (level : ℕ) → level_of seen_id id 0 after ≡ Some level
      → LinesTurn (rank_of seen_id id after) 1 (walk_in outline_line level (known_at id after)) before after
  lines_opened t level at =
      let s = splits outline_line 0 t.at in
      let same : t.new.row.id ≡ id = ap (λ (r : Seen). r.id) t.turns.row ∙ t.named in
      let known : known_at id after ≡ t.new = subst (λ x. known_at x after ≡ t.new) same (known-new t.at is) in
      let low : level_of seen_id id 0 after ≡ Some (0 + t.depth) =
      subst (λ x. level_of seen_id x 0 after ≡ Some (0 + t.depth)) same (level-new t.at is)
      in
      let deep : level ≡ 0 + t.depth = let both : ◌≡◌ {A = Option ℕ} (Some level) (Some (0 + t.depth)) = sym at ∙ low in cc in
      let rank : rank_of seen_id id after ≡ length s.front =
      subst (λ x. rank_of seen_id x after ≡ length s.front) same (s.ranks seen_id (is.view.ids t.new.row.id))
      in
      let empty : t.old.children ≡ none =
      unopened_none t.old.row.hold t.old.children (shut_unopened t.old.row.hold t.turns.shut) (bare-at t.at was.view.bare)
      in
      rw (known, deep)
      (lines_turn (rank_of seen_id id after) 1 s.front (walk_in outline_line (0 + t.depth) t.old)
      (walk_in outline_line (0 + t.depth) t.new) s.rest
      before after rank
      (sym (walk_in-count outline_line (0 + t.depth) t.old ∙ ap (λ (c : Nodes Seen). suc (node_count c)) empty)) s.was s.is)

-- ---- a child comes, and a child goes

module _ (child parent : ℕ) (before after : Nodes Seen) (was : IsMirror before) (is : IsMirror after) where
  -- the line of a new child
  pub lines_inserted : NodeTurns (Gains child) parent before after → (level : ℕ) → level_of seen_id child 0 after ≡ Some level
      → LinesTurn (rank_of seen_id child after) 0 (outline_line level (known_at child after).row ∷ []) before after
  lines_inserted t level at =
      let w = t.turns.gained in
      let put : Grown w 0 t.old.children t.new.children =
      subst (λ (o : Nodes Seen). Grown w 0 o t.new.children) t.turns.others (grown_place t.turns.place w t.new.children t.turns.there)
      in
      let g : Grown w (suc t.depth) before after = grown-at w t.at t.turns.row put in
      let s = grows outline_line 0 g in
      let e : At w w (suc t.depth) after after = grown-stands g in
      let same : w.row.id ≡ child = t.turns.named in
      let known : known_at child after ≡ w = subst (λ x. known_at x after ≡ w) same (known-new e is) in
      let low : level_of seen_id child 0 after ≡ Some (0 + suc t.depth) =
      subst (λ x. level_of seen_id x 0 after ≡ Some (0 + suc t.depth)) same (level-new e is)
      in
      let deep : level ≡ 0 + suc t.depth = let both : ◌≡◌ {A = Option ℕ} (Some level) (Some (0 + suc t.depth)) = sym at ∙ low in cc in
      let rank : rank_of seen_id child after ≡ length s.front =
      subst (λ x. rank_of seen_id x after ≡ length s.front) same (s.ranked seen_id (is.view.ids w.row.id))
      in
      let row : (known_at child after).row ≡ w.row = ap (λ (b : Branch Seen). b.row) known in
      let empty : w.children ≡ none = unopened_none w.row.hold w.children t.turns.unopened (bare-at e is.view.bare) in
      rw (row, deep)
      (lines_turn (rank_of seen_id child after) 0 s.front [] (outline_line (0 + suc t.depth) w.row ∷ []) s.rest
      before after rank refl s.was
      (s.is ∙ ap (λ k. s.front ++ (k ++ s.rest)) (lone (0 + suc t.depth) w empty)))

  -- the lines of a child that went
  pub lines_removed : (place known : ℕ) → NodeTurns (Loses place child known) parent before after
      → LinesTurn (place_left parent place after) known [] before after
  lines_removed place known t =
      let w = t.turns.lost in
      let put : Grown w 0 t.new.children t.old.children =
      subst (λ (o : Nodes Seen). Grown w 0 o t.old.children) t.turns.others (grown_place place w t.old.children t.turns.there)
      in
      let g : Grown w (suc t.depth) after before = grown-at w (at-back t.at) (sym t.turns.row) put in
      let s = grows outline_line 0 g in
      let p = splits outline_line 0 t.at in
      let same : t.new.row.id ≡ parent = ap (λ (r : Seen). r.id) t.turns.row ∙ t.named in
      let known_is : known_at parent after ≡ t.new = subst (λ x. known_at x after ≡ t.new) same (known-new t.at is) in
      let front : rank_of seen_id w.row.id before ≡ length s.front = s.ranked seen_id (was.view.ids w.row.id) in
      let child_rank = rank-child seen_id place w t.turns.there t.at was.view.ids in
      let old_rank = p.ranked seen_id (was.view.ids t.old.row.id) in
      let new_rank : rank_of seen_id parent after ≡ length p.front =
      subst (λ x. rank_of seen_id x after ≡ length p.front) same (p.ranks seen_id (is.view.ids t.new.row.id))
      in
      let kids : count_first place (known_at parent after).children ≡ count_first place t.old.children =
      ap (λ (b : Branch Seen). count_first place b.children) known_is ∙ ap (count_first place) (sym t.turns.others)
      ∙ count-without place t.old.children
      in
      lines_turn (place_left parent place after) known s.front (walk_in outline_line (0 + suc t.depth) w) [] s.rest before after
      (omega arith) (sym (walk_in-count outline_line (0 + suc t.depth) w ∙ t.turns.known_were)) s.is s.was

-- where a child that went began
pub child_start : (parent place : ℕ) (n : Nodes Seen) → IsMirror n → IsSome (find seen_id parent n) → (sibling : ℕ)
    → 0 < place
    → Some sibling ≡ option_map (λ (b : Branch Seen). b.row.id) (tree_at (place - 1) (known_at parent n).children)
    → rank_of seen_id sibling n + branch_count (known_at sibling n) ≡ place_left parent place n
child_start parent place n is known sibling some e =
    let f = child_found parent sibling (place - 1) n is known e in
    let found = known-found parent n known in
    let h = child_end parent n is (known_at parent n) f.tree (place - 1) found f.there in
    let key = found_key seen_id sibling n f.tree f.found in
    let same : rank_of seen_id f.tree.row.id n ≡ rank_of seen_id sibling n = ap (λ x. rank_of seen_id x n) key in
    let size : branch_count (known_at sibling n) ≡ branch_count f.tree = ap branch_count (child_is parent sibling (place - 1) n f) in
    let s : suc (place - 1) ≡ place = omega arith in
    let c : count_first (suc (place - 1)) (known_at parent n).children ≡ count_first place (known_at parent n).children =
    ap (λ k. count_first k (known_at parent n).children) s
    in
    omega arith

-- no earlier children: behind the parent's own line
pub first_start : (parent place : ℕ) (n : Nodes Seen) → place ≡ 0 → rank_of seen_id parent n + 1 ≡ place_left parent place n
first_start parent place n e =
    let c = count_first-zero (known_at parent n).children in
    let k : count_first place (known_at parent n).children ≡ count_first 0 (known_at parent n).children =
    ap (λ i. count_first i (known_at parent n).children) e
    in
    omega arith
