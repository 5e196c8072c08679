-- The numbers of nodes after a change of one node.
use Rattle.std.proofs.Common.{◌⊎◌, ◌≡◌, ℕ, ◌+◌, ◌<◌, ◌≤◌, ◌==◌, ◌||◌, ◌&&◌, true, false, not, Option, Some, refl, sym, ap, ◌∙◌}
use Rattle.std.proofs.Common.{arith, inl, inr, cond, List, [], length, length-append, option_map}
use Rattle.client_views.specs.Views.{keys, is_in}
use Rattle.node_tree.specs.Nodes.{Nodes, none, node, Branch, alone, node_count, branch_count}
use Rattle.node_tree.specs.Keys.{At, here, within, past, tally, tally_in, find, put}
use Rattle.node_tree.specs.Seen.{Seen, is_opened, shows_count, seen_id}
use Rattle.node_tree.proofs.KeyLemmas.{tally-at, tally_below, at-put, found_key}
use Rattle.node_tree.proofs.ChangeLemmas.{at-back, tally_in-at}
use Rattle.client_views.specs.Moves.{Change, shows, inserts, removes, counts, sets, drops, says, changed, suits_change}
use Rattle.client_views.specs.Moves.{has_tree}
use Rattle.front_mirror.specs.Sizes.{noted, on_path, IsCounted, BecomesOn, shifted}
use Rattle.client_views.proofs.BoolLemmas.{and_left, and_right}
use Rattle.front_mirror.proofs.EditLemmas.{added}
use Rattle.client_views.proofs.InsertedLemmas.{Inserted, first, later, tally-inserted, inserted_after, taken_out, TakenOut}
use Rattle.front_mirror.proofs.ViewLemmas.{tally-keys, absent_times}
use Rattle.front_mirror.proofs.SizeLemmas.{found-there, find-here, find-below, find-after, finds, top, below, after}
use Rattle.front_mirror.proofs.CountedLemmas.{Comes, recounted, counted-outside}

-- ---- a tree put among others

count_inserted : {w : Branch Seen} {n m : Nodes Seen} → Inserted w n m → node_count m ≡ node_count n + branch_count w
count_inserted (first n) = omega arith
count_inserted (later r c t m e) = let h = count_inserted e in omega arith

tally_alone : (k : ℕ) (w : Branch Seen) → tally seen_id k (alone w) ≡ tally_in seen_id k w
tally_alone k w = omega arith

pub inserted_stands : {w : Branch Seen} {n m : Nodes Seen} → Inserted w n m → At w w 0 m m
inserted_stands {w} (first n) = here n
inserted_stands (later r c t m e) = past 0 r c m m (inserted_stands e)

module _ (k : ℕ) {w : Branch Seen} where
  inserted_keeps : {n m : Nodes Seen} → Inserted w n m → tally seen_id k m ≤ 1 → (b : Branch Seen) → find seen_id k n ≡ Some b
      → find seen_id k m ≡ Some b
  inserted_keeps (first n) once b found = find-after seen_id k w.row w.children n b once found
  inserted_keeps (later r c t m e) once b found =
      let h = tally_below seen_id k r c m in
      elim (finds seen_id k r c t b found) [
        | top is f ↦ find-here seen_id k r c m is ∙ ap (λ o. Some o) f
        | below other f ↦ find-below seen_id k r c m b once f
        | after other f g ↦ find-after seen_id k r c m b once (inserted_keeps e (omega arith) b g)
      ]

  inserted_finds : {n m : Nodes Seen} → Inserted w n m → tally seen_id k m ≤ 1 → (b : Branch Seen) → find seen_id k m ≡ Some b
      → (find seen_id k (alone w) ≡ Some b) ⊎ (find seen_id k n ≡ Some b)
  inserted_finds (first n) once b found = elim (finds seen_id k w.row w.children n b found) [
    | top is f ↦ inl (find-here seen_id k w.row w.children none is ∙ ap (λ o. Some o) f)
    | below other f ↦ inl (find-below seen_id k w.row w.children none b
        (let h = tally_below seen_id k w.row w.children n in let i = alone_once w.row w.children n once in i) f)
    | after other f g ↦ inr g
  ]
    where
      alone_once : (r : Seen) (c t : Nodes Seen) → tally seen_id k (node r c t) ≤ 1 → tally seen_id k (node r c none) ≤ 1
      alone_once r c t one = omega arith
  inserted_finds (later r c t m e) once b found =
      let h = tally_below seen_id k r c m in
      elim (finds seen_id k r c m b found) [
        | top is f ↦ inr (find-here seen_id k r c t is ∙ ap (λ o. Some o) f)
        | below other f ↦ inr (find-below seen_id k r c t b (fewer_once r c t m once e) f)
        | after other f g ↦ elim (inserted_finds e (omega arith) b g) [
          | inl q ↦ inl q
          | inr q ↦ inr (find-after seen_id k r c t b (fewer_once r c t m once e) q)
        ]
      ]
    where
      fewer_once : (r : Seen) (c t m : Nodes Seen) → tally seen_id k (node r c m) ≤ 1 → Inserted w t m → tally seen_id k (node r c t) ≤ 1
      fewer_once r c t m one e = let i = tally-inserted seen_id k e in omega arith

-- ---- what comes in with a change

-- nothing comes, and all below the node was there
comes_none : (old new : Branch Seen) → ((k : ℕ) (b : Branch Seen) → find seen_id k new.children ≡ Some b → find seen_id k old.children
    ≡ Some b)
    → Comes seen_id old new none
comes_none old new there = record {
  into = λ k. omega arith;
  once = λ k. omega arith;
  from_both = λ k b found. inr (there k b found, refl);
}

module _ (b : Branch Seen) (once : (k : ℕ) → tally seen_id k b.children ≤ 1) where
  pub change_comes : (c : Change) → suits_change c b ≡ true → ((k : ℕ) → tally seen_id k (changed c b).children ≤ 1)
      → Comes seen_id b (changed c b) (added c)
  change_comes (shows kids) suits one = record {
    into = λ k. omega arith;
    once = one;
    from_both = λ k x found. inl found;
  }
  change_comes (inserts previous w) suits one =
      let there = and_right (is_opened b.row.hold) (previous == 0 || has_tree previous b.children)
      (and_left (is_opened b.row.hold && (previous == 0 || has_tree previous b.children)) (not (is_opened w.row.hold)) suits)
      in
      let e = inserted_after previous w b.children there in
      record {
        into = λ k. let h = tally-inserted seen_id k e in let i = tally_alone k w in omega arith;
        once = λ k. let h = tally-inserted seen_id k e in let i = tally_alone k w in let o = one k in omega arith;
        from_both = λ k x found. elim (inserted_finds k e (one k) x found) [
          | inl q ↦ inl q
          | inr q ↦
              let h = tally-inserted seen_id k e in
              let i = tally_alone k w in
              let o = one k in
              let f = found-there seen_id k b.children x q in
              inr (q, omega arith)
        ];
      }
  change_comes (removes id) suits one =
      let o = taken_out id b.children (and_right (is_opened b.row.hold) (has_tree id b.children) suits) in
      comes_none b (changed (removes id) b) (λ k x found. inserted_keeps k o.stood (once k) x found)
  change_comes (counts n) suits one = comes_none b (changed (counts n) b) (λ k x found. found)
  change_comes (sets name value) suits one = comes_none b (changed (sets name value) b) (λ k x found. found)
  change_comes (drops name) suits one = comes_none b (changed (drops name) b) (λ k x found. found)
  change_comes (says value) suits one = comes_none b (changed (says value) b) (λ k x found. found)

-- ---- what leaves with a change

-- the ids that leave: those of the child that goes and of all below it
abbrev pub Leaving : Change → Branch Seen → List ℕ → Type 0
Leaving (shows kids) b ids = ids ≡ []
Leaving (inserts previous w) b ids = ids ≡ []
Leaving (removes id) b ids = (o : TakenOut id b.children) → ids ≡ keys seen_id (alone o.tree)
Leaving (counts n) b ids = ids ≡ []
Leaving (sets name value) b ids = ids ≡ []
Leaving (drops name) b ids = ids ≡ []
Leaving (says value) b ids = ids ≡ []

pub keys-count : (n : Nodes Seen) → length (keys seen_id n) ≡ node_count n
keys-count none = refl
keys-count (node r c t) =
    let l = length-append (keys seen_id c) (keys seen_id t) in
    let a = keys-count c in
    let b = keys-count t in
    omega arith

no_ids : (ids : List ℕ) → ids ≡ [] → length ids ≡ 0
no_ids ids e = ap length e

-- the node that goes
gone_tree : (id : ℕ) (b : Branch Seen) → suits_change (removes id) b ≡ true → TakenOut id b.children
gone_tree id b suits = taken_out id b.children (and_right (is_opened b.row.hold) (has_tree id b.children) suits)

module _ (b : Branch Seen) (bare : shows_count b.row.hold ≡ true → b.children ≡ none) (ids : List ℕ) where
  pub change_balance : (c : Change) → suits_change c b ≡ true → Leaving c b ids
      → branch_count (changed c b) + length ids ≡ branch_count b + node_count (added c)
  change_balance (shows kids) suits is =
      let z : node_count b.children ≡ 0 = ap (λ (n : Nodes Seen). node_count n) (bare suits) in
      let l = no_ids ids is in
      omega arith
  change_balance (inserts previous w) suits is =
      let there = and_right (is_opened b.row.hold) (previous == 0 || has_tree previous b.children)
      (and_left (is_opened b.row.hold && (previous == 0 || has_tree previous b.children)) (not (is_opened w.row.hold)) suits)
      in
      let h = count_inserted (inserted_after previous w b.children there) in
      let l = no_ids ids is in
      omega arith
  change_balance (removes id) suits is =
      let o = gone_tree id b suits in
      let h = count_inserted o.stood in
      let l : length ids ≡ node_count (alone o.tree) = ap length (is o) ∙ keys-count (alone o.tree) in
      omega arith
  change_balance (counts n) suits is = let l = no_ids ids is in omega arith
  change_balance (sets name value) suits is = let l = no_ids ids is in omega arith
  change_balance (drops name) suits is = let l = no_ids ids is in omega arith
  change_balance (says value) suits is = let l = no_ids ids is in omega arith

  none_in : (k : ℕ) → ids ≡ [] → is_in k ids ≡ false
  none_in k e = ap (is_in k) e

  -- none of the nodes after has an id that leaves
  pub leaving_gone : (c : Change) → suits_change c b ≡ true → Leaving c b ids → {depth : ℕ} {n m : Nodes Seen}
      → At b (changed c b) depth n m → (k : ℕ) → tally seen_id k n ≤ 1 → 0 < tally seen_id k m → is_in k ids ≡ false
  leaving_gone (shows kids) suits is e k once there = none_in k is
  leaving_gone (inserts previous w) suits is e k once there = none_in k is
  leaving_gone (removes id) suits is e k once there =
      let o = gone_tree id b suits in
      let h = tally-at seen_id k e in
      let i = tally-inserted seen_id k o.stood in
      let j = tally_alone k o.tree in
      let z : tally seen_id k (alone o.tree) ≡ 0 = omega arith in
      ap (is_in k) (is o) ∙ absent_times k (keys seen_id (alone o.tree)) (sym (tally-keys seen_id k (alone o.tree)) ∙ z)
  leaving_gone (counts n) suits is e k once there = none_in k is
  leaving_gone (sets name value) suits is e k once there = none_in k is
  leaving_gone (drops name) suits is e k once there = none_in k is
  leaving_gone (says value) suits is e k once there = none_in k is

-- ---- all of a change

-- the node stands there before
abbrev here_old : {R : Type 0} {old new : Branch R} {depth : ℕ} {n m : Nodes R} → At old new depth n m → At old old depth n n
here_old {old = o} (here t) = here t
here_old (within depth r c m t e) = within depth r c c t (here_old e)
here_old (past depth r c t m e) = past depth r c t t (here_old e)

-- the way up from it is the same before and after
on_path-old : {R : Type 0} (key : R → ℕ) (k : ℕ) {old new : Branch R} {depth : ℕ} {n m : Nodes R} (e : At old new depth n m)
    → on_path key k (here_old e) ≡ on_path key k e
on_path-old key k (here t) = refl
on_path-old key k (within depth r c m t e) = ap (λ v. key r == k || v) (on_path-old key k e)
on_path-old key k (past depth r c t m e) = on_path-old key k e

changed_id : (c : Change) (b : Branch Seen) → (changed c b).row.id ≡ b.row.id
changed_id (shows kids) b = refl
changed_id (inserts previous w) b = refl
changed_id (removes id) b = refl
changed_id (counts n) b = refl
changed_id (sets name value) b = refl
changed_id (drops name) b = refl
changed_id (says value) b = refl

children_once : {old new : Branch Seen} {depth : ℕ} {n m : Nodes Seen} → At old new depth n m → (k : ℕ) → tally seen_id k n ≤ 1
    → tally seen_id k old.children ≤ 1
children_once {old} e k once = let h = tally_in-at seen_id k e in let i = tally_alone k old in omega arith

module _ (v : Nodes Seen) (id : ℕ) (b : Branch Seen) (c : Change) (found : find seen_id id v ≡ Some b) (suits : suits_change c b ≡ true)
    (bare : shows_count b.row.hold ≡ true → b.children ≡ none) (once : (k : ℕ) → tally seen_id k v ≤ 1)
    (one : (k : ℕ) → tally seen_id k (put seen_id id (changed c b) v) ≤ 1) (ids : List ℕ) (leaves : Leaving c b ids)
    (start mid fin : ℕ → Option ℕ) (counted : IsCounted seen_id start v)
    (became : (x : Branch Seen) (depth : ℕ) (m : Nodes Seen) (e : At x x depth v m) → x.row.id ≡ id
    → BecomesOn (λ k. on_path seen_id k e) (shifted (node_count (added c)) (length ids)) (noted seen_id (added c) start) mid)
    (kept : (k : ℕ) → is_in k ids ≡ false → fin k ≡ mid k) where
  -- the numbers after a change of the node that is found
  pub change_counted : IsCounted seen_id fin (put seen_id id (changed c b) v)
  change_counted =
      let p = at-put seen_id id (changed c b) v b found in
      let e = p.1 in
      let m = put seen_id id (changed c b) v in
      let comes = change_comes b (λ k. children_once e k (once k)) c suits (λ k. children_once (at-back e) k (one k)) in
      let mid_counted : IsCounted seen_id mid m = recounted seen_id e (changed_id c b) once one (added c) comes (length ids)
      (change_balance b bare ids c suits leaves) start mid counted
      (λ k. became b p.0 v (here_old e) (found_key seen_id id v b found) k
      ∙ ap (λ o. cond o (option_map (shifted (node_count (added c)) (length ids)) (noted seen_id (added c) start k))
      (noted seen_id (added c) start k)) (on_path-old seen_id k e))
      in
      counted-outside seen_id m mid fin mid_counted (λ k there. kept k (leaving_gone b bare ids c suits leaves e k (once k) there))
