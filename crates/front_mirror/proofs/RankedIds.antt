-- The keys of nodes in document order: where one stands, and what a change of one node makes of them.
use Rattle.std.proofs.Common.{◌⊎◌, ◌≡◌, ℕ, zero, suc, ◌+◌, ◌<◌, ◌≤◌, ◌==◌, ◌||◌, ◌&&◌, Bool, true, false, cond, not, Option, Some}
use Rattle.std.proofs.Common.{IsSome, List, [], ◌∷◌, ◌++◌, length, slice_get, unwrap_or, refl, sym, ap, subst, ◌∙◌, inl, inr, arith}
use Rattle.std.proofs.Common.{◌≢◌, append_assoc, append-nil, length-append}
use Rattle.std.proofs.lemmas.Bool.{ne_eqb, eqb-true}
use Rattle.node_tree.specs.Nodes.{Nodes, none, node, Branch, alone, node_count, branch_count, tree_at}
use Rattle.node_tree.specs.Keys.{tally, find, At}
use Rattle.node_tree.specs.Seen.{Seen, is_opened, shows_count, seen_id}
use Rattle.node_tree.proofs.KeyLemmas.{tally_row, tally_below, stands-find, found_key, find-child}
use Rattle.node_tree.proofs.ChangeLemmas.{at-back}
use Rattle.client_views.specs.Views.{IsMirror, keys}
use Rattle.client_views.specs.Moves.{Change, shows, inserts, removes, counts, sets, drops, says, changed, suits_change, put_behind}
use Rattle.client_views.specs.Moves.{without_tree, has_tree, nodes_told}
use Rattle.front_mirror.specs.Panels.{without_place}
use Rattle.front_mirror.specs.Shown.{known_at, no_node}
use Rattle.front_mirror.specs.Walks.{spliced, walk, walk_in, rank_of, count_first}
use Rattle.front_mirror.specs.Orders.{place_behind, change_place, nodes_gone}
use Rattle.front_mirror.proofs.ChildLemmas.{known-found}
use Rattle.front_mirror.proofs.EditLemmas.{counted_none, bare-at}
use Rattle.front_mirror.proofs.EditTurns.{child_known}
use Rattle.front_mirror.proofs.GrowLemmas.{Grown, grown_place, grown-at, grows, rank-child}
use Rattle.front_mirror.proofs.OrderLemmas.{splits, splice_parts, walk-count, walk_in-count, rank-here, rank-below, rank-after}
use Rattle.front_mirror.proofs.PanelTurns.{goes}
use Rattle.front_mirror.proofs.RankLemmas.{count_first-zero, count-without, child_end, rank-less}

-- ---- keys

-- an item of two lists stands in one of them
got-either : (xs ys : List ℕ) (i x : ℕ) → slice_get (xs ++ ys) i ≡ Some x
    → (slice_get xs i ≡ Some x) ⊎ ((j : ℕ) × (i ≡ length xs + j) × (slice_get ys j ≡ Some x))
got-either [] ys i x e = inr (i, omega arith, e)
got-either (y ∷ xs) ys zero x e = inl e
got-either (y ∷ xs) ys (suc i) x e = elim (got-either xs ys i x e) [
  | inl h ↦ inl h
  | inr h ↦ inr (h.0, (let k = h.1 in omega (arith, k)), h.2)
]

get-there : (xs ys : List ℕ) (x : ℕ) → slice_get (xs ++ x ∷ ys) (length xs) ≡ Some x
get-there [] ys x = refl
get-there (y ∷ xs) ys x = get-there xs ys x

module _ {R : Type 0} (key : R → ℕ) where
  pub walk-keys : (level : ℕ) (n : Nodes R) → walk {X = ℕ} (λ l r. key r) level n ≡ keys key n
  walk-keys level none = refl
  walk-keys level (node r c t) = λ i. key r ∷ (walk-keys (suc level) c i ++ walk-keys level t i)

  pub keys-count : (n : Nodes R) → length (keys key n) ≡ node_count n
  keys-count n = ap (λ (l : List ℕ). length l) (sym (walk-keys 0 n)) ∙ walk-count {X = ℕ} (λ l r. key r) 0 n

  -- a key that is listed is a node's
  got-tally : (x : ℕ) (n : Nodes R) (i : ℕ) → slice_get (keys key n) i ≡ Some x → 0 < tally key x n
  got-tally x none i e = absurd cc
  got-tally x (node r c t) zero e =
      let same : key r ≡ x = cc in
      tally_row key x r c t same
  got-tally x (node r c t) (suc i) e =
      let k = tally_below key x r c t in
      elim (got-either (keys key c) (keys key t) i x e) [
        | inl h ↦ let a = got-tally x c i h in omega (arith, k, a)
        | inr h ↦ let a = got-tally x t h.0 h.2 in omega (arith, k, a)
      ]

  -- the key of one node stands at its rank alone
  pub got-rank : (x : ℕ) (n : Nodes R) → tally key x n ≤ 1 → (i : ℕ) → slice_get (keys key n) i ≡ Some x → i ≡ rank_of key x n
  got-rank x none once i e = absurd cc
  got-rank x (node r c t) once zero e =
      let same : key r ≡ x = cc in
      sym (rank-here key x r c t same)
  got-rank x (node r c t) once (suc i) e =
      let k = tally_below key x r c t in
      elim (got-either (keys key c) (keys key t) i x e) [
        | inl h ↦
            let there = got-tally x c i h in
            let own = rank-below key x r c t there once in
            let h2 = got-rank x c (omega (arith, k, once)) i h in
            omega (arith, own, h2)
        | inr h ↦
            let there = got-tally x t h.0 h.2 in
            let own = rank-after key x r c t there once in
            let h2 = got-rank x t (omega (arith, k, once)) h.0 h.2 in
            let at = h.1 in
            let l = keys-count c in
            omega (arith, own, h2, at, l)
      ]

  -- a node's key stands somewhere
  pub rank-got : {old new : Branch R} {depth : ℕ} {n m : Nodes R} → At old new depth n m
      → (i : ℕ) × (slice_get (keys key n) i ≡ Some (key old.row))
  rank-got {old = o} {depth = depth} {n = n} e =
      let s = splits {X = ℕ} (λ l r. key r) 0 e in (
        length s.front,
        ap (λ (l : List ℕ). slice_get l (length s.front)) (sym (walk-keys 0 n) ∙ s.was)
            ∙ get-there s.front (walk {X = ℕ} (λ l r. key r) (suc (0 + depth)) o.children ++ s.rest) (key o.row),
      )

-- what a list of ids says of the rank of a known node
pub ranked : (id : ℕ) (n : Nodes Seen) → IsMirror n → IsSome (find seen_id id n) → (ids : List ℕ) → ids ≡ keys seen_id n → (place : ℕ)
    → ((i : ℕ) → slice_get ids i ≡ Some id → slice_get ids place ≡ Some id) → place ≡ rank_of seen_id id n
ranked id n mirror known ids is place there =
    let found = known-found id n known in
    let s = stands-find seen_id id n (known_at id n) found in
    let key = found_key seen_id id n (known_at id n) found in
    let got = rank-got seen_id s.2 in
    let here : slice_get ids got.0 ≡ Some id =
    ap (λ (l : List ℕ). slice_get l got.0) is ∙ got.1 ∙ ap (λ (x : ℕ). Some x) key
    in
    let at : slice_get (keys seen_id n) place ≡ Some id = ap (λ (l : List ℕ). slice_get l place) (sym is) ∙ there got.0 here in
    got-rank seen_id id n (mirror.view.ids id) place at

-- ---- one node changed

-- What a change of one node makes of the ids: so many of them from a place on give way.
pub record IdsTurn (place gone : ℕ) (new : List ℕ) (before after : Nodes Seen) : Type 0 where
  pub fits : place + gone ≤ length (keys seen_id before)
  pub turned : keys seen_id after ≡ spliced place gone new (keys seen_id before)

abbrev id_of : ℕ → Seen → ℕ
id_of level r = r.id

ids_turn : (place gone : ℕ) (front old new rest : List ℕ) (before after : Nodes Seen) → place ≡ length front → gone ≡ length old
    → walk id_of 0 before ≡ front ++ (old ++ rest) → walk id_of 0 after ≡ front ++ (new ++ rest) → IdsTurn place gone new before after
ids_turn place gone front old new rest before after p c was is =
    let was2 : keys seen_id before ≡ front ++ (old ++ rest) = sym (walk-keys seen_id 0 before) ∙ was in
    let is2 : keys seen_id after ≡ front ++ (new ++ rest) = sym (walk-keys seen_id 0 after) ∙ is in
    record {
      fits =
          let l = ap (λ (x : List ℕ). length x) was2 in
          let a = length-append front (old ++ rest) in
          let b = length-append old rest in
          omega (arith, l, a, b, p, c);
      turned = splice_parts place gone front old new rest (keys seen_id before) (keys seen_id after) p c was2 is2;
    }

-- a sibling, and the tree that is put behind it
record Behind (previous : ℕ) (w : Branch Seen) (n m : Nodes Seen) : Type 0 where
  place : ℕ
  sibling : Branch Seen
  named : sibling.row.id ≡ previous
  known : tree_at place n ≡ Some sibling
  there : tree_at (suc place) m ≡ Some w
  others : without_place (suc place) m ≡ n

behind : (previous : ℕ) (w : Branch Seen) (n : Nodes Seen) → has_tree previous n ≡ true → Behind previous w n (put_behind previous w n)
behind previous w none e = absurd cc
behind previous w (node r c t) e = at (r.id == previous) refl e (behind previous w t) where
  at : (b : Bool) → (r.id == previous) ≡ b → (b || has_tree previous t) ≡ true
      → (has_tree previous t ≡ true → Behind previous w t (put_behind previous w t))
      → Behind previous w (node r c t) (cond b (node r c (node w.row w.children t)) (node r c (put_behind previous w t)))
  at true is f later = record {
    place = 0;
    sibling = record { row = r; children = c };
    named = eqb-true r.id previous is;
    known = refl;
    there = refl;
    others = refl;
  }
  at false is f later =
      let s = later f in
      record {
        place = suc s.place;
        sibling = s.sibling;
        named = s.named;
        known = s.known;
        there = s.there;
        others = ap (node r c) s.others;
      }

and_true : (a b : Bool) → (a && b) ≡ true → (a ≡ true) × (b ≡ true)
and_true true true e = (refl, refl)
and_true true false e = absurd cc
and_true false b e = absurd cc

module _ (id : ℕ) (n m : Nodes Seen) (was : IsMirror n) (is : IsMirror m) (b : Branch Seen) (found : find seen_id id n ≡ Some b) where
  own_key : b.row.id ≡ id
  own_key = found_key seen_id id n b found

  -- the rank of the node is the same before and after
  module _ {new : Branch Seen} {depth : ℕ} (e : At b new depth n m) (same : new.row.id ≡ b.row.id) where
    rank_was : rank_of seen_id id n ≡ length (splits id_of 0 e).front
    rank_was = subst (λ x. rank_of seen_id x n ≡ length (splits id_of 0 e).front) own_key
        ((splits id_of 0 e).ranked seen_id (was.view.ids b.row.id))

    rank_is : rank_of seen_id id m ≡ length (splits id_of 0 e).front
    rank_is = subst (λ x. rank_of seen_id x m ≡ length (splits id_of 0 e).front) (same ∙ own_key)
        ((splits id_of 0 e).ranks seen_id (is.view.ids new.row.id))

  -- the children of a node that was opened
  ids_shown : {depth : ℕ} (kids : Nodes Seen) → shows_count b.row.hold ≡ true → At b (changed (shows kids) b) depth n m
      → IdsTurn (rank_of seen_id id n + 1) 0 (keys seen_id kids) n m
  ids_shown {depth} kids shut e =
      let s = splits id_of 0 e in
      let empty : b.children ≡ none = counted_none b shut (bare-at e was.view.bare) in
      let l = length-append s.front (b.row.id ∷ []) in
      let rank = rank_was e refl in
      ids_turn (rank_of seen_id id n + 1) 0 (s.front ++ b.row.id ∷ []) [] (keys seen_id kids) s.rest n m
      (omega (arith, l, rank)) refl
      (s.was ∙ ap (λ (k : Nodes Seen). s.front ++ (b.row.id ∷ (walk id_of (suc (0 + depth)) k ++ s.rest))) empty
      ∙ sym (append_assoc s.front (b.row.id ∷ []) s.rest))
      (s.is ∙ ap (λ (k : List ℕ). s.front ++ (b.row.id ∷ (k ++ s.rest))) (walk-keys seen_id (suc (0 + depth)) kids)
      ∙ sym (append_assoc s.front (b.row.id ∷ []) (keys seen_id kids ++ s.rest)))

  -- a tree that came in at a place among the children
  module _ {depth : ℕ} (w : Branch Seen) (kids : Nodes Seen) (e : At b (record { row = b.row; children = kids }) depth n m)
      (i : ℕ) (there : tree_at i kids ≡ Some w) (others : without_place i kids ≡ b.children) where
    ids_put : (place : ℕ) → place ≡ rank_of seen_id id n + suc (count_first i b.children)
        → IdsTurn place 0 (keys seen_id (alone w)) n m
    ids_put place at =
        let put : Grown w 0 b.children kids = subst (λ (o : Nodes Seen). Grown w 0 o kids) others (grown_place i w kids there) in
        let g : Grown w (suc depth) n m = grown-at w e refl put in
        let s = grows id_of 0 g in
        let own : rank_of seen_id w.row.id m ≡ length s.front = s.ranked seen_id (is.view.ids w.row.id) in
        let child = rank-child seen_id i w there (at-back e) is.view.ids in
        let same : rank_of seen_id b.row.id m ≡ rank_of seen_id id m = ap (λ x. rank_of seen_id x m) own_key in
        let before : count_first i kids ≡ count_first i b.children = sym (count-without i kids) ∙ ap (count_first i) others in
        let a = rank_was e refl in
        let c = rank_is e refl in
        let new : walk_in id_of (0 + suc depth) w ≡ keys seen_id (alone w) =
        ap (λ (k : List ℕ). w.row.id ∷ k) (walk-keys seen_id (suc (0 + suc depth)) w.children ∙ sym (append-nil (keys seen_id w.children)))
        in
        ids_turn place 0 s.front [] (keys seen_id (alone w)) s.rest n m (omega (arith, at, own, child, same, before, a, c)) refl s.was
        (s.is ∙ ap (λ (k : List ℕ). s.front ++ (k ++ s.rest)) new)

  ids_inserted : {depth : ℕ} (previous : ℕ) (w : Branch Seen) → (previous == 0 || has_tree previous b.children) ≡ true
      → At b (changed (inserts previous w) b) depth n m
      → IdsTurn (place_behind id previous n) 0 (keys seen_id (alone w)) n m
  ids_inserted {depth} previous w has e = at (previous == 0) has e where
    at : (v : Bool) → (v || has_tree previous b.children) ≡ true
        → At b (record { row = b.row; children = cond v (node w.row w.children b.children) (put_behind previous w b.children) }) depth n m
        → IdsTurn (cond {A = ℕ} v (rank_of seen_id id n + 1) (rank_of seen_id previous n + branch_count (known_at previous n))) 0
        (keys seen_id (alone w)) n m
    at true f a =
        let z = count_first-zero b.children in
        ids_put w (node w.row w.children b.children) a 0 refl refl (rank_of seen_id id n + 1) (omega (arith, z))
    at false f a =
        let s = behind previous w b.children f in
        let end = child_end id n was b s.sibling s.place found s.known in
        let child : find seen_id previous n ≡ Some s.sibling =
        subst (λ x. find seen_id x n ≡ Some s.sibling) s.named (find-child seen_id n was.view.ids id b found s.place s.sibling s.known)
        in
        let rank : rank_of seen_id s.sibling.row.id n ≡ rank_of seen_id previous n = ap (λ x. rank_of seen_id x n) s.named in
        let size : branch_count (known_at previous n) ≡ branch_count s.sibling =
        ap (λ (o : Option (Branch Seen)). branch_count (unwrap_or o no_node)) child
        in
        ids_put w (put_behind previous w b.children) a (suc s.place) s.there s.others
        (rank_of seen_id previous n + branch_count (known_at previous n)) (omega (arith, end, rank, size))

  ids_removed : {depth : ℕ} (child : ℕ) → has_tree child b.children ≡ true → At b (changed (removes child) b) depth n m
      → IdsTurn (rank_of seen_id child n) (branch_count (known_at child n)) [] n m
  ids_removed {depth} child has e =
      let g = goes child b.children has in
      let w = g.tree in
      let put : Grown w 0 (without_tree child b.children) b.children =
      subst (λ (o : Nodes Seen). Grown w 0 o b.children) g.others (grown_place _ w b.children g.there)
      in
      let s = grows id_of 0 (grown-at w (at-back e) refl put) in
      let own : rank_of seen_id child n ≡ length s.front =
      subst (λ x. rank_of seen_id x n ≡ length s.front) g.named (s.ranked seen_id (was.view.ids w.row.id))
      in
      let there : find seen_id child n ≡ Some w =
      subst (λ x. find seen_id x n ≡ Some w) g.named (find-child seen_id n was.view.ids id b found _ w g.there)
      in
      let size : branch_count (known_at child n) ≡ branch_count w =
      ap (λ (o : Option (Branch Seen)). branch_count (unwrap_or o no_node)) there
      in
      ids_turn (rank_of seen_id child n) (branch_count (known_at child n)) s.front (walk_in id_of (0 + suc depth) w) [] s.rest n m own
      (size ∙ sym (walk_in-count id_of (0 + suc depth) w)) s.is s.was

  -- where no node comes or leaves
  ids_kept : {depth : ℕ} {new : Branch Seen} → new.row.id ≡ b.row.id → new.children ≡ b.children → At b new depth n m → IdsTurn 0 0 [] n m
  ids_kept {depth} {new} same kids e =
      let s = splits id_of 0 e in
      let own : walk_in id_of (0 + depth) new ≡ walk_in id_of (0 + depth) b = λ i. same i ∷ walk id_of (suc (0 + depth)) (kids i) in
      let all : keys seen_id m ≡ keys seen_id n =
      sym (walk-keys seen_id 0 m) ∙ s.is ∙ ap (λ (k : List ℕ). s.front ++ (k ++ s.rest)) own ∙ sym s.was ∙ walk-keys seen_id 0 n
      in
      record { fits = omega arith; turned = all }

  -- what a change makes of the ids
  pub ids_turned : {depth : ℕ} (c : Change) → suits_change c b ≡ true → At b (changed c b) depth n m
      → IdsTurn (change_place id c n) (nodes_gone c n) (keys seen_id (nodes_told c)) n m
  ids_turned (shows kids) suits e = ids_shown kids suits e
  ids_turned (inserts previous w) suits e =
      let s = and_true (is_opened b.row.hold && (previous == 0 || has_tree previous b.children)) (not (is_opened w.row.hold)) suits in
      ids_inserted previous w (and_true (is_opened b.row.hold) (previous == 0 || has_tree previous b.children) s.0).1 e
  ids_turned (removes child) suits e = ids_removed child (and_true (is_opened b.row.hold) (has_tree child b.children) suits).1 e
  ids_turned (counts k) suits e = ids_kept refl refl e
  ids_turned (sets name value) suits e = ids_kept refl refl e
  ids_turned (drops name) suits e = ids_kept refl refl e
  ids_turned (says value) suits e = ids_kept refl refl e

-- ---- where an edit changes the ids

-- a child that leaves is one
pub child_there : (b : Branch Seen) (child : ℕ) → suits_change (removes child) b ≡ true → has_tree child b.children ≡ true
child_there b child suits = (and_true (is_opened b.row.hold) (has_tree child b.children) suits).1

module _ (parent previous : ℕ) (n : Nodes Seen) (mirror : IsMirror n) (known : IsSome (find seen_id parent n))
    (there : (previous == 0 || has_tree previous (known_at parent n).children) ≡ true) (other : previous ≢ 0) where
  sibling : has_tree previous (known_at parent n).children ≡ true
  sibling = rw (ne_eqb previous 0 other) at there

  pub sibling_known : IsSome (find seen_id previous n)
  sibling_known = child_known n mirror parent previous known sibling

-- no place is greater than the number of nodes
pub rank_fits : (id : ℕ) (n : Nodes Seen) (mirror : IsMirror n) → IsSome (find seen_id id n)
    → rank_of seen_id id n + branch_count (known_at id n) ≤ node_count n
rank_fits id n mirror known = rank-less id n mirror (known_at id n) (known-found id n known)
