-- The rank of a node, of its parent and of its siblings.
use Rattle.std.proofs.Common.{◌⊎◌, ◌≡◌, ◌≢◌, ℕ, zero, suc, ◌+◌, ◌<◌, ◌≤◌, ◌==◌, Bool, true, false, cond, Option, Some, IsSome}
use Rattle.std.proofs.Common.{refl, sym, ap, ◌∙◌, subst, arith, inl, inr, ◌++◌, length, length-append}
use Rattle.node_tree.specs.Nodes.{Nodes, none, node, Branch, node_count, branch_count, tree_at}
use Rattle.node_tree.specs.Keys.{find, parent_of}
use Rattle.node_tree.specs.Seen.{Seen, seen_id}
use Rattle.node_tree.proofs.KeyLemmas.{stands-find, find-stands, found_key}
use Rattle.node_tree.proofs.ChangeLemmas.{child_of, held, Held}
use Rattle.client_views.specs.Views.{IsMirror}
use Rattle.front_mirror.specs.Panels.{without_place}
use Rattle.front_mirror.specs.Walks.{rank_of, count_first, walk_in}
use Rattle.front_mirror.specs.Shown.{known_at}
use Rattle.front_mirror.proofs.GrowLemmas.{rank-child}
use Rattle.front_mirror.proofs.ChildLemmas.{known-found}
use Rattle.front_mirror.proofs.OrderLemmas.{splits, walk-count, walk_in-count}

-- ---- how many nodes the first trees have

pub count_first-zero : (n : Nodes Seen) → count_first 0 n ≡ 0
count_first-zero none = refl
count_first-zero (node r c t) = refl

pub count_first-suc : (i : ℕ) (n : Nodes Seen) (b : Branch Seen) → tree_at i n ≡ Some b
    → count_first (suc i) n ≡ count_first i n + branch_count b
count_first-suc i none b e = absurd cc
count_first-suc zero (node r c t) b e =
    let same : ◌≡◌ {A = Branch Seen} (record { row = r; children = c }) b = cc in
    let k = count_first-zero t in
    let l : branch_count (record { row = r; children = c }) ≡ branch_count b = ap branch_count same in
    omega arith
count_first-suc (suc i) (node r c t) b e = let h = count_first-suc i t b e in omega arith

pub count-without : (i : ℕ) (n : Nodes Seen) → count_first i (without_place i n) ≡ count_first i n
count-without i none = refl
count-without zero (node r c t) = count_first-zero t
count-without (suc i) (node r c t) = let h = count-without i t in omega arith

pub nat_cases : (j i : ℕ) → (j < i) ⊎ (i ≤ j)
nat_cases zero zero = inr (omega arith)
nat_cases zero (suc i) = inl (omega arith)
nat_cases (suc j) zero = inr (omega arith)
nat_cases (suc j) (suc i) = elim (nat_cases j i) [ inl lt ↦ inl (omega arith) | inr ge ↦ inr (omega arith) ]

-- ---- a child

child-place : (x : ℕ) (n : Nodes Seen) (w : Branch Seen) → child_of seen_id x n ≡ Some w → (i : ℕ) × (tree_at i n ≡ Some w)
child-place x none w e = absurd cc
child-place x (node r c t) w e = at (r.id == x) (child-place x t w) e where
  at : (b : Bool) → (child_of seen_id x t ≡ Some w → (i : ℕ) × (tree_at i t ≡ Some w))
      → cond b (Some (record { row = r; children = c })) (child_of seen_id x t) ≡ Some w → (i : ℕ) × (tree_at i (node r c t) ≡ Some w)
  at true later f = (0, f)
  at false later f = let h = later f in (suc h.0, h.1)

module _ (id : ℕ) (n : Nodes Seen) (mirror : IsMirror n) (w : Branch Seen) (found : find seen_id id n ≡ Some w) where
  -- the node as a child of its parent
  pub record ChildOf (parent : ℕ) : Type 0 where
    pub holder : Branch Seen
    pub place : ℕ
    pub holds : find seen_id parent n ≡ Some holder
    pub there : tree_at place holder.children ≡ Some w
    pub rank : rank_of seen_id id n ≡ rank_of seen_id parent n + suc (count_first place holder.children)

  child_held : (parent : ℕ) → Held seen_id id 0 n w → parent_of seen_id id 0 n ≡ Some parent → ChildOf parent
  child_held parent h p =
      let both : ◌≡◌ {A = Option ℕ} (Some h.holder.row.id) (Some parent) = sym h.parent ∙ p in
      let same : h.holder.row.id ≡ parent = cc in
      let s = h.stands in
      let i = child-place id h.holder.children w h.child in
      let key : w.row.id ≡ id = found_key seen_id id n w found in
      let r = rank-child seen_id i.0 w i.1 s.2 mirror.view.ids in
      record {
        holder = h.holder;
        place = i.0;
        holds = subst (λ x. find seen_id x n ≡ Some h.holder) same (find-stands seen_id h.holder n s (mirror.view.ids h.holder.row.id));
        there = i.1;
        rank = subst (λ x. rank_of seen_id x n ≡ rank_of seen_id parent n + suc (count_first i.0 h.holder.children)) key
            (subst (λ x. rank_of seen_id w.row.id n ≡ rank_of seen_id x n + suc (count_first i.0 h.holder.children)) same r);
      }

  pub child_of_parent : (parent : ℕ) → parent_of seen_id id 0 n ≡ Some parent → parent ≢ 0 → ChildOf parent
  child_of_parent parent p other = elim (held seen_id id 0 n w found) [
    | inl top ↦
        let both : ◌≡◌ {A = Option ℕ} (Some 0) (Some parent) = sym top.1 ∙ p in
        let is : parent ≡ 0 = cc in
        absurd (other is)
    | inr h ↦ child_held parent h p
  ]

-- no rank is as great as the number of nodes
pub rank-less : (id : ℕ) (n : Nodes Seen) (mirror : IsMirror n) (b : Branch Seen) → find seen_id id n ≡ Some b
    → rank_of seen_id id n + branch_count b ≤ node_count n
rank-less id n mirror b found =
    let s = stands-find seen_id id n b found in
    let p = splits {X = Seen} (λ level r. r) 0 s.2 in
    let key = found_key seen_id id n b found in
    let rank : rank_of seen_id id n ≡ length p.front =
    subst (λ x. rank_of seen_id x n ≡ length p.front) key (p.ranked seen_id (mirror.view.ids b.row.id))
    in
    let all = walk-count {X = Seen} (λ level r. r) 0 n in
    let one = walk_in-count {X = Seen} (λ level r. r) (0 + s.0) b in
    let parts = ap length p.was in
    let l = length-append p.front (walk_in {X = Seen} (λ level r. r) (0 + s.0) b ++ p.rest) in
    let k = length-append (walk_in {X = Seen} (λ level r. r) (0 + s.0) b) p.rest in
    omega arith

-- the rank of the parent
module _ (id parent : ℕ) (n : Nodes Seen) (mirror : IsMirror n) (known : IsSome (find seen_id id n))
    (p : parent_of seen_id id 0 n ≡ Some parent) (other : parent ≢ 0) where
  child_here : ChildOf id n mirror (known_at id n) (known-found id n known) parent
  child_here = child_of_parent id n mirror (known_at id n) (known-found id n known) parent p other

  pub parent-known : IsSome (find seen_id parent n)
  parent-known = subst (λ o. IsSome o) (sym child_here.holds) refl

  pub parent-smaller : rank_of seen_id parent n < rank_of seen_id id n
  parent-smaller = let r = child_here.rank in omega arith

-- where a child of a known node ends
pub child_end : (id : ℕ) (n : Nodes Seen) (is : IsMirror n) (b w : Branch Seen) (i : ℕ) → find seen_id id n ≡ Some b
    → tree_at i b.children ≡ Some w
    → rank_of seen_id w.row.id n + branch_count w ≡ rank_of seen_id id n + suc (count_first (suc i) b.children)
child_end id n is b w i found child =
    let s = stands-find seen_id id n b found in
    let h = rank-child seen_id i w child s.2 is.view.ids in
    let k = found_key seen_id id n b found in
    let same : rank_of seen_id b.row.id n ≡ rank_of seen_id id n = ap (λ x. rank_of seen_id x n) k in
    let c = count_first-suc i b.children w child in
    omega arith
