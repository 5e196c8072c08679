-- Children of known nodes, each known under its own id.
use Rattle.std.proofs.Common.{◌≡◌, ℕ, zero, suc, ◌≤◌, Option, Some, None, IsSome, refl, sym, ap, subst, arith, option_map, unwrap_or}
use Rattle.node_tree.specs.Nodes.{Nodes, none, node, Branch, node_count, branch_count, tree_at}
use Rattle.node_tree.specs.Keys.{find}
use Rattle.node_tree.specs.Seen.{Seen, seen_id}
use Rattle.node_tree.proofs.KeyLemmas.{find-child}
use Rattle.client_views.specs.Views.{IsMirror}
use Rattle.front_mirror.specs.Shown.{known_at, no_node}

pub tree-count : {R : Type 0} (i : ℕ) (n : Nodes R) (b : Branch R) → tree_at i n ≡ Some b → branch_count b ≤ node_count n
tree-count i none b e = absurd cc
tree-count {R} zero (node r c t) b e =
    let same : ◌≡◌ {A = Branch R} (record { row = r; children = c }) b = cc in
    let k : branch_count (record { row = r; children = c }) ≡ branch_count b = ap branch_count same in
    omega arith
tree-count (suc i) (node r c t) b e = let h = tree-count i t b e in omega arith

-- what is known is found
pub known-found : (id : ℕ) (n : Nodes Seen) → IsSome (find seen_id id n) → find seen_id id n ≡ Some (known_at id n)
known-found id n known = at (find seen_id id n) known where
  at : (o : Option (Branch Seen)) → IsSome o → o ≡ Some (unwrap_or o no_node)
  at (Some b) k = refl
  at None k = absurd cc

-- the child at a place is known
pub record ChildFound (id child i : ℕ) (n : Nodes Seen) : Type 0 where
  pub tree : Branch Seen
  pub there : tree_at i (known_at id n).children ≡ Some tree
  pub found : find seen_id child n ≡ Some tree

pub child_found : (id child i : ℕ) (n : Nodes Seen) → IsMirror n → IsSome (find seen_id id n)
    → Some child ≡ option_map (λ (b : Branch Seen). b.row.id) (tree_at i (known_at id n).children) → ChildFound id child i n
child_found id child i n mirror known e = at (tree_at i (known_at id n).children) refl e where
  at : (o : Option (Branch Seen)) → tree_at i (known_at id n).children ≡ o → Some child ≡ option_map (λ (b : Branch Seen). b.row.id) o
      → ChildFound id child i n
  at None t e = absurd cc
  at (Some b) t e =
      let same : b.row.id ≡ child = cc in
      record {
        tree = b;
        there = t;
        found = subst (λ x. find seen_id x n ≡ Some b) same
            (find-child seen_id n mirror.view.ids id (known_at id n) (known-found id n known) i b t);
      }

module _ (id child i : ℕ) (n : Nodes Seen) (f : ChildFound id child i n) where
  pub child_known : IsSome (find seen_id child n)
  child_known = subst (λ o. IsSome o) (sym f.found) refl

  pub child_is : known_at child n ≡ f.tree
  child_is = rw f.found refl
