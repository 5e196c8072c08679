-- How many nodes stand at and below each node, kept in a map by its key.
use Rattle.std.specs.Prelude.{List, [], ◌∷◌, ◌≡◌, ℕ, suc, ◌+◌, ◌-◌, ◌<◌, ◌≤◌, ◌==◌, ◌||◌, cond, Bool}
use Rattle.std.specs.Prelude.{Option, Some, option_map, IsSome, IfSome}
use Rattle.node_tree.specs.Nodes.{Nodes, none, node, Branch, node_count, branch_count}
use Rattle.node_tree.specs.Keys.{At, here, within, past, find, tally}
use Rattle.node_tree.specs.Numbers.{number_limit, counted_limit}
use Rattle.node_tree.specs.Levels.{most_levels}
use Rattle.node_tree.specs.Seen.{Seen, seen_id}
use Rattle.std.specs.Ordering.{nat_cmp}
use Rattle.std.specs.FinMap as numbers
use Rattle.client_views.specs.Views.{keys}
use Rattle.front_mirror.specs.declared.edits.NodeChange.{NodeChange}
use Rattle.front_mirror.specs.declared.edits.NodeChange.TheVariants as edit
use Rattle.front_mirror.specs.declared.table.Table.{Table}
use Rattle.front_mirror.specs.Tables.{with_entry, table_trees, tree_in, KeepsMirror}
use Rattle.front_mirror.specs.Walks.{rank_of}

-- under the key of each node stands how many nodes there are at and below it
abbrev pub IsCounted : {R : Type 0} → (R → ℕ) → (ℕ → Option ℕ) → Nodes R → Type 0
IsCounted {R} key counts n = (k : ℕ) (b : Branch R) → find key k n ≡ Some b → counts k ≡ Some (branch_count b)

-- the numbers after these trees came in, each node's under its key
abbrev pub noted : {R : Type 0} → (R → ℕ) → Nodes R → (ℕ → Option ℕ) → ℕ → Option ℕ
noted key none counts = counts
noted key (node r c t) counts = noted key t (with_entry (key r) (Some (suc (node_count c))) (noted key c counts))

-- the key is that of the changed node, or of one above it
abbrev pub on_path : {R : Type 0} → (R → ℕ) → ℕ → {old new : Branch R} {depth : ℕ} {n m : Nodes R} → At old new depth n m → Bool
on_path key k {old = o} (here t) = key o.row == k
on_path key k (within depth r c m t e) = key r == k || on_path key k e
on_path key k (past depth r c t m e) = on_path key k e

-- the numbers under these keys became what f makes of them, and the others stay
abbrev pub BecomesOn : (ℕ → Bool) → (ℕ → ℕ) → (ℕ → Option ℕ) → (ℕ → Option ℕ) → Type 0
BecomesOn on f old new = (k : ℕ) → new k ≡ cond (on k) (option_map f (old k)) (old k)

-- so many more and so many fewer
abbrev pub shifted : ℕ → ℕ → ℕ → ℕ
shifted more fewer x = x + more - fewer

-- no node has an id that a message cannot carry
abbrev pub HasLowIds : Nodes Seen → Type 0
HasLowIds n = (x : ℕ) → counted_limit ≤ x → tally seen_id x n ≡ 0

-- the number of each node up to the one of that id, in document order, can be so many more
abbrev pub HasRoomUpTo : ℕ → ℕ → (ℕ → Option ℕ) → Nodes Seen → Type 0
HasRoomUpTo id more counts n = (k : ℕ) → IsSome (find seen_id k n) → rank_of seen_id k n ≤ rank_of seen_id id n
    → IfSome (counts k) (λ count. count + more < number_limit)

-- the nodes of a table that leave with an edit
abbrev pub leaving_trees : Table → NodeChange → Nodes Seen
leaving_trees t (edit.Show nodes) = none
leaving_trees t (edit.Insert previous tree) = none
leaving_trees t (edit.Remove id) = table_trees t most_levels (id ∷ [])
leaving_trees t (edit.Count count) = none
leaving_trees t (edit.SetAttribute name value) = none
leaving_trees t (edit.DropAttribute name) = none
leaving_trees t (edit.SetValue value) = none

-- The table of a mirror keeps its tree, whose ids came in messages; the map has its numbers, and the list its ids in document order.
pub record KeepsCounted (t : Table) (roots : List ℕ) (counts : numbers.FinMap nat_cmp ℕ) (order : List ℕ) : Type 0 where
  pub kept : KeepsMirror t roots
  pub counted : IsCounted seen_id (numbers.get counts) (tree_in t roots)
  pub low : HasLowIds (tree_in t roots)
  pub ordered : order ≡ keys seen_id (tree_in t roots)
