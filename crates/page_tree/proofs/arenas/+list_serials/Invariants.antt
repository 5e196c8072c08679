-- What is listed, with what is left of the trees, is all.
use Rattle.std.proofs.Common.{◌≡◌, ◌+◌, ℕ, vec_len, drop}
use Rattle.node_tree.specs.Nodes.{nodes_of, node_count}
use Rattle.node_tree.specs.Keys.{tally}
use Rattle.page_tree.specs.Pages.{row_serial}
use Rattle.page_tree.specs.Arenas.{listed}
use Rattle.page_tree.proofs.arenas.+list_serials.Given as goal

abbrev pub invariant-loop-tree : goal.invariant-loop-tree
invariant-loop-tree l =
    ((x : ℕ) → listed x l.serials.items + tally row_serial x (nodes_of (drop l.tree-index l.trees))
    ≡ listed x l.initial.serials.items + tally row_serial x (nodes_of l.trees))
    × (vec_len l.serials + node_count (nodes_of (drop l.tree-index l.trees)) ≡ vec_len l.initial.serials + node_count (nodes_of l.trees))
