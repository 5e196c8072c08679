-- The trees so far, with what is left numbered from the next serial on, are the forms numbered.
use Rattle.std.proofs.Common.{◌≡◌, ◌+◌, ◌<◌, ◌≤◌, ◌^◌}
use Rattle.node_tree.specs.Nodes.{nodes_of, node_count, beside}
use Rattle.page_tree.specs.Pages.{numbered}
use Rattle.page_tree.proofs.numbering.+number_all.Given as goal

abbrev pub decreases-number_all : goal.decreases-number_all
decreases-number_all l = node_count (nodes_of l.forms.items)

abbrev pub invariant-loop-form : goal.invariant-loop-form
invariant-loop-form l =
    let rest = nodes_of l.form-iterator.rest.items in
    (goal.iterator-loop-form).can_next l.form-iterator × (goal.iterator-loop-form).is_finite l.form-iterator
    × (l.fn.first + node_count (nodes_of l.fn.forms.items) < 2 ^ 64)
    × (l.next + node_count rest ≡ l.fn.first + node_count (nodes_of l.fn.forms.items))
    × (beside (nodes_of l.trees.items) (numbered l.next rest) ≡ numbered l.fn.first (nodes_of l.fn.forms.items))
    × (node_count rest ≤ node_count (nodes_of l.fn.forms.items))
