-- What is left of the forms gives the same answer.
use Rattle.std.proofs.Common.{◌≡◌, drop}
use Rattle.node_tree.specs.Nodes.{nodes_of}
use Rattle.page_tree.specs.Forms.{are_named}
use Rattle.page_tree.proofs.limits.+are_named.Given as goal

abbrev pub decreases-are_named : goal.decreases-are_named
decreases-are_named l = goal.size-are_named l

abbrev pub invariant-loop-form : goal.invariant-loop-form
invariant-loop-form l = are_named (nodes_of (drop l.form-index l.forms)) ≡ are_named (nodes_of l.forms)
