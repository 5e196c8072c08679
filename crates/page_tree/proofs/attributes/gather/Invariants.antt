-- What is left of the pairs, put in order among the entries, gives the same answer.
use Rattle.std.proofs.Common.{◌≡◌, []}
use Rattle.page_tree.specs.Entries.{entry_pairs}
use Rattle.page_tree.specs.Loads.{in_order}
use Rattle.page_tree.proofs.attributes.gather.Given as goal

abbrev pub invariant-loop-name : goal.invariant-loop-name
invariant-loop-name l =
    (goal.iterator-loop-name).can_next l.name-iterator × (goal.iterator-loop-name).is_finite l.name-iterator
    × (in_order (entry_pairs l.entries.entries) l.name-iterator.rest.items ≡ in_order [] l.fn.pairs.items)
