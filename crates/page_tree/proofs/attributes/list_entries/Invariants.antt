-- The pairs so far, and then what is left of the entries, are the entries.
use Rattle.std.proofs.Common.{◌≡◌, ◌++◌}
use Rattle.page_tree.specs.Entries.{entry_pairs}
use Rattle.page_tree.proofs.attributes.list_entries.Given as goal

abbrev pub invariant-loop-name : goal.invariant-loop-name
invariant-loop-name l =
    (goal.iterator-loop-name).can_next l.name-iterator × (goal.iterator-loop-name).is_finite l.name-iterator
    × (l.pairs.items ++ entry_pairs l.name-iterator ≡ entry_pairs l.fn.entries.entries)
