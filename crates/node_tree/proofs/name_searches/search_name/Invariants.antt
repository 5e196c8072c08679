-- The names so far are before the one that is looked for.
use Rattle.std.proofs.Common.{◌≡◌, drop}
use Rattle.node_tree.specs.Searches.{shifted, search_name}
use Rattle.node_tree.proofs.name_searches.search_name.Given as goal

abbrev pub invariant-loop-i : goal.invariant-loop-i
invariant-loop-i l = search_name l.name l.pairs ≡ shifted l.i (search_name l.name (drop l.i l.pairs))
