-- What is left of the attributes gives the same answer.
use Rattle.std.proofs.Common.{◌≡◌}
use Rattle.std.specs.List.{list_any}
use Rattle.dom_search.specs.Found.{has_lowered, pair_texts}
use Rattle.dom_search.proofs.texts.has_pair.Given as goal

abbrev pub invariant-loop-name : goal.invariant-loop-name
invariant-loop-name l = list_any (has_lowered l.part) (pair_texts l.name-iterator)
    ≡ list_any (has_lowered l.part) (pair_texts l.node.branch.row.label.attributes)
