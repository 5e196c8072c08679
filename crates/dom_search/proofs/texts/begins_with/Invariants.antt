-- What is left of the text begins with what is left of the part.
use Rattle.std.proofs.Common.{◌≡◌, nat_eq, drop}
use Rattle.std.specs.List.{starts_with}
use Rattle.dom_search.specs.Found.{lowered}
use Rattle.dom_search.proofs.texts.begins_with.Given as goal

abbrev pub invariant-loop-i : goal.invariant-loop-i
invariant-loop-i l = starts_with nat_eq (lowered (drop l.i l.text)) (drop l.i l.part) ≡ starts_with nat_eq (lowered l.text) l.part
