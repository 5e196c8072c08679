-- What is left of the text gives the same answer.
use Rattle.std.proofs.Common.{◌≡◌, drop}
use Rattle.dom_search.specs.Found.{has_lowered}
use Rattle.dom_search.proofs.texts.has_lowered.Given as goal

abbrev pub invariant-loop-i : goal.invariant-loop-i
invariant-loop-i l = has_lowered l.part (drop l.i l.text) ≡ has_lowered l.part l.text
