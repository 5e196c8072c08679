-- What is left of the text gives the same answer.
use Rattle.std.proofs.Common.{◌≡◌, drop}
use Rattle.select_match.specs.Texts.{has_part}
use Rattle.select_match.proofs.texts.has_part.Given as goal

abbrev pub invariant-loop-i : goal.invariant-loop-i
invariant-loop-i l = has_part l.part (drop l.i l.text) ≡ has_part l.part l.text
