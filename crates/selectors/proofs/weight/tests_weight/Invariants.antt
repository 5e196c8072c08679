use Rattle.std.proofs.Common.{◌≡◌, map, take}
use Rattle.selectors.specs.Forms.{simple_seen}
use Rattle.selectors.specs.Weight.{ids, classes, types, in_tests, spec_of}
use Rattle.selectors.proofs.weight.tests_weight.Given as goal

abbrev pub invariant-loop-simple : goal.invariant-loop-simple
invariant-loop-simple l = let ts = map simple_seen (take l.simple-index l.tests) in l.total
    ≡ spec_of (in_tests ids ts) (in_tests classes ts) (in_tests types ts)
