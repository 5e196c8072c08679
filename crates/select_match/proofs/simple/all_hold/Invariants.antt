-- The tests that are left give the same answer.
use Rattle.std.proofs.Common.{◌≡◌, drop, map}
use Rattle.std.specs.List.{list_all}
use Rattle.selectors.specs.Forms.{simple_seen}
use Rattle.select_match.specs.Matches.{simple_holds}
use Rattle.select_match.proofs.simple.all_hold.Given as goal

abbrev pub invariant-loop-simple : goal.invariant-loop-simple
invariant-loop-simple l = list_all (λ s. simple_holds s l.node) (map simple_seen (drop l.simple-index l.tests))
    ≡ list_all (λ s. simple_holds s l.node) (map simple_seen l.tests)
