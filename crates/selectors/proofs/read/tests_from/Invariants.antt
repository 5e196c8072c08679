use Rattle.std.proofs.Common.{◌≤◌, length, map}
use Rattle.selectors.specs.Forms.{simple_seen}
use Rattle.selectors.specs.Parts.{with_front}
use Rattle.selectors.specs.Reading.{ends_compound, compound_item_at, tests_at}
use Rattle.selectors.proofs.PartForms.{IsRest}
use Rattle.selectors.proofs.read.tests_from.Given as goal

abbrev pub invariant-parts : goal.invariant-parts
invariant-parts l = record {
  rest : IsRest ends_compound compound_item_at (map simple_seen l.tests.items) l.element l.words
      (with_front (map simple_seen l.fn.tests.items) (tests_at l.first l.fn.words));
  shorter : length l.words.words ≤ length l.fn.words.words;
}

abbrev pub decreases-parts : goal.decreases-parts
decreases-parts l = length l.words.words
