use Rattle.std.proofs.Common.{◌≤◌, length, map}
use Rattle.selectors.specs.Forms.{compound_seen}
use Rattle.selectors.specs.Parts.{with_front}
use Rattle.selectors.specs.Reading.{ends_selector, joined_at, compounds_at}
use Rattle.selectors.proofs.PartForms.{IsRest}
use Rattle.selectors.proofs.read.compounds_from.Given as goal

abbrev pub invariant-compounds : goal.invariant-compounds
invariant-compounds l = record {
  rest : IsRest ends_selector joined_at (map compound_seen l.compounds.items) l.element l.words
      (with_front (map compound_seen l.fn.compounds.items) (compounds_at l.first l.fn.words));
  shorter : length l.words.words ≤ length l.fn.words.words;
}

abbrev pub decreases-compounds : goal.decreases-compounds
decreases-compounds l = length l.words.words
