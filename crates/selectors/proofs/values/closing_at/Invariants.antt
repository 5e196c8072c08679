use Rattle.std.proofs.Common.{◌≡◌, ◌≤◌, length}
use Rattle.selectors.specs.Reading.{closing_at}
use Rattle.selectors.proofs.values.closing_at.Given as goal

abbrev pub invariant-loop-word : goal.invariant-loop-word
invariant-loop-word l = record {
  rest : closing_at l.words ≡ closing_at l.fn.words;
  shorter : length l.words.words ≤ length l.fn.words.words;
}

abbrev pub decreases-loop-word : goal.decreases-loop-word
decreases-loop-word l = length l.words.words
