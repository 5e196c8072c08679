use Rattle.std.proofs.Common.{◌≡◌, ◌++◌, length}
use Rattle.std.specs.List.{AllByRecursion}
use Rattle.selectors.specs.Words.{words_after, words_of, IsWordOf}
use Rattle.selectors.proofs.words.all_words.Given as goal

abbrev pub invariant-loop-token : goal.invariant-loop-token
invariant-loop-token l = record {
  text : l.tokens.text ≡ l.text;
  so_far : l.words.items ++ words_after l.text l.spaced l.tokens.left ≡ words_of l.text;
  each : AllByRecursion (IsWordOf l.text) l.words.items;
}

abbrev pub decreases-loop-token : goal.decreases-loop-token
decreases-loop-token l = length l.tokens.left
