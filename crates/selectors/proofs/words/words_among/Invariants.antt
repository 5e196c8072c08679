use Rattle.std.proofs.Common.{◌≡◌, ◌++◌, drop, false}
use Rattle.std.specs.List.{AllByRecursion}
use Rattle.selectors.specs.Words.{words_after, IsWordOf}
use Rattle.selectors.proofs.words.words_among.Given as goal

abbrev pub invariant-loop-piece : goal.invariant-loop-piece
invariant-loop-piece l = record {
  so_far : l.words.items ++ words_after l.text l.spaced (drop l.piece-index l.pieces) ≡ words_after l.text false l.pieces;
  each : AllByRecursion (IsWordOf l.text) l.words.items;
}
