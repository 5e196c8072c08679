use Rattle.std.proofs.Common.{◌≡◌, ◌++◌, length, All}
use Rattle.css_tokens.specs.Pieces.{pieces}
use Rattle.css_tokens.specs.Marks.{IsPieceOf}
use Rattle.css_tokens.proofs.tokens.all_tokens.Given as goal

abbrev pub invariant-loop-token : goal.invariant-loop-token
invariant-loop-token l = record {
  text : l.tokens.text ≡ l.text;
  so_far : l.all.items ++ l.tokens.left ≡ pieces l.text;
  each : All (IsPieceOf l.text) l.all.items;
}

abbrev pub decreases-loop-token : goal.decreases-loop-token
decreases-loop-token l = length l.tokens.left
