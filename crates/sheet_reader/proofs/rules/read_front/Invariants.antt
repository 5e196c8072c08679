use Rattle.std.proofs.Common.{◌≡◌, All, length}
use Rattle.css_tokens.specs.Marks.{IsPieceOf}
use Rattle.sheet_reader.specs.Frames.{left_at_top, read_on}
use Rattle.sheet_reader.proofs.rules.read_front.Given as goal

abbrev pub invariant-parts : goal.invariant-parts
invariant-parts l = record {
  so_far : read_on l.text l.sheet (left_at_top l.left) ≡ read_on l.text l.fn.sheet (left_at_top l.pieces);
  each : All (IsPieceOf l.text) l.left;
}

abbrev pub decreases-parts : goal.decreases-parts
decreases-parts l = length l.left
