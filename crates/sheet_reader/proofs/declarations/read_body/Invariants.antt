use Rattle.std.proofs.Common.{◌≡◌, ◌++◌, All, length}
use Rattle.css_tokens.specs.Marks.{IsPieceOf}
use Rattle.sheet_reader.specs.Declarations.{declarations}
use Rattle.sheet_reader.proofs.declarations.read_body.Given as goal

abbrev pub invariant-items : goal.invariant-items
invariant-items l = record {
  so_far : l.properties.items ++ declarations l.text l.left ≡ declarations l.text l.body;
  each : All (IsPieceOf l.text) l.left;
}

abbrev pub decreases-items : goal.decreases-items
decreases-items l = length l.left
