-- Among the pieces that are left is the one that is found among all.
use Rattle.std.proofs.Common.{◌≡◌, drop}
use Rattle.std.specs.List.{find}
use Rattle.sheet_reader.specs.Preludes.{ends_keyword}
use Rattle.style_edits.proofs.media_edits.keyword_before.Given as goal

abbrev pub invariant-loop-piece : goal.invariant-loop-piece
invariant-loop-piece l = find (ends_keyword l.place) (drop l.piece-index l.pieces) ≡ find (ends_keyword l.place) l.pieces
