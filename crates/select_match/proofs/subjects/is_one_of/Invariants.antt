-- The pieces that are left give the same answer.
use Rattle.std.proofs.Common.{◌≡◌, drop, map}
use Rattle.std.specs.Str.{bytes_eq}
use Rattle.std.specs.List.{list_any}
use Rattle.select_match.proofs.subjects.is_one_of.Given as goal

abbrev pub invariant-loop-piece : goal.invariant-loop-piece
invariant-loop-piece l = list_any (λ w. bytes_eq w l.word) (map (λ p. p.now) (drop l.piece-index l.pieces))
    ≡ list_any (λ w. bytes_eq w l.word) (map (λ p. p.now) l.pieces)
