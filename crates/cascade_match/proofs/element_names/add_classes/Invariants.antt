-- The numbers so far and those of the pieces that are left make up the whole.
use Rattle.std.proofs.Common.{◌≡◌, ◌++◌, map, drop}
use Rattle.sheet_reader.specs.declared.filings.NameKind.TheVariants as kinds
use Rattle.sheet_reader.specs.Filings.{name_digest}
use Rattle.cascade_match.proofs.element_names.add_classes.Given as goal

abbrev pub invariant-loop-piece : goal.invariant-loop-piece
invariant-loop-piece l = l.digests.items ++ map (name_digest kinds.Class) (map (λ w. w.now) (drop l.piece-index l.pieces))
    ≡ l.initial.digests.items ++ map (name_digest kinds.Class) (map (λ w. w.now) l.pieces)
