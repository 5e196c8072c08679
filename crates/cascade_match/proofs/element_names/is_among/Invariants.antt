-- The numbers that are left give the same answer.
use Rattle.std.proofs.Common.{◌≡◌, ◌==◌, drop}
use Rattle.std.specs.List.{list_any}
use Rattle.cascade_match.proofs.element_names.is_among.Given as goal

abbrev pub invariant-loop-other : goal.invariant-loop-other
invariant-loop-other l = list_any (λ d. d == l.digest) (drop l.other-index l.digests) ≡ list_any (λ d. d == l.digest) l.digests
