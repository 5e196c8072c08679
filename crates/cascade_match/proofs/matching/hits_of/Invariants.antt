-- The hits so far and those that are left make up the whole.
use Rattle.std.proofs.Common.{◌≡◌, ◌++◌, map}
use Rattle.cascade_match.proofs.matching.hits_of.Given as goal

abbrev pub invariant-loop-entry : goal.invariant-loop-entry
invariant-loop-entry l = l.hits.items ++ map (λ e. e.1) l.entry-iterator ≡ map (λ e. e.1) l.fn.found.entries
