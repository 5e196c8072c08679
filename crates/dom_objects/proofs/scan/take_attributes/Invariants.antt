use Rattle.std.proofs.Common.{length}
use Rattle.dom_objects.proofs.TokenLists.{pair_tokens}
use Rattle.dom_objects.proofs.ScannedTokens.{IsRead}
use Rattle.dom_objects.proofs.scan.take_attributes.Given as goal

abbrev pub invariant-pairs : goal.invariant-pairs
invariant-pairs l = IsRead pair_tokens l.fn.reader l.pairs l.reader

abbrev pub decreases-pairs : goal.decreases-pairs
decreases-pairs l = length l.reader
