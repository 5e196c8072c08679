use Rattle.std.proofs.Common.{sym, arith}
use Rattle.node_tree.specs.Levels.{most_told}
use Rattle.node_binding.proofs.PieceLemmas.{smaller-less, smaller-more}
use Rattle.node_binding.proofs.pieces.smaller.Goals as goal

pub returns-then-d-lt-MOST_TOLD : goal.returns-then-d-lt-MOST_TOLD
returns-then-d-lt-MOST_TOLD c = sym (smaller-less most_told c.args.d (omega (arith, c.if-d-lt-MOST_TOLD.true)))

pub returns-else-d-lt-MOST_TOLD : goal.returns-else-d-lt-MOST_TOLD
returns-else-d-lt-MOST_TOLD c = sym (smaller-more most_told c.args.d (omega (arith, c.if-d-lt-MOST_TOLD.false)))
