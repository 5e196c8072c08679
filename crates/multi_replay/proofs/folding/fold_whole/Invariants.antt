use Rattle.std.proofs.Common.{◌≡◌, length}
use Rattle.multi_replay.specs.Folds.{pair_folded, state_reads}
use Rattle.multi_replay.specs.Held.{pair_seen, AreReady, AreCounted}
use Rattle.multi_replay.proofs.folding.fold_whole.Given as goal

abbrev pub decreases-loop-frame : goal.decreases-loop-frame
decreases-loop-frame g l = length l.splitter.whole

abbrev pub invariant-loop-frame : goal.invariant-loop-frame
invariant-loop-frame g l = record {
  same : pair_folded state_reads (pair_seen l.pair) l.pair.taken l.splitter.whole
      ≡ pair_folded state_reads (pair_seen l.initial.pair) l.initial.pair.taken l.initial.splitter.whole;
  rest : l.splitter.rest ≡ l.initial.splitter.rest;
  ready : AreReady l.pair;
  counted : AreCounted l.pair.second;
}
