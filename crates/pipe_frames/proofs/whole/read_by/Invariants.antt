use Rattle.std.proofs.Common.{◌≡◌, ◌≤◌, ◌+◌, ◌-◌, length}
use Rattle.std.specs.Io.KnownBytes.{Consumes}
use Rattle.pipe_frames.proofs.whole.read_by.Given as goal

abbrev pub invariant-loop-all : goal.invariant-loop-all
invariant-loop-all g l = record {
  read : Consumes (g.S.Source.left l.initial.src) (g.S.Source.left l.src) l.all.items;
  within : length l.all.items ≤ l.limit + 1;
  same : g.S.Source.faults l.src ≡ g.S.Source.faults l.initial.src;
}

abbrev pub decreases-loop-all : goal.decreases-loop-all
decreases-loop-all g l = l.limit + 1 - length l.all.items
