-- The chunks up to a byte.
use Rattle.std.proofs.Common.{◌-◌, ◌≤◌, length, take}
use Rattle.panels.specs.Chunks.{AreChunks}
use Rattle.panels.proofs.chunks.chunks_of.Given as goal

abbrev pub invariant-loop-start : goal.invariant-loop-start
invariant-loop-start l = record {
  inside : l.start ≤ length l.bytes;
  cut : AreChunks (take l.start l.bytes) l.chunks.items;
}

abbrev pub decreases-loop-start : goal.decreases-loop-start
decreases-loop-start l = length l.bytes - l.start
