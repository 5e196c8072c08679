use Rattle.std.proofs.Common.{◌≡◌, ℕ, ◌-◌, ◌<◌, ◌≤◌, length}
use Rattle.std.specs.Str.{IsCharBoundary}
use Rattle.sheet_reader.specs.Positions.{position_of}
use Rattle.sheet_reader.proofs.marks.byte_from.Given as goal

abbrev pub invariant-loop-byte : goal.invariant-loop-byte
invariant-loop-byte l = record {
  within : l.byte ≤ length l.bytes;
  place : l.place ≡ position_of l.text l.byte;
  none_before : (k : ℕ) → k < l.byte → IsCharBoundary l.text k → position_of l.text k ≡ l.wanted → ⊥;
}

abbrev pub decreases-loop-byte : goal.decreases-loop-byte
decreases-loop-byte l = length l.bytes - l.byte
