-- The units of the bytes so far, of which each has two at most.
use Rattle.std.proofs.Common.{◌≡◌, ◌*◌, ◌≤◌, take}
use Rattle.std.specs.List.{sum_by}
use Rattle.sheet_reader.specs.Positions.{units_at}
use Rattle.css_agent.proofs.units.units_in.Given as goal

abbrev pub invariant-loop-byte : goal.invariant-loop-byte
invariant-loop-byte l = record {
  value : l.units ≡ sum_by units_at (take l.byte-index l.text);
  few : l.units ≤ 2 * l.byte-index;
}
