-- The place from here on, and those before.
use Rattle.std.proofs.Common.{◌≡◌, ◌+◌, drop}
use Rattle.number_map.specs.Places.{number_place}
use Rattle.number_map.proofs.scans.scan.Given as goal

abbrev pub invariant-loop-i : goal.invariant-loop-i
invariant-loop-i l = number_place l.number l.numbers ≡ l.i + number_place l.number (drop l.i l.numbers)
