-- The numbers so far have seats.
use Rattle.std.proofs.Common.{take}
use Rattle.number_map.specs.Places.{HasSeats}
use Rattle.number_map.proofs.long_lists.seats_of.Given as goal

abbrev pub invariant-loop-i : goal.invariant-loop-i
invariant-loop-i l = HasSeats l.seats (take l.i l.numbers)
