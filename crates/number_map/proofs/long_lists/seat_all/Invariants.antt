-- The numbers that had seats have them.
use Rattle.std.proofs.Common.{ℕ, List}
use Rattle.number_map.specs.Places.{HasSeats}
use Rattle.number_map.proofs.long_lists.seat_all.Given as goal

abbrev pub invariant-loop-i : goal.invariant-loop-i
invariant-loop-i l = (ks : List ℕ) → HasSeats l.initial.seats ks → HasSeats l.seats ks
