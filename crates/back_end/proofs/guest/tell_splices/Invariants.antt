-- What is told and the splices that are left make up the whole.
use Rattle.std.proofs.Common.{◌≡◌, ◌++◌, drop}
use Rattle.back_end.specs.Guests.{changed_frames}
use Rattle.back_end.proofs.guest.tell_splices.Given as goal

abbrev pub invariant-loop-i : goal.invariant-loop-i
invariant-loop-i l = l.out.items ++ changed_frames l.css (drop l.i l.backs) ≡ l.initial.out.items ++ changed_frames l.css l.backs
