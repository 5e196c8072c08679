-- What is sent and the sheets that are left make up the whole.
use Rattle.std.proofs.Common.{◌≡◌, ◌++◌, map, drop}
use Rattle.client_views.specs.Moves.{dropped, frames_of_moves}
use Rattle.back_end.proofs.sheet_acts.tell_all_gone.Given as goal

abbrev pub invariant-loop-i : goal.invariant-loop-i
invariant-loop-i l = l.out.items ++ frames_of_moves (map (λ e. dropped e.id) (drop l.i l.book))
    ≡ l.initial.out.items ++ frames_of_moves (map (λ e. dropped e.id) l.book)
