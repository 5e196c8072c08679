-- How far the edits have come.
use Rattle.back_end.proofs.UndoSeats.{Way}
use Rattle.back_end.proofs.GuestUndo.{HeardWay}
use Rattle.back_end.proofs.desk.Desk.apply_all.Given as goal

abbrev pub invariant-loop-edit : goal.invariant-loop-edit
invariant-loop-edit l =
    (goal.iterator-loop-edit).can_next l.edit-iterator × (goal.iterator-loop-edit).is_finite l.edit-iterator
    × Way l.fn.edits.items l.edit-iterator.rest.items l.fn.self l.self l.fn.side l.side l.backs.items l.fn.out.items l.out.items
    × HeardWay l.fn.edits.items l.edit-iterator.rest.items l.fn.guest l.guest l.fn.side l.side
