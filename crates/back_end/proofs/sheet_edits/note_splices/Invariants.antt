-- What is left, noted after what was, is all of it noted.
use Rattle.std.proofs.Common.{◌≡◌, ◌+◌, ◌≤◌, length, map}
use Rattle.undo_marks.specs.Marks.{entry_count, noted_singly}
use Rattle.undo_marks.specs.declared.inverse_lists.Inverse.TheVariants as kept
use Rattle.back_end.proofs.sheet_edits.note_splices.Given as goal

abbrev pub invariant-loop-back : goal.invariant-loop-back
invariant-loop-back l =
    (goal.iterator-loop-back).can_next l.back-iterator × (goal.iterator-loop-back).is_finite l.back-iterator
    × (noted_singly (map (λ s. kept.Sheet s) l.back-iterator.rest.items) l.history
    ≡ noted_singly (map (λ s. kept.Sheet s) l.fn.backs.items) l.fn.history)
    × (entry_count l.history.past + length l.back-iterator.rest.items ≤ entry_count l.fn.history.past + length l.fn.backs.items)
