-- How many edits a history keeps when one is noted, and how many lead back.
use Rattle.std.proofs.Common.{◌≡◌, ◌+◌, Bool, true, false, cond, List, [], ◌∷◌, length, length-append, refl, ap, arith}
use Rattle.undo_marks.specs.Marks.{Marks, entry_count, onto_newest, noted}
use Rattle.undo_marks.specs.Changes.{back_all}
use Rattle.undo_marks.specs.Saved.{Saved}
use Rattle.undo_marks.specs.SavedEdits.{page_after, way_back}
use Rattle.undo_marks.specs.declared.inverse_lists.Inverse.{Inverse}
