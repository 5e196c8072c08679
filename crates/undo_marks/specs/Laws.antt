-- The law of histories.
use Rattle.std.specs.Prelude.{◌≡◌, Bool, true}
use Rattle.undo_marks.specs.Marks.{Marks}
use Rattle.undo_marks.specs.Changes.{HistoryEntry, AreBacks, KeepsOn, KeptFor}
use Rattle.undo_marks.specs.Saved.{Saved}
use Rattle.undo_marks.specs.declared.inverse_lists.Inverse.{Inverse}

-- the fact that a test passes
abbrev pub Passes : (Inverse → Saved → Bool) → Inverse → Saved → Type 0
Passes takes e page = takes e page ≡ true

-- Where more edits are taken, as when the next serial grows, edits kept for a history are kept for it still.
pub record GrowsOn (after : Inverse → Saved → Saved) (back : Inverse → Saved → Inverse) (takes more : Inverse → Saved → Bool) : Type 0 where
  pub kept_on : (kept : Marks Inverse) (m : Marks (HistoryEntry Saved Inverse)) (page : Saved)
      → KeptFor after back (Passes takes) kept m page → KeptFor after back (Passes more) kept m page

-- Whatever the page after an edit is, the edit that takes it back, and the test of which edits a page takes: where they keep
-- the three laws of `AreBacks`, edits kept for a history are kept for it after each change.
pub record HistoryLaw : Type 0 where
  pub keeps_on : (after : Inverse → Saved → Saved) (back : Inverse → Saved → Inverse) (takes : Inverse → Saved → Bool)
      → AreBacks after back (Passes takes) → KeepsOn after back (Passes takes)
  pub grows_on : (after : Inverse → Saved → Saved) (back : Inverse → Saved → Inverse) (takes more : Inverse → Saved → Bool)
      → ((e : Inverse) (page : Saved) → Passes takes e page → Passes more e page) → GrowsOn after back takes more
