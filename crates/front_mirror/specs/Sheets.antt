-- The sheets that a front was told of.
use Rattle.std.specs.Prelude.{◌≡◌, ℕ, ◌==◌, ◌||◌, ◌&&◌, Bool, true, false, not, cond, List, [], ◌∷◌, Some, None, is_some}
use Rattle.css_objects.specs.declared.sheets.Header.{Header}
use Rattle.front_mirror.specs.declared.sheets.KnownSheet.{KnownSheet}

-- a sheet that is told of: its text is not known yet
abbrev pub told_sheet : Header → KnownSheet
told_sheet h = record { number = h.sheet; origin = h.origin; text = None; stale = true }

-- the sheet, with its text marked as old
abbrev pub stale_sheet : KnownSheet → KnownSheet
stale_sheet s = record s { stale = true }

-- the sheet with this text, which is not old
abbrev pub fresh_sheet : List ℕ → KnownSheet → KnownSheet
fresh_sheet text s = record { number = s.number; origin = s.origin; text = Some text; stale = false }

-- some sheet has the number
abbrev pub has_sheet : ℕ → List KnownSheet → Bool
has_sheet n [] = false
has_sheet n (s ∷ ss) = s.number == n || has_sheet n ss

-- the sheets, with the first of that number changed
abbrev pub sheet_changed_at : (KnownSheet → KnownSheet) → ℕ → List KnownSheet → List KnownSheet
sheet_changed_at change n [] = []
sheet_changed_at change n (s ∷ ss) = cond (s.number == n) (change s ∷ ss) (s ∷ sheet_changed_at change n ss)

-- the sheets, with the text of the first of that number marked as old
abbrev pub marked_old : ℕ → List KnownSheet → List KnownSheet
marked_old n ss = sheet_changed_at stale_sheet n ss

-- the sheets, where the first of that number has this text, if one has the number
abbrev pub with_fetched : ℕ → List ℕ → List KnownSheet → List KnownSheet
with_fetched n text ss = sheet_changed_at (fresh_sheet text) n ss

-- the sheets without the first of that number
abbrev pub without_sheet : ℕ → List KnownSheet → List KnownSheet
without_sheet n [] = []
without_sheet n (s ∷ ss) = cond (s.number == n) ss (s ∷ without_sheet n ss)

-- the sheet has a text that is not old
abbrev pub has_fresh_text : KnownSheet → Bool
has_fresh_text s = is_some s.text && not s.stale

-- the numbers of the sheets without such a text, in their order
abbrev pub stale_of : List KnownSheet → List ℕ
stale_of [] = []
stale_of (s ∷ ss) = cond (has_fresh_text s) (stale_of ss) (s.number ∷ stale_of ss)

-- a map's entries as sheets, in their order
abbrev pub sheets_in : List (ℕ × KnownSheet) → List KnownSheet
sheets_in [] = []
sheets_in (p ∷ ps) = p.1 ∷ sheets_in ps

-- each sheet of a map stands under its own number
abbrev pub AreNumbered : List (ℕ × KnownSheet) → Type 0
AreNumbered [] = Unit {0}
AreNumbered (p ∷ ps) = (p.0 ≡ p.1.number) × AreNumbered ps
