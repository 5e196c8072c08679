-- Histories by saved pages, over any pages and edits: P is a page, E an edit, `after` gives the page after an edit, `back`
-- the edit that takes it back, and `Takes` says that a page takes an edit without a fault.
use Rattle.std.specs.Prelude.{◌≡◌, true, List, [], ◌∷◌, map, reverse, Some, None}
use Rattle.undo_marks.specs.Marks.{Marks, no_marks, handed_out, noted, noted_singly, edited, marked, crossed_over, undone, redone}
use Rattle.undo_marks.specs.Marks.{past_popped, future_popped, past_pushed, future_pushed}

-- an entry of a history: the page before an edit, the edit, and the page after it
pub record HistoryEntry (P E : Type 0) : Type 0 where
  pub before : P
  pub edit : E
  pub after : P

module _ {P E : Type 0} where
  -- the pages saved on the way through a group, from its start to its end
  abbrev pub saved_after : List (HistoryEntry P E) → List P
  saved_after g = map (λ e. e.after) g

  -- the pages saved before the entries of a group, from its end to its start
  abbrev pub saved_before : List (HistoryEntry P E) → List P
  saved_before g = reverse (map (λ e. e.before) g)

  -- the page saved before the first entry of a group; where there is none, the page as it is
  abbrev pub start_of : List (HistoryEntry P E) → P → P
  start_of [] page = page
  start_of (e ∷ es) page = e.before

  -- the page saved after its last entry
  abbrev pub end_of : List (HistoryEntry P E) → P → P
  end_of [] page = page
  end_of (e ∷ es) page = end_of es e.after

  -- the page that an undo leads to
  abbrev pub page_undone : List (List (HistoryEntry P E)) → P → P
  page_undone [] page = page
  page_undone (g ∷ gs) page = start_of g page

  -- the page that a redo leads to
  abbrev pub page_redone : List (List (HistoryEntry P E)) → P → P
  page_redone [] page = page
  page_redone (g ∷ gs) page = end_of g page

  -- the pages that an undo leads through
  abbrev pub pages_undone : List (List (HistoryEntry P E)) → List P
  pages_undone [] = []
  pages_undone (g ∷ gs) = saved_before g

  -- the pages that a redo leads through
  abbrev pub pages_redone : List (List (HistoryEntry P E)) → List P
  pages_redone [] = []
  pages_redone (g ∷ gs) = saved_after g

-- ---- runs of edits

module _ {P E : Type 0} (after : E → P → P) where
  -- the page after the edits, in order
  abbrev pub after_all : List E → P → P
  after_all [] page = page
  after_all (e ∷ es) page = after_all es (after e page)

  -- the page after each of them
  abbrev pub pages_on : List E → P → List P
  pages_on [] page = []
  pages_on (e ∷ es) page = after e page ∷ pages_on es (after e page)

  -- the entry that an edit makes
  abbrev pub change_on : E → P → HistoryEntry P E
  change_on e page = record { before = page; edit = e; after = after e page }

  -- the entries of several edits, one after the other
  abbrev pub changes_on : List E → P → List (HistoryEntry P E)
  changes_on [] page = []
  changes_on (e ∷ es) page = change_on e page ∷ changes_on es (after e page)

module _ {P E : Type 0} (after : E → P → P) (back : E → P → E) where
  -- the inverses that they give, in order
  abbrev pub back_all : List E → P → List E
  back_all [] page = []
  back_all (e ∷ es) page = back e page ∷ back_all es (after e page)

module _ {P E : Type 0} (after : E → P → P) (Takes : E → P → Type 0) where
  -- none of the edits meets a fault, each on the page that the ones before it left
  abbrev pub AllTaken : List E → P → Type 0
  AllTaken [] page = Unit {0}
  AllTaken (e ∷ es) page = Takes e page × AllTaken es (after e page)

  -- the page saved after the edit is what the edit makes of the page saved before it, which takes it
  pub record IsChange (e : HistoryEntry P E) : Type 0 where
    pub taken : Takes e.edit e.before
    pub made : after e.edit e.before ≡ e.after

  -- the entries lead from the one page to the other
  abbrev pub LeadsOn : P → List (HistoryEntry P E) → P → Type 0
  LeadsOn page [] end = page ≡ end
  LeadsOn page (e ∷ es) end = (e.before ≡ page) × IsChange e × LeadsOn e.after es end

  -- the groups lead to this page, the newest last; each has an entry
  abbrev pub LeadHere : List (List (HistoryEntry P E)) → P → Type 0
  LeadHere [] page = Unit {0}
  LeadHere ([] ∷ gs) page = ⊥
  LeadHere ((e ∷ es) ∷ gs) page = LeadsOn e.before (e ∷ es) page × LeadHere gs e.before

  -- the groups lead on from this page, the first of them first; each has an entry
  abbrev pub LeadFrom : List (List (HistoryEntry P E)) → P → Type 0
  LeadFrom [] page = Unit {0}
  LeadFrom ([] ∷ gs) page = ⊥
  LeadFrom ((e ∷ es) ∷ gs) page = LeadsOn page (e ∷ es) (end_of es e.after) × LeadFrom gs (end_of es e.after)

  -- a history whose page this is
  pub record IsHistory (m : Marks (HistoryEntry P E)) (page : P) : Type 0 where
    pub past : LeadHere m.past page
    pub future : LeadFrom m.future page
    pub going : m.going ≡ true → m.past ≡ [] → ⊥

-- ---- what is kept in place of the pages

module _ {P E : Type 0} (back : E → P → E) where
  -- of a group of the past the inverses, in the order of its entries
  abbrev pub backs_of : List (HistoryEntry P E) → List E
  backs_of g = map (λ e. back e.edit e.before) g

  -- the edits of a group of the future, in the order in which they are made again
  abbrev pub again_of : List (HistoryEntry P E) → List E
  again_of g = reverse (map (λ e. e.edit) g)

  -- what is kept of the history that is promised
  abbrev pub kept_of : Marks (HistoryEntry P E) → Marks E
  kept_of m = record { past = map backs_of m.past; future = map again_of m.future; going = m.going; crossed = m.crossed }

module _ {P E : Type 0} (after : E → P → P) (back : E → P → E) (Takes : E → P → Type 0) where
  -- The edits kept are those of the history that is promised, and so they lead through its saved pages; the flags are equal.
  pub record KeptFor (kept : Marks E) (m : Marks (HistoryEntry P E)) (page : P) : Type 0 where
    pub edits : kept ≡ kept_of back m
    pub history : IsHistory after Takes m page

  -- Edits and the edits that take them back: the page after an edit takes the inverse, which leads to the page before it, and
  -- the inverse of the inverse is the edit.
  pub record AreBacks : Type 0 where
    pub takes_back : (e : E) (page : P) → Takes e page → Takes (back e page) (after e page)
    pub leads_back : (e : E) (page : P) → Takes e page → after (back e page) (after e page) ≡ page
    pub back_back : (e : E) (page : P) → Takes e page → back (back e page) (after e page) ≡ e

  -- What an undo hands out, applied in order to the page, meets no fault, leads through the saved pages to the one before the
  -- group, and with the inverses that it gives the history is kept on.
  pub record IsUndo (es : List E) (kept : Marks E) (m : Marks (HistoryEntry P E)) (page : P) : Type 0 where
    pub taken : AllTaken after Takes es page
    pub through : pages_on after es page ≡ pages_undone m.past
    pub ends : after_all after es page ≡ page_undone m.past page
    pub kept_on : KeptFor (future_pushed (back_all after back es page) (past_popped kept)) (undone m) (page_undone m.past page)

  -- what a redo hands out: its edits lead through the pages saved after the entries of the group to the last of them
  pub record IsRedo (es : List E) (kept : Marks E) (m : Marks (HistoryEntry P E)) (page : P) : Type 0 where
    pub taken : AllTaken after Takes es page
    pub through : pages_on after es page ≡ pages_redone m.future
    pub ends : after_all after es page ≡ page_redone m.future page
    pub kept_on : KeptFor (past_pushed (back_all after back es page) (future_popped kept)) (redone m) (page_redone m.future page)

  -- there is nothing to take back: the lists are empty together, and nothing changes
  pub record IsNoUndo (kept : Marks E) (m : Marks (HistoryEntry P E)) (page : P) : Type 0 where
    pub none_saved : m.past ≡ []
    pub stays : undone m ≡ m
    pub kept_stays : past_popped kept ≡ kept

  -- there is nothing to do again: the lists are empty together, and nothing changes
  pub record IsNoRedo (kept : Marks E) (m : Marks (HistoryEntry P E)) (page : P) : Type 0 where
    pub none_saved : m.future ≡ []
    pub stays : redone m ≡ m
    pub kept_stays : future_popped kept ≡ kept

  -- Where edits are kept for a history whose page this is, they are after each change of it.
  pub record StaysKept (kept : Marks E) (m : Marks (HistoryEntry P E)) (page : P) : Type 0 where
    pub flags : (kept.going ≡ m.going) × (kept.crossed ≡ m.crossed)
    pub after_note : (e : E) → Takes e page → KeptFor (noted (back e page) kept) (noted (change_on after e page) m) (after e page)
    -- edits that are noted singly are one edit with these entries
    pub after_notes : (es : List E) → AllTaken after Takes es page
        → KeptFor (noted_singly (back_all after back es page) kept) (edited (changes_on after es page) m) (after_all after es page)
    pub after_mark : KeptFor (marked kept) (marked m) page
    -- whatever the page is after a change that is not the client's
    pub after_cross : (other : P) → KeptFor (crossed_over kept) (crossed_over m) other
    pub after_undo : (es : List E) → handed_out kept.past ≡ Some es → IsUndo es kept m page
    pub after_redo : (es : List E) → handed_out kept.future ≡ Some es → IsRedo es kept m page
    pub at_no_past : handed_out kept.past ≡ None → IsNoUndo kept m page
    pub at_no_future : handed_out kept.future ≡ None → IsNoRedo kept m page

  -- At the start, and after a load, nothing is kept for a history without entries, and what is kept stays so.
  pub record KeepsOn : Type 0 where
    pub at_start : (page : P) → KeptFor no_marks no_marks page
    pub after_changes : (kept : Marks E) (m : Marks (HistoryEntry P E)) (page : P) → KeptFor kept m page → StaysKept kept m page
