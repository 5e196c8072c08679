-- A history: groups of what was done, groups of what was taken back, and two flags.
use Rattle.std.specs.Prelude.{ℕ, ◌+◌, ◌==◌, Bool, true, false, not, ◌&&◌, ◌||◌, cond, List, [], ◌∷◌, ◌++◌, length, reverse, Option, Some}
use Rattle.std.specs.Prelude.{None, is_none, refl}
use Rattle.std.specs.Coded.{Coded, code_by, coded×, coded_list, coded_bool}
use Rattle.undo_marks.specs.declared.histories.Direction.{Direction}
use Rattle.undo_marks.specs.declared.histories.Direction.TheVariants.{Undo, Redo}

-- the two lists and the two flags of a history
pub record Marks (A : Type 0) : Type 0 where
  -- what was done, the newest group first; in a group in the order in which it came
  pub past : List (List A)
  -- what was taken back, the group that is to be done again next first
  pub future : List (List A)
  -- the newest group of the past is still going on
  pub going : Bool
  -- a change that is not the client's emptied the lists
  pub crossed : Bool

module _ {A : Type 0} where
  -- marks as numbers, by those of an entry
  abbrev pub coded_marks : Coded A → Coded (Marks A)
  coded_marks code =
      let groups = coded_list (coded_list code) in
      code_by ((List (List A) × List (List A)) × (Bool × Bool)) (coded× (coded× groups groups) (coded× coded_bool coded_bool))
      (λ m. ((m.past, m.future), (m.going, m.crossed)))
      (λ p. record { past = p.0.0; future = p.0.1; going = p.1.0; crossed = p.1.1 })
      (λ _. refl)

  -- ---- groups, the newest first

  -- how many entries they have
  abbrev pub entry_count : List (List A) → ℕ
  entry_count [] = 0
  entry_count (g ∷ gs) = length g + entry_count gs

  -- the newest group
  abbrev pub newest : List (List A) → Option (List A)
  newest [] = None
  newest (g ∷ gs) = Some g

  -- the groups before the newest
  abbrev pub older : List (List A) → List (List A)
  older [] = []
  older (g ∷ gs) = gs

  -- what a group is handed out as: what came last is first
  abbrev pub handed_out : List (List A) → Option (List A)
  handed_out [] = None
  handed_out (g ∷ gs) = Some (reverse g)

  -- the entries put after those of the newest group, or into a first one
  abbrev pub onto_newest : List A → List (List A) → List (List A)
  onto_newest xs [] = xs ∷ []
  onto_newest xs (g ∷ gs) = (g ++ xs) ∷ gs

  -- ---- changes of a history

  -- the history at the start, and after a load
  abbrev pub no_marks : Marks A
  no_marks = record { past = []; future = []; going = false; crossed = false }

  -- after a client's edit with these entries: they join the group that is going on, or start one, and what was taken
  -- back is given up
  abbrev pub edited : List A → Marks A → Marks A
  edited [] m = m
  edited (x ∷ xs) m = record {
    past = cond m.going (onto_newest (x ∷ xs) m.past) ((x ∷ xs) ∷ m.past);
    future = [];
    going = true;
    crossed = false;
  }

  -- the marks after an edit of one entry
  abbrev pub noted : A → Marks A → Marks A
  noted x m = edited (x ∷ []) m

  -- each noted after the other
  abbrev pub noted_singly : List A → Marks A → Marks A
  noted_singly [] m = m
  noted_singly (x ∷ xs) m = noted_singly xs (noted x m)

  -- the group that was going on is ended
  abbrev pub marked : Marks A → Marks A
  marked m = record { past = m.past; future = m.future; going = false; crossed = m.crossed }

  -- something can be taken back or done again
  abbrev pub has_entries : Marks A → Bool
  has_entries m = not (entry_count m.past + entry_count m.future == 0)

  -- after a change that is not the client's: both lists are empty, and it is kept whether something was lost
  abbrev pub crossed_over : Marks A → Marks A
  crossed_over m = record { past = []; future = []; going = false; crossed = m.crossed || has_entries m }

  -- the newest group moved from the one list to the other, where there is one
  abbrev pub taken_back : List (List A) → Marks A → Marks A
  taken_back [] m = m
  taken_back (g ∷ gs) m = record { past = gs; future = g ∷ m.future; going = false; crossed = m.crossed }

  -- the marks after the newest group of the future is done again
  abbrev pub done_again : List (List A) → Marks A → Marks A
  done_again [] m = m
  done_again (g ∷ gs) m = record { past = g ∷ m.past; future = gs; going = false; crossed = m.crossed }

  -- after an undo
  abbrev pub undone : Marks A → Marks A
  undone m = taken_back m.past m

  -- after a redo
  abbrev pub redone : Marks A → Marks A
  redone m = done_again m.future m

  -- ---- the two halves of an undo, and of a redo; where nothing is handed out, nothing changes

  -- the newest group of the past is handed out
  abbrev pub past_popped : Marks A → Marks A
  past_popped m = record { past = older m.past; future = m.future; going = m.going && is_none (newest m.past); crossed = m.crossed }

  -- the newest group of the future is handed out
  abbrev pub future_popped : Marks A → Marks A
  future_popped m = record { past = m.past; future = older m.future; going = m.going && is_none (newest m.future); crossed = m.crossed }

  -- a group is put on the past
  abbrev pub past_pushed : List A → Marks A → Marks A
  past_pushed g m = record { past = g ∷ m.past; future = m.future; going = false; crossed = m.crossed }

  -- a group is put on the future
  abbrev pub future_pushed : List A → Marks A → Marks A
  future_pushed g m = record { past = m.past; future = g ∷ m.future; going = false; crossed = m.crossed }

  -- ---- the same by what is done with a group

  -- the groups that can be taken back, or done again, the next one first
  abbrev pub groups_of : Direction → Marks A → List (List A)
  groups_of Undo m = m.past
  groups_of Redo m = m.future

  -- the marks after an undo, or a redo
  abbrev pub group_moved : Direction → Marks A → Marks A
  group_moved Undo m = undone m
  group_moved Redo m = redone m

  -- the next group is handed out
  abbrev pub group_popped : Direction → Marks A → Marks A
  group_popped Undo m = past_popped m
  group_popped Redo m = future_popped m

  -- what came of it is put on the other list
  abbrev pub group_pushed : Direction → List A → Marks A → Marks A
  group_pushed Undo g m = future_pushed g m
  group_pushed Redo g m = past_pushed g m
