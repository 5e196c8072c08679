-- What becomes of the history by a step: it stays one, and few edits more are kept.
use Rattle.std.proofs.Common.{◌≡◌, ℕ, ◌+◌, ◌≤◌, List, length, sym, ap, subst, arith}
use Rattle.undo_marks.specs.Marks.{Marks, no_marks, marked}
use Rattle.undo_marks.specs.Changes.{HistoryEntry as Entry, after_all, changes_on, AllTaken, IsHistory}
use Rattle.undo_marks.specs.Saved.{Saved}
use Rattle.undo_marks.specs.SavedEdits.{page_after}
use Rattle.undo_marks.specs.declared.inverse_lists.Inverse.{Inverse}
use Rattle.back_end.specs.States.{State, saved_now, TakesWell, HasHistory}
use Rattle.back_end.specs.Steps.{Step, with_marks, keeping, with_crossed}
use Rattle.back_end.specs.Laws.{HasRoom, tree_edits, edits_kept, StepsWell}
use Rattle.back_end.proofs.HistoryLemmas.{kept_in, history-kept, keeps-same, keeps-edited, keeps-marked}
use Rattle.back_end.proofs.GroupCounts.{trees_in, trees-few, trees_of, count_of, changes-trees, changes-length, edited-trees, edited-count}
use Rattle.back_end.proofs.WellSteps.{Well, HasNumbers}

-- the state after it has a history, of no more edits than before and so many
pub record Recalls (before after : State) (trees more : ℕ) : Type 0 where
  pub history : HasHistory after
  pub few_trees : tree_edits after ≤ tree_edits before + trees
  pub few_edits : edits_kept after ≤ edits_kept before + more

-- a step that is well and has a history
pub steps-well : {before : State} {done : Step} {ids trees more : ℕ} → ids ≤ 500000 + tree_edits before → trees ≤ 2
    → Well before done ids 100001 1000 → Recalls before done.state trees more → StepsWell before done
steps-well few least well recalls = record {
  is_state = record { now = well.now; history = recalls.history };
  course = well.course;
  ids = omega (arith, well.few_ids, few);
  serials = well.few_serials;
  sheets = well.few_sheets;
  trees = omega (arith, recalls.few_trees, least);
  searches = omega (arith, well.given);
}

-- numbers are left after a step that draws few
pub after-numbers : (before : State) (done : Step) → HasRoom before → StepsWell before done → HasNumbers done.state
after-numbers before done room well = record {
  ids = omega (arith, room.ids, room.edits, trees-few before, well.ids);
  serials = omega (arith, room.serials, well.serials);
  sheets = omega (arith, room.sheets, well.sheets);
}

-- ---- steps by what they do to the history

-- nothing, and the page stays
pub recalls-same : (before after : State) → HasHistory before → after.client.marks ≡ before.client.marks
    → saved_now after ≡ saved_now before → before.side.page.next ≤ after.side.page.next
    → Recalls before after 0 0
recalls-same before after history marks saved low = record {
  history = (keeps-same (kept_in before) before after (history-kept before history) marks saved low).history;
  few_trees = omega (arith, ap trees_of marks);
  few_edits = omega (arith, ap count_of marks);
}

-- nothing after what was done before
pub recalls-on : {before after : State} {trees more : ℕ} (later : State) → Recalls before after trees more
    → later.client.marks ≡ after.client.marks → saved_now later ≡ saved_now after
    → after.side.page.next ≤ later.side.page.next → Recalls before later trees more
recalls-on {after = after} later recalls marks saved low =
    let same : Recalls after later 0 0 = recalls-same after later recalls.history marks saved low in
    record {
      history = same.history;
      few_trees = omega (arith, same.few_trees, recalls.few_trees);
      few_edits = omega (arith, same.few_edits, recalls.few_edits);
    }

pub recalls-more : {before after : State} {trees more t m : ℕ} → trees ≤ t → more ≤ m → Recalls before after trees more
    → Recalls before after t m
recalls-more least most recalls = record {
  history = recalls.history;
  few_trees = omega (arith, recalls.few_trees, least);
  few_edits = omega (arith, recalls.few_edits, most);
}

-- all is forgotten
pub recalls-none : (before after : State) → after.client.marks ≡ no_marks → Recalls before after 0 0
recalls-none before after marks = record {
  history = subst (λ (m : Marks (Entry Saved Inverse)). IsHistory page_after (TakesWell after.side.page.next) m (saved_now after))
      (sym marks) (record { past = tt; future = tt; going = λ t n. cc });
  few_trees = omega (arith, ap trees_of marks);
  few_edits = omega (arith, ap count_of marks);
}

-- a change that is not the client's
pub recalls-crossed : (before after : State) → Recalls before (with_crossed after) 0 0
recalls-crossed before after = record {
  history = record { past = tt; future = tt; going = λ t n. cc };
  few_trees = omega arith;
  few_edits = omega arith;
}

-- a client's edits are kept
pub recalls-edited : (es : List Inverse) (before : State) (done : Step) → HasHistory before
    → AllTaken page_after (TakesWell done.state.side.page.next) es (saved_now before)
    → saved_now done.state ≡ after_all page_after es (saved_now before) → before.side.page.next ≤ done.state.side.page.next
    → Recalls before (keeping es before done).state (trees_in es) (length es)
recalls-edited es before done history taken saved low =
    let changes = changes_on page_after es (saved_now before) in
    record {
      history = (keeps-edited (kept_in before) es before done (history-kept before history) taken saved low).history;
      few_trees = omega (arith, edited-trees changes before.client.marks, changes-trees es (saved_now before));
      few_edits = omega (arith, edited-count changes before.client.marks, changes-length es (saved_now before));
    }

-- a group is ended
pub recalls-marked : (state : State) → HasHistory state → Recalls state (with_marks (marked state.client.marks) state) 0 0
recalls-marked state history = record {
  history = (keeps-marked (kept_in state) state (history-kept state history)).history;
  few_trees = omega arith;
  few_edits = omega arith;
}
