-- A step of the script keeps no edit: it empties the history, or changes nothing.
use Rattle.std.proofs.Common.{◌≡◌, ◌⊎◌, inl, inr, ℕ, ◌+◌, ◌≤◌, length, Option, Some, None, refl, ap, arith}
use Rattle.back_end.specs.declared.faults.ActFault.{ActFault}
use Rattle.back_end.specs.States.{State, book_in}
use Rattle.back_end.specs.Plans.{Deed, edits, restyles, shows_on, act_fault, act_plan}
use Rattle.back_end.specs.Steps.{Turn, acts, loads, planned_step, turn_step}
use Rattle.back_end.specs.Laws.{most_ids, tree_edits, edits_kept, StepsWell}

-- nothing is kept after it, or nothing was changed
abbrev Crosses : State → State → Type 0
Crosses before after = ((tree_edits after ≡ 0) × (edits_kept after ≡ 0)) ⊎ (after ≡ before)

deed-crosses : (deed : Deed) (state : State) → Crosses state (planned_step None deed state).state
deed-crosses (edits plan) state = inl (refl, refl)
deed-crosses (restyles changes) state = inl (refl, refl)
deed-crosses (shows_on medium) state = inl (refl, refl)

plan-crosses : (fault : Option ActFault) (deed : Deed) (state : State) → Crosses state (planned_step fault deed state).state
plan-crosses None deed state = deed-crosses deed state
plan-crosses (Some f) deed state = inr refl

turn-crosses : (x : Turn) (state : State) → Crosses state (turn_step x state).state
turn-crosses (acts act) state = plan-crosses (act_fault act state.side.page (book_in state))
    (act_plan act state.side.page (book_in state)) state
turn-crosses (loads page) state = inl (refl, refl)

-- how the ids and the edits of the tree together, these edits and all edits go on by it
pub record TurnKeeps (before after : State) : Type 0 where
  pub ids : length after.client.session.pushed + tree_edits after ≤ length before.client.session.pushed + tree_edits before + most_ids
  pub trees : tree_edits after ≤ tree_edits before
  pub edits : edits_kept after ≤ edits_kept before

emptied : (pushed trees kept pushed1 trees1 kept1 : ℕ) → pushed1 ≤ pushed + (500000 + trees) → trees1 ≡ 0 → kept1 ≡ 0
    → (pushed1 + trees1 ≤ pushed + trees + 500000) × (trees1 ≤ trees) × (kept1 ≤ kept)
emptied pushed trees kept pushed1 trees1 kept1 few none nothing = (omega arith, omega arith, omega arith)

keeps-by : (before after : State)
    → length after.client.session.pushed ≤ length before.client.session.pushed + (most_ids + tree_edits before) → Crosses before after
    → TurnKeeps before after
keeps-by before after few (inl none) =
    let p = emptied (length before.client.session.pushed) (tree_edits before) (edits_kept before) (length after.client.session.pushed)
    (tree_edits after) (edits_kept after) few none.0 none.1 in
    record { ids = p.0; trees = p.1; edits = p.2 }
keeps-by before after few (inr same) =
    let ids : length after.client.session.pushed + tree_edits after ≡ length before.client.session.pushed + tree_edits before =
    ap (λ (s : State). length s.client.session.pushed + tree_edits s) same in
    let trees : tree_edits after ≡ tree_edits before = ap tree_edits same in
    let kept : edits_kept after ≡ edits_kept before = ap edits_kept same in
    record { ids = at-most ids; trees = same-most trees; edits = same-most kept }
  where
    at-most : {n m : ℕ} → n ≡ m → n ≤ m + most_ids
    at-most e = omega (arith, e)

    same-most : {n m : ℕ} → n ≡ m → n ≤ m
    same-most e = omega (arith, e)

pub turn-keeps : (x : Turn) (state : State) → StepsWell state (turn_step x state) → TurnKeeps state (turn_step x state).state
turn-keeps x state well = keeps-by state (turn_step x state).state well.ids (turn-crosses x state)
