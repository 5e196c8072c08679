-- Panels at their places, which count from 1, some of which are closed.
use Rattle.std.specs.Prelude.{ℕ, zero, suc, List, [], ◌∷◌, Option, None}

-- what stands in the slot with so many before it
abbrev pub slot_at : {A : Type 0} → ℕ → List (Option A) → Option A
slot_at i [] = None
slot_at zero (o ∷ os) = o
slot_at (suc i) (o ∷ os) = slot_at i os

-- the slots, where that with so many before it is empty
abbrev pub emptied_at : {A : Type 0} → ℕ → List (Option A) → List (Option A)
emptied_at i [] = []
emptied_at zero (o ∷ os) = None ∷ os
emptied_at (suc i) (o ∷ os) = o ∷ emptied_at i os

-- the panel that stands open at that place
abbrev pub open_at : {A : Type 0} → ℕ → List (Option A) → Option A
open_at zero slots = None
open_at (suc i) slots = slot_at i slots

-- the panels after that at the place was closed
abbrev pub closed_at : {A : Type 0} → ℕ → List (Option A) → List (Option A)
closed_at zero slots = slots
closed_at (suc i) slots = emptied_at i slots
