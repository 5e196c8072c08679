-- How far an+b reaches.
use Rattle.std.proofs.Common.{◌≡◌, ℕ, zero, suc, ◌<◌, ◌≤◌, ℤ, pos, negsuc, ◌-ℤ◌, ◌≤ℤ◌, ◌<ℤ◌, false, refl, sym, ap, ◌∙◌, inl, inr, arith}
use Rattle.std.proofs.lemmas.Int.{ints}
use Rattle.std.proofs.lemmas.Bool.{cases_lt, ne_eqb}
use Rattle.select_match.specs.Elements.{is_reached, is_nth}

-- a place that was counted no further than a limit
pub nth-within : (step offset : ℤ) (limit place index : ℕ) → ((i : ℕ) → limit < i → i ≤ 100000 → is_nth step offset i ≡ false)
    → (place ≤ limit → place ≡ index) → (limit < place → limit < index)
    → place ≤ 100000 → index ≤ 100000 → is_nth step offset place ≡ is_nth step offset index
nth-within step offset limit place index none within beyond bound few = elim (cases_lt limit place) [
  | inl more ↦ none place more bound ∙ sym (none index (beyond more) few)
  | inr less ↦ ap (λ (i : ℕ). is_nth step offset i) (within less)
]
