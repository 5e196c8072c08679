-- The divs of a page.
use Rattle.std.proofs.Common.{◌≡◌, ℕ, zero, suc, ◌+◌, ◌-◌, ◌<◌, ◌≤◌, ◌==◌, ◌||◌, Bool, true, false}
use Rattle.std.proofs.Common.{cond, List, [], ◌∷◌, ◌++◌, length, get_or}
use Rattle.std.proofs.Common.{refl, sym, ap, ◌∙◌, subst, arith, append_assoc, append-nil}
use Rattle.std.proofs.lemmas.List.{length-append}
use Rattle.std.proofs.lemmas.Bool.Decides.{nat_tests}
use Rattle.drill_script.specs.declared.divs.Div.{Div}
use Rattle.drill_script.specs.Draws.{next_number, drawn}
use Rattle.drill_script.specs.Divs.{body_level, last_level, level_at, place, next_div, next_divs, AreLevels, after_divs, page_divs}
use Rattle.drill_script.specs.Hanging.{AreDivsNumbered}
use Rattle.drill_script.proofs.DrawLemmas.{drawn-below}

-- ---- places and levels

-- a div that is put into one of those before it is put into one of them or the body
pub place-below : (levels : List ℕ) (j : ℕ) → j < length levels → place levels j < length levels
place-below levels j h = grind (arith, nat_tests)

chosen-level : (levels : List ℕ) (j : ℕ) (a b : Bool) → AreLevels levels → b ≡ (level_at levels j == last_level)
    → level_at levels (cond (a || b) 0 j) < last_level
chosen-level levels j true b r e = omega (arith, r.body)
chosen-level levels j false true r e = omega (arith, r.body)
chosen-level levels j false false r e = below (level_at levels j) (r.low j) e where
  below : (n : ℕ) → n ≤ 50 → false ≡ (n == 50) → n < 50
  below n h e = grind (arith, nat_tests)

-- what a div is put into has a level below the last
pub place-low : (levels : List ℕ) (j : ℕ) → AreLevels levels → level_at levels (place levels j) < last_level
place-low levels j r = chosen-level levels j (j == 0) (level_at levels j == last_level) r refl

low-more : (xs : List ℕ) (y : ℕ) → y ≤ 50 → ((j : ℕ) → get_or xs j 0 ≤ 50) → (j : ℕ) → get_or (xs ++ y ∷ []) j 0 ≤ 50
low-more [] y h low zero = h
low-more [] y h low (suc j) = omega arith
low-more (x ∷ xs) y h low zero = low 0
low-more (x ∷ xs) y h low (suc j) = low-more xs y h (λ i. low (suc i)) j

first-kept : (xs : List ℕ) (y : ℕ) → 0 < length xs → get_or (xs ++ y ∷ []) 0 0 ≡ get_or xs 0 0
first-kept [] y h = absurd (omega arith)
first-kept (x ∷ xs) y h = refl

-- the levels with one more below the last
pub levels-more : (levels : List ℕ) (level : ℕ) → AreLevels levels → level ≤ last_level → AreLevels (levels ++ level ∷ [])
levels-more levels level r h = record {
  some = omega (arith, length-append levels (level ∷ []));
  body = first-kept levels level r.some ∙ r.body;
  low = low-more levels level h r.low;
}

-- the levels with that of the next div
pub levels-next : (levels : List ℕ) (x : ℕ) → AreLevels levels → AreLevels (levels ++ (next_div levels x).level ∷ [])
levels-next levels x r = levels-more levels (next_div levels x).level r
    (let h = place-low levels (drawn x (length levels)) r in omega (arith, h))

-- before the first div
pub levels-first : AreLevels (body_level ∷ [])
levels-first = record { some = omega arith; body = refl; low = low } where
  low : (j : ℕ) → level_at (body_level ∷ []) j ≤ last_level
  low zero = omega arith
  low (suc j) = omega arith

-- ---- their numbers

next-numbered : (n : ℕ) (levels : List ℕ) (x : ℕ) → AreLevels levels → AreDivsNumbered (length levels) (next_divs n levels x)
next-numbered zero levels x r = tt
next-numbered (suc n) levels x r = (
  refl,
  place-below levels (drawn x (length levels)) (drawn-below x (length levels) r.some),
  subst (λ k. AreDivsNumbered k (next_divs n (levels ++ (next_div levels x).level ∷ []) (next_number (next_number x))))
      (let e : length (levels ++ (next_div levels x).level ∷ []) ≡ suc (length levels)
      = omega (arith, length-append levels ((next_div levels x).level ∷ [])) in e)
      (next-numbered n (levels ++ (next_div levels x).level ∷ []) (next_number (next_number x)) (levels-next levels x r)),
)

-- the divs of a page are numbered one after another
pub page-numbered : (n : ℕ) → AreDivsNumbered 1 (page_divs n)
unfolding page_divs
page-numbered n = next-numbered n (body_level ∷ []) n levels-first

-- there are as many as are asked for
next-many : (n : ℕ) (levels : List ℕ) (x : ℕ) → length (next_divs n levels x) ≡ n
next-many zero levels x = refl
next-many (suc n) levels x = ap suc (next-many n (levels ++ (next_div levels x).level ∷ []) (next_number (next_number x)))

pub page-many : (n : ℕ) → length (page_divs n) ≡ n
unfolding page_divs
page-many n = next-many n (body_level ∷ []) n

-- ---- one after another

-- some divs are drawn, and these are still to come of all
pub record Drawing (all left : ℕ) (divs : List Div) (levels : List ℕ) (x : ℕ) : Type 0 where
  pub levels_are : AreLevels levels
  pub divs_are : divs ++ next_divs left levels x ≡ next_divs all (body_level ∷ []) all
  pub at : after_divs left x ≡ after_divs all all

pub drawing-next : (all left : ℕ) (divs : List Div) (levels : List ℕ) (x : ℕ) → Drawing all (suc left) divs levels x
    → Drawing all left (divs ++ next_div levels x ∷ []) (levels ++ (next_div levels x).level ∷ []) (next_number (next_number x))
drawing-next all left divs levels x d = record {
  levels_are = levels-next levels x d.levels_are;
  divs_are = append_assoc divs (next_div levels x ∷ []) _ ∙ d.divs_are;
  at = d.at;
}

-- the same in a loop that counts up
pub drawing-step : (all counter : ℕ) (divs more : List Div) (levels higher : List ℕ) (x y : ℕ) (d : Div) → counter < all
    → Drawing all (all - counter) divs levels x → d ≡ next_div levels x → y ≡ after_divs 1 x → more ≡ divs ++ d ∷ []
    → higher ≡ levels ++ d.level ∷ [] → Drawing all (all - (counter + 1)) more higher y
drawing-step all counter divs more levels higher x y d below h is at m l =
    let left : all - counter ≡ suc (all - (counter + 1)) = omega arith in
    let now = subst (λ k. Drawing all k divs levels x) left h in
    let next = drawing-next all (all - (counter + 1)) divs levels x now in
    let ms : divs ++ next_div levels x ∷ [] ≡ more = ap (λ e. divs ++ e ∷ []) (sym is) ∙ sym m in
    let ls : levels ++ (next_div levels x).level ∷ [] ≡ higher = ap (λ (e : Div). levels ++ e.level ∷ []) (sym is) ∙ sym l in
    subst (λ z. Drawing all (all - (counter + 1)) more higher z) (sym at)
    (subst (λ ls. Drawing all (all - (counter + 1)) more ls (next_number (next_number x))) ls
    (subst (λ ms. Drawing all (all - (counter + 1)) ms (levels ++ (next_div levels x).level ∷ []) (next_number (next_number x))) ms next))

-- none is left
pub drawing-end : (all counter : ℕ) (divs : List Div) (levels : List ℕ) (x : ℕ) → all ≤ counter → Drawing all (all - counter) divs levels x
    → (divs ≡ page_divs all) × (x ≡ after_divs all all)
unfolding page_divs
drawing-end all counter divs levels x done h =
    let left : all - counter ≡ 0 = omega arith in
    let now = subst (λ k. Drawing all k divs levels x) left h in
    (sym (append-nil divs) ∙ now.divs_are, now.at)
