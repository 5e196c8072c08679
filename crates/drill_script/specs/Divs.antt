-- The divs of a drill's page, in the order in which they are put into it.
use Rattle.std.specs.Prelude.{◌≡◌, ℕ, zero, suc, ◌<◌, ◌≤◌, ◌==◌, ◌||◌, cond, List, [], ◌∷◌, ◌++◌, length}
use Rattle.std.proofs.Common.{get_or}
use Rattle.drill_script.specs.declared.divs.Div.{Div}
use Rattle.drill_script.specs.Draws.{next_number, drawn}

-- the level of the body, which stands for the div of number 0
abbrev pub body_level : ℕ
body_level = 2

-- no div has a higher level
abbrev pub last_level : ℕ
last_level = 50

-- the level of the div of that number
abbrev pub level_at : List ℕ → ℕ → ℕ
level_at levels j = get_or levels j 0

-- where a div is put that draws j: it becomes the last child of the body (0) where j is 0 or div j has level 50, else of div j
abbrev pub place : List ℕ → ℕ → ℕ
place levels j = cond (j == 0 || level_at levels j == last_level) 0 j

-- the next div, where the generator is at x and the body and the divs before have these levels
abbrev pub next_div : List ℕ → ℕ → Div
next_div levels x =
    let up = place levels (drawn x (length levels)) in
    record { number = length levels; up = up; level = suc (level_at levels up); digit = drawn (next_number x) 8 }

-- the next so many divs
abbrev pub next_divs : ℕ → List ℕ → ℕ → List Div
next_divs zero levels x = []
next_divs (suc n) levels x = next_div levels x ∷ next_divs n (levels ++ (next_div levels x).level ∷ []) (next_number (next_number x))

-- the divs of the page: the generator is at their number first
unfoldable pub page_divs : ℕ → List Div
page_divs n = next_divs n (body_level ∷ []) n

-- the levels of the body and the divs before another: the body's stands first, and none is beyond the last level
pub record AreLevels (levels : List ℕ) : Type 0 where
  pub some : 0 < length levels
  pub body : level_at levels 0 ≡ body_level
  pub low : (j : ℕ) → level_at levels j ≤ last_level

-- where the generator is after so many divs
abbrev pub after_divs : ℕ → ℕ → ℕ
after_divs zero x = x
after_divs (suc n) x = after_divs n (next_number (next_number x))
