-- What the calls of a drill answer.
use Rattle.std.specs.Prelude.{◌≡◌, ℕ, nat_le, Bool, ◌&&◌, List, [], ◌∷◌, Option, Some, None}
use Rattle.replay_script.specs.Forms.{LineForm}

-- how many divs a drill has at most
abbrev pub most_divs : ℕ
most_divs = 50000

-- there is a drill with so many divs
abbrev pub is_drill : ℕ → Bool
is_drill n = nat_le 1 n && nat_le n most_divs

-- The first of the lines is given and the others are left; none is given just where none is left.
abbrev pub GivesFirst : List LineForm → Option LineForm → List LineForm → Type 0
GivesFirst before None after = (before ≡ []) × (after ≡ [])
GivesFirst before (Some line) after = before ≡ line ∷ after
