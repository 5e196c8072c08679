-- The words of the command line.
use Rattle.std.specs.Prelude.{ℕ, List, [], ◌∷◌, Bool, false, ◌&&◌, bytes_eq, codes, decimal, if◌then◌else◌, Option, Some, None}
use Rattle.std.specs.Str.Parse.{digits_value}
use Rattle.drill_script.specs.Given.{is_drill}

-- the one word `replay`
abbrev pub is_replay : List (List ℕ) → Bool
is_replay [] = false
is_replay (word ∷ []) = bytes_eq word (codes "replay")
is_replay (word ∷ next ∷ more) = false

-- the one word `serve`
abbrev pub is_serve : List (List ℕ) → Bool
is_serve [] = false
is_serve (word ∷ []) = bytes_eq word (codes "serve")
is_serve (word ∷ next ∷ more) = false

-- the one word `share`
abbrev pub is_share : List (List ℕ) → Bool
is_share [] = false
is_share (word ∷ []) = bytes_eq word (codes "share")
is_share (word ∷ next ∷ more) = false

-- the one word `pair`
abbrev pub is_pair : List (List ℕ) → Bool
is_pair [] = false
is_pair (word ∷ []) = bytes_eq word (codes "pair")
is_pair (word ∷ next ∷ more) = false

-- a drill may have so many divs, and the text is that number in decimal digits, without a leading zero
abbrev pub is_count : List ℕ → ℕ → Bool
is_count text n = is_drill n && bytes_eq (decimal n) text

-- the number, where the text is one
abbrev pub count_in : List ℕ → Option ℕ
count_in text = if is_count text (digits_value 10 text) then Some (digits_value 10 text) else None

-- the word `drill` and the number of divs
abbrev pub drill_in : List (List ℕ) → Option ℕ
drill_in [] = None
drill_in (word ∷ []) = None
drill_in (word ∷ number ∷ []) = if bytes_eq word (codes "drill") then count_in number else None
drill_in (word ∷ number ∷ next ∷ more) = None
