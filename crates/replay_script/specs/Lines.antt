-- The lines of an input: its stretches between LF bytes (U+000A); an empty stretch after the last LF is no line.
use Rattle.std.specs.Prelude.{◌≡◌, ℕ, List, [], ◌∷◌, ◌++◌, length, Bool, false, nat_lt, if◌then◌else◌}
use Rattle.std.specs.List.{list_any, onto_first}
use Rattle.sheet_reader.specs.Positions.{is_line_feed}

-- the stretches between LF bytes; an empty one after the last LF is no line
abbrev pub lines_of : List ℕ → List (List ℕ)
lines_of [] = []
lines_of (b ∷ more) = if is_line_feed b then [] ∷ lines_of more else onto_first b (lines_of more)

-- some line is longer than `limit` bytes
abbrev pub has_long_line : List ℕ → ℕ → Bool
has_long_line input limit = list_any (λ (line : List ℕ). nat_lt limit (length line)) (lines_of input)

-- ---- what the lines are, in other words

-- each line with an LF after it
abbrev pub lines_ended : List (List ℕ) → List ℕ
lines_ended [] = []
lines_ended (line ∷ more) = line ++ 10 ∷ lines_ended more

-- the bytes, with an LF at the end where there are some and they do not end in one
abbrev pub with_end : List ℕ → List ℕ
with_end [] = []
with_end (b ∷ []) = if is_line_feed b then b ∷ [] else b ∷ 10 ∷ []
with_end (b ∷ c ∷ more) = b ∷ with_end (c ∷ more)

-- No line holds an LF, and with an LF after each they are the input, but for the LF that its end may lack.
pub record AreLinesOf (lines : List (List ℕ)) (input : List ℕ) : Type 0 where
  pub no_line_feed : list_any (list_any is_line_feed) lines ≡ false
  pub whole : lines_ended lines ≡ with_end input

-- an input is the lines that it is cut into
abbrev pub LinesLaw : Type 0
LinesLaw = (input : List ℕ) → AreLinesOf (lines_of input) input
