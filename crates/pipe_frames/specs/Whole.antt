-- What is read of a whole source, and written of a whole piece.
use Rattle.std.specs.Prelude.{◌≡◌, ℕ, ◌-◌, ◌≤◌, ◌<◌, List, [], ◌++◌, length, take, Option, Some, None, option_map, ⊤}
use Rattle.std.specs.Io.KnownBytes.{Appends, Consumes}

-- the bytes are all that a source had left, and it has none left now
abbrev pub IsAllOf : Option (List ℕ) → Option (List ℕ) → List ℕ → Type 0
IsAllOf None after bytes = ⊤
IsAllOf (Some left) None bytes = ⊥
IsAllOf (Some left) (Some rest) bytes = (bytes ≡ left) × (rest ≡ [])

-- a source that tells its bytes had more than limit left
abbrev pub HasMoreThan : Option (List ℕ) → ℕ → Type 0
HasMoreThan None limit = ⊤
HasMoreThan (Some left) limit = limit < length left

-- of a source at most limit bytes were taken
pub record ReadPart (before after : Option (List ℕ)) (limit : ℕ) : Type 0 where
  pub part : List ℕ
  pub count : length part ≤ limit
  pub read : Consumes before after part

-- a sink took the front part of a text, and nothing else
pub record WrotePart (before after : Option (List ℕ)) (text : List ℕ) : Type 0 where
  pub part : List ℕ
  pub rest : List ℕ
  pub whole : text ≡ part ++ rest
  pub wrote : Appends before after part

-- what a writer handed on of the bytes that it took, where it keeps the last of them
abbrev pub handed_on : ℕ → Option (List ℕ) → Option (List ℕ)
handed_on kept bytes = option_map (λ all. take (length all - kept) all) bytes
