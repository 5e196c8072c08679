-- The media rules around a media rule or a style rule, and whether all of them hold.
use Rattle.std.specs.Prelude.{◌≡◌, ℕ, suc, ◌<◌, Bool, true, false, ◌&&◌, List, [], ◌∷◌, ◌++◌, length, slice_get, Option, Some, None}
use Rattle.std.specs.Prelude.{All}
use Rattle.sheet_reader.specs.declared.sheet.MediaRule.{MediaRule}
use Rattle.sheet_reader.specs.declared.sheet.Sheet.{Sheet}

-- a place below n, where there is one
abbrev pub IsBelow : ℕ → Option ℕ → Type 0
IsBelow n None = Unit {0}
IsBelow n (Some place) = place < n

-- each of these media rules has one before it around it, or none; n stand before them
abbrev pub AreBelow : ℕ → List MediaRule → Type 0
AreBelow n [] = Unit {0}
AreBelow n (m ∷ ms) = IsBelow n m.inside × AreBelow (suc n) ms

-- the media rules of a sheet are there that its rules have around them
pub record AreThere (s : Sheet) : Type 0 where
  pub media : AreBelow 0 s.media
  pub rules : All (λ r. IsBelow (length s.media) r.media) s.rules

-- every media rule around something holds: there is none; or the innermost is there and holds, and so does every one around it
pub data AllHold (holds : MediaRule → Bool) (ms : List MediaRule) : Option ℕ → Type 0 where
  none_around : AllHold holds ms None
  holds_and : (place : ℕ) (m : MediaRule) → slice_get ms place ≡ Some m → holds m ≡ true → AllHold holds ms m.inside
      → AllHold holds ms (Some place)

-- what is said, and false where nothing is
abbrev pub said : Option Bool → Bool
said None = false
said (Some b) = b

-- what is said of the one at this place; true where there is no place
abbrev pub held_at : List Bool → Option ℕ → Bool
held_at held None = true
held_at held (Some place) = said (slice_get held place)

-- whether each and every one around it holds, one after the other
abbrev pub held_from : (MediaRule → Bool) → List Bool → List MediaRule → List Bool
held_from holds before [] = before
held_from holds before (m ∷ ms) = held_from holds (before ++ (holds m && held_at before m.inside) ∷ []) ms

-- for each media rule, whether it and every one around it holds
abbrev pub held : (MediaRule → Bool) → List MediaRule → List Bool
held holds ms = held_from holds [] ms
