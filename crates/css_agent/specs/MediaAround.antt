-- The media rules around a rule, as messages tell them: the innermost first.
use Rattle.std.specs.Prelude.{◌≡◌, ℕ, zero, suc, List, [], ◌∷◌, length, map, All, Option, Some, None, option_and_then}
use Rattle.std.specs.List.{slice_get}
use Rattle.css_objects.specs.declared.media.Media.{Media}
use Rattle.sheet_reader.specs.declared.sheet.MediaRule.{MediaRule}
use Rattle.sheet_reader.specs.Sheets.{sheet_of}
use Rattle.css_agent.specs.Texts.{source_range, told_part}

-- ---- which they are

-- a media rule, if it is there, and then what comes further out
abbrev pub outwards : (Option ℕ → List MediaRule) → Option MediaRule → List MediaRule
outwards more None = []
outwards more (Some m) = m ∷ more m.inside

-- so many of them at most, from this place outwards
unfoldable pub climbed : ℕ → List MediaRule → Option ℕ → List MediaRule
climbed zero ms around = []
climbed (suc n) ms around = outwards (climbed n ms) (option_and_then (slice_get ms) around)

-- all of them, from this place outwards: there are no more than media rules
abbrev pub media_around : List MediaRule → Option ℕ → List MediaRule
media_around ms around = climbed (length ms) ms around

-- the same in other words: there is none; or the one at the place, and then those around it
pub data AreAround (ms : List MediaRule) : Option ℕ → List MediaRule → Type 0 where
  none_around : AreAround ms None []
  innermost : (place : ℕ) (m : MediaRule) (more : List MediaRule) → slice_get ms place ≡ Some m → AreAround ms m.inside more
      → AreAround ms (Some place) (m ∷ more)

-- those of each style rule of a text are around it
abbrev pub EachIsAround : Type 0
EachIsAround = (text : List ℕ)
    → All (λ r. AreAround (sheet_of text).media r.media (media_around (sheet_of text).media r.media)) (sheet_of text).rules

-- ---- as they are told

-- a media rule of the sheet with that number and text
abbrev pub told_media : ℕ → List ℕ → MediaRule → Media
told_media sheet text m = record { range = source_range text m.prelude; sheet = sheet; text = told_part text m.prelude }

-- those around something in the sheet with that number and text
abbrev pub told_around : ℕ → List ℕ → Option ℕ → List Media
told_around sheet text around = map (told_media sheet text) (media_around (sheet_of text).media around)
