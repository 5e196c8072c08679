-- Which lines a drill has after the load, by cases, and how many.
use Rattle.std.specs.Prelude.{ℕ, ◌<◌, ◌+◌, List, [], ◌∷◌, ⊤}
use Rattle.replay_script.specs.Forms.{LineForm, up, down, settle}
use Rattle.drill_script.specs.DrillLines.{asks_document, asks_styles, asks_watch, sets_class, asks_title, asks_matched, puts_text}
use Rattle.drill_script.specs.Given.{most_divs}

-- serials of divs are below this
abbrev pub serials_end : ℕ
serials_end = 4 + most_divs

-- a line of a drill after its load
pub data IsDrillLine : LineForm → Type 0 where
  document : IsDrillLine asks_document
  styles : IsDrillLine asks_styles
  watch : IsDrillLine asks_watch
  settling : IsDrillLine settle
  class : (s digit : ℕ) → s < serials_end → digit < 8 → IsDrillLine (sets_class s digit)
  title : (s digit : ℕ) → s < serials_end → digit < 10 → IsDrillLine (asks_title s digit)
  matched : (s : ℕ) → s < serials_end → IsDrillLine (asks_matched s)
  text : IsDrillLine puts_text
  rising : (n : ℕ) → n < 64 → IsDrillLine (up n)
  falling : (n : ℕ) → n < 4096 → IsDrillLine (down n)

-- lines of a drill after its load
abbrev pub AreDrillLines : List LineForm → Type 0
AreDrillLines [] = ⊤
AreDrillLines (line ∷ lines) = IsDrillLine line × AreDrillLines lines

-- how many lines there are at most after the load: three asks and a settle, three for each turn, and a settle
abbrev pub most_lines : ℕ
most_lines = 3005
