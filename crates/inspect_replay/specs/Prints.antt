-- What the parts of a run over an honest link take it to, and print.
use Rattle.std.specs.Prelude.{◌+◌, ℕ, List, Option, Some, None, Result, OnOk}
use Rattle.front_mirror.specs.declared.panels.Panel.{Ghosts}
use Rattle.pipe_frames.specs.Pipe.{Pipe}
use Rattle.page_forms.specs.Pages.{LoadedPage}
use Rattle.replay_script.specs.Forms.{LineForm, load, ask, show_front, show_page, show_sheets, show_replies, show_pauses}
use Rattle.replay_script.specs.Forms.{show_panels, show_styles, close}
use Rattle.replay_script.specs.Forms as forms
use Rattle.replay_script.specs.Script.{numbered_or, first_bad, good_lines}
use Rattle.inspect_world.specs.World.{World}
use Rattle.inspect_world.specs.RunStates.{RunState}
use Rattle.inspect_world.specs.Costs.{line_cost, line_bytes}
use Rattle.inspect_world.specs.Scripts.{after_line, after_lines, line_text, lines_text, closing_text, lacking, shown_lines, rest_refused}
use Rattle.inspect_replay.specs.declared.one_front.OneFront.{OneFront}
use Rattle.replay_parts.specs.declared.stop.Stop.{Stop}
use Rattle.replay_parts.specs.Moments.{Scene}
use Rattle.inspect_replay.specs.Runs.{InPlay}
use Rattle.replay_parts.specs.Stops.{GoesWell}
use Rattle.replay_parts.specs.Answers.{RunTells, RunTook, Prints}
pub use Rattle.replay_parts.specs.Reads.{IsRead, drops}

-- a line with its number
pub record NumberedLine : Type 0 where
  pub number : ℕ
  pub form : LineForm

-- a line with its number
abbrev pub numbered_line : ℕ → LineForm → NumberedLine
numbered_line number form = record { number = number; form = form }

-- a line is carried out, and prints what it prints
abbrev pub CarriesOut : {P : Type 0} {g : Ghosts P} {T : Type 0} → Scene (OneFront P g) → Scene (OneFront P g) → NumberedLine
    → Result T Stop
    → Type 0
CarriesOut old new line result =
    (up0 down0 : Pipe) (more : ℕ) (w : World RunState)
    → InPlay old.now.honest up0 down0 old.now.up old.now.down (more + line_cost line.form) w old.now.ends
    → GoesWell result
    × OnOk result (InPlay new.now.honest up0 down0 new.now.up new.now.down more (after_line line.form w) new.now.ends)
    × Prints result old.taken new.taken (line_text line.number line.form w)

-- any line is carried out, and prints what it prints; one that drops a panel where none stands open, or shows what did not come, is
-- refused, and nothing is printed of it
abbrev pub CarriesLine : {P : Type 0} {g : Ghosts P} {T : Type 0} → Scene (OneFront P g) → Scene (OneFront P g) → NumberedLine
    → Result T Stop
    → Type 0
CarriesLine old new line result =
    (up0 down0 : Pipe) (more : ℕ) (w : World RunState)
    → InPlay old.now.honest up0 down0 old.now.up old.now.down (more + line_cost line.form) w old.now.ends
    → OnOk result (InPlay new.now.honest up0 down0 new.now.up new.now.down more (after_line line.form w) new.now.ends)
    × RunTook result old.taken new.taken (line_text line.number line.form w)
    × RunTells result (numbered_or line.number (lacking line.form w) None)

-- the lines after the load are carried out, up to the first that is refused
abbrev pub RunsLines : {P : Type 0} {g : Ghosts P} {T : Type 0} → Scene (OneFront P g) → Scene (OneFront P g) → List (List ℕ)
    → Result T Stop
    → Type 0
RunsLines old new lines result =
    (up0 down0 : Pipe) (w : World RunState) → InPlay old.now.honest up0 down0 old.now.up old.now.down (line_bytes lines) w old.now.ends
    → OnOk result (InPlay new.now.honest up0 down0 new.now.up new.now.down 0
    (after_lines (shown_lines (good_lines 2 lines) w) w) new.now.ends)
    × RunTook result old.taken new.taken (lines_text 2 (shown_lines (good_lines 2 lines) w) w)
    × RunTells result (rest_refused (first_bad 2 lines) (good_lines 2 lines) w)

-- the closing part is printed
abbrev pub Closes : {P : Type 0} {g : Ghosts P} {T : Type 0} → Scene (OneFront P g) → Option (List ℕ) → Result T Stop → Type 0
Closes old taken result =
    (up0 down0 : Pipe) (w : World RunState) → InPlay old.now.honest up0 down0 old.now.up old.now.down 0 w old.now.ends
    → GoesWell result × Prints result old.taken taken (closing_text w)

-- the page of a line that loads one
abbrev pub load_of : LineForm → Option LoadedPage
load_of (load page) = Some page
load_of (forms.act a) = None
load_of (ask a) = None
load_of (forms.raw text) = None
load_of (forms.up n) = None
load_of (forms.down n) = None
load_of forms.settle = None
load_of show_front = None
load_of show_page = None
load_of show_sheets = None
load_of show_replies = None
load_of show_pauses = None
load_of show_panels = None
load_of (show_styles k) = None
load_of (close k) = None
