-- The lines of a script up to the first that is refused.
use Rattle.std.specs.Prelude.{◌≡◌, ℕ, zero, suc, ◌+◌, ◌-◌, ◌≤◌, map, take, MatchOption, List, [], ◌∷◌, ◌++◌, Bool, false, cond}
use Rattle.std.specs.Prelude.{Option, Some, None}
use Rattle.std.specs.Prelude.{is_some, option_and_then}
use Rattle.std.specs.Option.{option_map_or, option_to_list}
use Rattle.replay_script.specs.Lines.{lines_of}
use Rattle.node_tree.specs.Keys.{first_of}
use Rattle.replay_script.specs.Forms as forms
use Rattle.replay_script.specs.Forms.{LineForm, load, ask, up, down, settle, show_front, show_page, show_sheets, show_replies}
use Rattle.replay_script.specs.Forms.{show_pauses, show_panels, show_styles, close, line_form}
use Rattle.replay_script.specs.Faults.{line_fault}
use Rattle.replay_script.specs.declared.faults.LineFault.{LineFault}
use Rattle.replay_script.specs.declared.faults.LineFault.TheVariants.{NotLoad, NoPanel, NoStyles}

-- the fault with its number, or the later one where there is none
abbrev pub numbered_or : ℕ → Option LineFault → Option (ℕ × LineFault) → Option (ℕ × LineFault)
numbered_or number None later = later
numbered_or number (Some fault) later = Some (number, fault)

-- the number and the fault of the first line that is refused, where the first of these has this number
abbrev pub first_bad : ℕ → List (List ℕ) → Option (ℕ × LineFault)
first_bad number [] = None
first_bad number (line ∷ more) = numbered_or number (line_fault number line) (first_bad (number + 1) more)

-- no forms where the line is refused
abbrev pub unless_bad : Option LineFault → List LineForm → List LineForm
unless_bad None forms = forms
unless_bad (Some fault) forms = []

-- the forms of the lines before it
abbrev pub good_lines : ℕ → List (List ℕ) → List LineForm
good_lines number [] = []
good_lines number (line ∷ more) = unless_bad (line_fault number line) (option_to_list (line_form line) ++ good_lines (number + 1) more)

-- ---- a whole script

-- An input without a line has no load.
abbrev pub fault_of_lines : List (List ℕ) → Option (ℕ × LineFault)
fault_of_lines [] = Some (1, NotLoad)
fault_of_lines (line ∷ more) = first_bad 1 (line ∷ more)

-- the number and the fault of the first line that is refused
abbrev pub script_fault : List ℕ → Option (ℕ × LineFault)
script_fault input = fault_of_lines (lines_of input)

-- the forms of the lines before it
abbrev pub script_forms : List ℕ → List LineForm
script_forms input = good_lines 1 (lines_of input)

-- ---- panels that stand open

-- what stands at that place, counted from 0
abbrev pub standing : {K : Type 0} → ℕ → List (Option K) → Option K
standing i [] = None
standing zero (panel ∷ panels) = panel
standing (suc i) (panel ∷ panels) = standing i panels

-- a panel stands open at that place, counted from 1
abbrev pub stands_open : {K : Type 0} → ℕ → List (Option K) → Bool
stands_open zero panels = false
stands_open (suc i) panels = is_some (standing i panels)

-- the panels after the one at that place, counted from 0, was dropped
abbrev pub without : {K : Type 0} → ℕ → List (Option K) → List (Option K)
without i [] = []
without zero (panel ∷ panels) = None ∷ panels
without (suc i) (panel ∷ panels) = panel ∷ without i panels

-- the same by a place that is counted from 1
abbrev pub dropped : {K : Type 0} → ℕ → List (Option K) → List (Option K)
dropped zero panels = panels
dropped (suc i) panels = without i panels

-- the place of the panel that a line drops
abbrev pub closed_by : LineForm → Option ℕ
closed_by (load page) = None
closed_by (forms.act a) = None
closed_by (ask a) = None
closed_by (forms.raw text) = None
closed_by (up n) = None
closed_by (down n) = None
closed_by settle = None
closed_by show_front = None
closed_by show_page = None
closed_by show_sheets = None
closed_by show_replies = None
closed_by show_pauses = None
closed_by show_panels = None
closed_by (show_styles k) = None
closed_by (close k) = Some k

-- the fault of a line that drops a panel, by whether one stands open there
abbrev pub panel_missing : Bool → Option LineFault
panel_missing there = cond there None (Some NoPanel)

-- the fault of any line that drops a panel where none stands open
abbrev pub panel_fault : {K : Type 0} → List (Option K) → LineForm → Option LineFault
panel_fault panels line = option_and_then (λ k. panel_missing (stands_open k panels)) (closed_by line)

-- the panels after a line
abbrev pub panels_after : {K : Type 0} → LineForm → List (Option K) → List (Option K)
panels_after line panels = option_map_or (λ k. dropped k panels) (closed_by line) panels

-- the same by the line's bytes
abbrev pub panels_left : {K : Type 0} → List ℕ → List (Option K) → List (Option K)
panels_left line panels = option_map_or (λ form. panels_after form panels) (line_form line) panels

-- ---- lines that show what did not come

-- the ask whose matched styles a line shows
abbrev pub styles_ask : LineForm → Option ℕ
styles_ask (load page) = None
styles_ask (forms.act a) = None
styles_ask (ask a) = None
styles_ask (forms.raw text) = None
styles_ask (up n) = None
styles_ask (down n) = None
styles_ask settle = None
styles_ask show_front = None
styles_ask show_page = None
styles_ask show_sheets = None
styles_ask show_replies = None
styles_ask show_pauses = None
styles_ask show_panels = None
styles_ask (show_styles k) = Some k
styles_ask (close k) = None

-- the fault of a show of matched styles, by whether a reply told them
abbrev pub styles_missing : Bool → Option LineFault
styles_missing came = cond came None (Some NoStyles)

-- the fault of any line that shows matched styles which did not come; `came` says of which asks a reply told them
abbrev pub styles_fault : (ℕ → Bool) → LineForm → Option LineFault
styles_fault came line = option_and_then (λ k. styles_missing (came k)) (styles_ask line)

-- the fault of a line that is in form, by the panels that stand open and by the matched styles that came
abbrev pub want_fault : {K : Type 0} → (ℕ → Bool) → List (Option K) → LineForm → Option LineFault
want_fault came panels line = first_of (panel_fault panels line) (styles_fault came line)

-- the first fault of the line of that number: that of its form comes before
abbrev pub fault_where : {K : Type 0} → (ℕ → Bool) → List (Option K) → ℕ → List ℕ → Option LineFault
fault_where came panels number line = first_of (line_fault number line) (option_and_then (want_fault came panels) (line_form line))

-- The number and the fault of the first line that is refused, where the first of these has this number and these panels stand
-- open before it.
abbrev pub first_refused : {K : Type 0} → (ℕ → Bool) → List (Option K) → ℕ → List (List ℕ) → Option (ℕ × LineFault)
first_refused came panels number [] = None
first_refused came panels number (line ∷ more) =
    numbered_or number (fault_where came panels number line) (first_refused came (panels_left line panels) (number + 1) more)

-- an input without a line has no load
abbrev pub refused_of_lines : {K : Type 0} → (ℕ → Bool) → List (Option K) → List (List ℕ) → Option (ℕ × LineFault)
refused_of_lines came panels [] = Some (1, NotLoad)
refused_of_lines came panels (line ∷ more) = first_refused came panels 1 (line ∷ more)

-- the number and the fault of the first line of a script that is refused, where panels of these kinds were handed in
abbrev pub script_refused : {K : Type 0} → (ℕ → Bool) → List K → List ℕ → Option (ℕ × LineFault)
script_refused came kinds input = refused_of_lines came (map Some kinds) (lines_of input)

-- ---- what these are, in other words

-- The forms are those of the lines before the one with this number.
pub record StopsBefore (forms : List LineForm) (lines : List (List ℕ)) (number : ℕ) : Type 0 where
  pub least : 1 ≤ number
  pub before : map Some forms ≡ map line_form (take (number - 1) lines)

-- Where no line is refused, the forms are those of all lines, and else of those before the first that is refused; each of
-- these has one.
abbrev pub ScriptLaw : Type 0
ScriptLaw = (input : List ℕ) →
    let forms = script_forms input in
    let lines = lines_of input in
    MatchOption (script_fault input) (map Some forms ≡ map line_form lines) (λ bad. StopsBefore forms lines bad.0)
