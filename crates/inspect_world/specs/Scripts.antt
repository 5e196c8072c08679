-- A script carried out line by line, and what it prints.
use Rattle.std.specs.Prelude.{ℕ, ◌+◌, Bool, List, [], ◌∷◌, ◌++◌, length, drop, codes, Option, Some, None, is_some}
use Rattle.page_tree.specs.Pages.{PageRow}
use Rattle.cdp_messages.specs.Asked.{command_text}
use Rattle.front_mirror.specs.declared.panels.PanelKind.{PanelKind}
use Rattle.front_mirror.specs.Outline.{outline_text, seen_line, node_line}
use Rattle.replay_script.specs.declared.faults.LineFault.{LineFault}
use Rattle.page_forms.specs.Pages.{LoadedPage}
use Rattle.replay_script.specs.Forms as forms
use Rattle.replay_script.specs.Forms.{AskForm, LineForm, load, ask, up, down, settle, show_front, show_page, show_sheets, show_replies}
use Rattle.replay_script.specs.Forms.{show_pauses, show_panels, show_styles, close}
use Rattle.node_tree.specs.Keys.{first_of}
use Rattle.css_objects.specs.declared.rules.Matched.{Matched}
use Rattle.cdp_messages.specs.declared.down.PauseData.{PauseData}
use Rattle.replay_script.specs.Script.{numbered_or, unless_bad, dropped, want_fault, script_fault, script_forms}
use Rattle.inspect_world.specs.Costs.{ask_edits}
use Rattle.session_runs.specs.World.{delivered_up, delivered_down, settled}
use Rattle.inspect_world.specs.World.{World, Audience, first_world, ask_sent, raw, turned}
use Rattle.inspect_world.specs.ShownReplies.{ShownReply, replies_in, told_lines}
use Rattle.inspect_world.specs.ActTexts.{act_text}
use Rattle.inspect_world.specs.SheetTexts.{sheet_lines}
use Rattle.inspect_world.specs.ShownPauses.{pauses_in, pause_lines}
use Rattle.inspect_world.specs.StylesTexts.{styles_headed}
use Rattle.inspect_world.specs.PanelTexts.{panels_text}
use Rattle.inspect_world.specs.RunStates.{RunState, run_start, styles_under, run_step, run_turn}
use Rattle.back_end.specs.States.{State, page_nodes, book_in, sheets_shown, view_of}
use Rattle.back_end.specs.Steps.{acts, loads}
use Rattle.back_end.specs.Plans.{act_fault}

-- ---- what a line does

-- the k-th ask is sent with the id k
abbrev pub sends : AskForm → World RunState → World RunState
sends a w = ask_sent (ask_edits a) (command_text (w.spent.asks + 1) a.method a.params a.session) w

-- the run after something was told
abbrev pub telling : Audience → World RunState → World RunState
telling told w = record w { told = told }

-- the replies that came are told
abbrev pub replies_told : World RunState → World RunState
replies_told w =
    telling (record w.told { so_far = record { replies = length (replies_in w.down.given); pauses = w.told.so_far.pauses } }) w

-- the pauses that came are told
abbrev pub pauses_told : World RunState → World RunState
pauses_told w =
    telling (record w.told { so_far = record { replies = w.told.so_far.replies; pauses = length (pauses_in w.down.given) } }) w

-- the panel at that place is dropped
abbrev pub panel_dropped : ℕ → World RunState → World RunState
panel_dropped place w = telling (record w.told { panels = dropped place w.told.panels }) w

-- The run after a line, by what a settle does to a run; an act that is refused leaves the state as it is.
abbrev pub after_line_by : (World RunState → World RunState) → LineForm → World RunState → World RunState
after_line_by settles (load page) w = turned run_turn (loads page) w
after_line_by settles (forms.act a) w = turned run_turn (acts a) w
after_line_by settles (ask a) w = sends a w
after_line_by settles (forms.raw text) w = raw text w
after_line_by settles (up n) w = delivered_up run_step n w
after_line_by settles (down n) w = delivered_down n w
after_line_by settles settle w = settles w
after_line_by settles show_front w = settles w
after_line_by settles show_page w = w
after_line_by settles show_sheets w = settles w
after_line_by settles show_replies w = replies_told (settles w)
after_line_by settles show_pauses w = pauses_told (settles w)
after_line_by settles show_panels w = settles w
after_line_by settles (show_styles k) w = settles w
after_line_by settles (close k) w = panel_dropped k w

-- the run after some lines
abbrev pub after_lines_by : (World RunState → World RunState) → List LineForm → World RunState → World RunState
after_lines_by settles [] w = w
after_lines_by settles (line ∷ lines) w = after_lines_by settles lines (after_line_by settles line w)

-- the run after a line, as the report tells it: a settle delivers all that is on its way
abbrev pub after_line : LineForm → World RunState → World RunState
after_line line w = after_line_by (settled run_step) line w

-- the run after some lines, as the report tells it
abbrev pub after_lines : List LineForm → World RunState → World RunState
after_lines lines w = after_lines_by (settled run_step) lines w

-- before the line after the load, with panels of these kinds
abbrev pub loaded_world : List PanelKind → LoadedPage → World RunState
loaded_world kinds page = first_world kinds (run_start page)

-- ---- what a line prints

-- what the client sees of the page, as an outline
abbrev pub outline_of : World RunState → List ℕ
outline_of w = outline_text seen_line (view_of w.state.back).tree

-- the line of a node of the page, by its serial
abbrev pub page_line : PageRow → List ℕ
page_line r = node_line r.serial r.label 0

-- the page itself, as an outline
abbrev pub page_outline : State → List ℕ
page_outline state = outline_text page_line (page_nodes state)

-- the sheets that the client sees
abbrev pub sheets_of : World RunState → List ℕ
sheets_of w = sheet_lines (sheets_shown w.state.back)

-- the replies that came after so many others
abbrev pub replies_after : ℕ → World RunState → List ShownReply
replies_after n w = drop n (replies_in w.down.given)

-- the pauses that came after so many others
abbrev pub pauses_since : ℕ → World RunState → List PauseData
pauses_since n w = drop n (pauses_in w.down.given)

-- the matched styles that answered the ask with that id, by the page as it was when the ask came to the back end
abbrev pub styles_at : ℕ → World RunState → Option Matched
styles_at k w = styles_under k w.state.styles

-- matched styles answered it
abbrev pub has_styles : World RunState → ℕ → Bool
has_styles w k = is_some (styles_at k w)

-- what the panels show that stand open
abbrev pub panels_of : World RunState → List ℕ
panels_of w = panels_text w.told.panels (view_of w.state.back).tree

-- a show of matched styles prints nothing where there are none; its heading ends in this text
abbrev pub styles_shown_headed : List ℕ → ℕ → Option Matched → List ℕ
styles_shown_headed behind k None = []
styles_shown_headed behind k (Some m) = styles_headed behind k m

-- the same where the heading ends in the number of the ask
abbrev pub styles_shown : ℕ → Option Matched → List ℕ
styles_shown k found = styles_shown_headed [] k found

-- what the line of that number prints
abbrev pub line_text : ℕ → LineForm → World RunState → List ℕ
line_text number (load page) w = []
line_text number (forms.act a) w = act_text number (act_fault a w.state.back.side.page (book_in w.state.back))
line_text number (ask a) w = []
line_text number (forms.raw text) w = []
line_text number (up n) w = []
line_text number (down n) w = []
line_text number settle w = []
line_text number show_front w = codes "# front" ++ 10 ∷ outline_of (settled run_step w)
line_text number show_page w = codes "# page" ++ 10 ∷ page_outline w.state.back
line_text number show_sheets w = codes "# sheets" ++ 10 ∷ sheets_of (settled run_step w)
line_text number show_replies w = codes "# replies" ++ 10 ∷ told_lines (replies_after w.told.so_far.replies (settled run_step w))
line_text number show_pauses w = codes "# pauses" ++ 10 ∷ pause_lines (pauses_since w.told.so_far.pauses (settled run_step w))
line_text number show_panels w = codes "# panels" ++ 10 ∷ panels_of (settled run_step w)
line_text number (show_styles k) w = styles_shown k (styles_at k (settled run_step w))
line_text number (close k) w = []

-- what some lines print, the first of which has that number
abbrev pub lines_text : ℕ → List LineForm → World RunState → List ℕ
lines_text number [] w = []
lines_text number (line ∷ lines) w = line_text number line w ++ lines_text (number + 1) lines (after_line line w)

-- after the last line
abbrev pub closing_text : World RunState → List ℕ
closing_text w = codes "# end" ++ 10 ∷ outline_of (settled run_step w)

-- ---- the report of a script

-- the fault of a line that drops a panel where none stands open, or shows what did not come
abbrev pub lacking : LineForm → World RunState → Option LineFault
lacking line w = want_fault (has_styles (settled run_step w)) w.told.panels line

-- the lines before the first with such a fault
abbrev pub shown_lines : List LineForm → World RunState → List LineForm
shown_lines [] w = []
shown_lines (line ∷ lines) w = unless_bad (lacking line w) (line ∷ shown_lines lines (after_line line w))

-- the number and the fault of that line, where the first of these has this number
abbrev pub first_lacking : ℕ → List LineForm → World RunState → Option (ℕ × LineFault)
first_lacking number [] w = None
first_lacking number (line ∷ lines) w = numbered_or number (lacking line w) (first_lacking (number + 1) lines (after_line line w))

-- the first line that is refused among those after the load: one that shows what did not come, or else the first that is refused
-- by its form
abbrev pub rest_refused : Option (ℕ × LineFault) → List LineForm → World RunState → Option (ℕ × LineFault)
rest_refused bad lines w = first_of (first_lacking 2 lines w) bad

-- nothing follows the lines before one that is refused
abbrev pub closing_unless : Option (ℕ × LineFault) → World RunState → List ℕ
closing_unless None w = closing_text w
closing_unless (Some bad) w = []

-- what lines after the load print, up to the first that is refused, and what follows them
abbrev pub rest_text : Option (ℕ × LineFault) → List LineForm → World RunState → List ℕ
rest_text bad lines w =
    let good = shown_lines lines w in
    lines_text 2 good w ++ closing_unless (rest_refused bad lines w) (after_lines good w)

-- what the lines of a script print, by the first that is refused
abbrev pub text_by_refusal : List PanelKind → Option (ℕ × LineFault) → List LineForm → List ℕ
text_by_refusal kinds bad [] = []
text_by_refusal kinds bad (load page ∷ lines) = rest_text bad lines (loaded_world kinds page)
text_by_refusal kinds bad (forms.act a ∷ lines) = []
text_by_refusal kinds bad (ask a ∷ lines) = []
text_by_refusal kinds bad (forms.raw text ∷ lines) = []
text_by_refusal kinds bad (up n ∷ lines) = []
text_by_refusal kinds bad (down n ∷ lines) = []
text_by_refusal kinds bad (settle ∷ lines) = []
text_by_refusal kinds bad (show_front ∷ lines) = []
text_by_refusal kinds bad (show_page ∷ lines) = []
text_by_refusal kinds bad (show_sheets ∷ lines) = []
text_by_refusal kinds bad (show_replies ∷ lines) = []
text_by_refusal kinds bad (show_pauses ∷ lines) = []
text_by_refusal kinds bad (show_panels ∷ lines) = []
text_by_refusal kinds bad (show_styles k ∷ lines) = []
text_by_refusal kinds bad (close k ∷ lines) = []

-- What a replay of the input writes, with panels of these kinds: what each line before the first that is refused prints, and after the
-- last line, where none is refused, the closing outline. No front end takes part in it.
abbrev pub report : List PanelKind → List ℕ → List ℕ
report kinds input = text_by_refusal kinds (script_fault input) (script_forms input)

-- The first line that is refused, by the run of the script.
abbrev pub refused_of : List PanelKind → Option (ℕ × LineFault) → List LineForm → Option (ℕ × LineFault)
refused_of kinds bad [] = bad
refused_of kinds bad (load page ∷ lines) = rest_refused bad lines (loaded_world kinds page)
refused_of kinds bad (forms.act a ∷ lines) = bad
refused_of kinds bad (ask a ∷ lines) = bad
refused_of kinds bad (forms.raw text ∷ lines) = bad
refused_of kinds bad (up n ∷ lines) = bad
refused_of kinds bad (down n ∷ lines) = bad
refused_of kinds bad (settle ∷ lines) = bad
refused_of kinds bad (show_front ∷ lines) = bad
refused_of kinds bad (show_page ∷ lines) = bad
refused_of kinds bad (show_sheets ∷ lines) = bad
refused_of kinds bad (show_replies ∷ lines) = bad
refused_of kinds bad (show_pauses ∷ lines) = bad
refused_of kinds bad (show_panels ∷ lines) = bad
refused_of kinds bad (show_styles k ∷ lines) = bad
refused_of kinds bad (close k ∷ lines) = bad

-- the number and the fault of the first line of an input that is refused
abbrev pub report_refused : List PanelKind → List ℕ → Option (ℕ × LineFault)
report_refused kinds input = refused_of kinds (script_fault input) (script_forms input)
