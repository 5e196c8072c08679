-- A script with two front ends carried out line by line, and what it prints: over the page, its two sessions and the two streams alone. No
-- front end takes part in it.
use Rattle.std.specs.Prelude.{ℕ, ◌+◌, Bool, true, false, List, [], ◌∷◌, ◌++◌, length, drop, codes, Option, Some, None, is_some, option_map}
use Rattle.std.specs.List.{flat_map}
use Rattle.serde_json.specs.Data.{Data, string}
use Rattle.node_tree.specs.Keys.{first_of}
use Rattle.cdp_messages.specs.Asked.{command_text}
use Rattle.cdp_messages.specs.declared.down.PauseData.{PauseData}
use Rattle.css_objects.specs.declared.rules.Matched.{Matched}
use Rattle.page_forms.specs.Pages.{LoadedPage}
use Rattle.front_mirror.specs.declared.panels.PanelKind.{PanelKind}
use Rattle.front_mirror.specs.Outline.{outline_text, seen_line}
use Rattle.replay_script.specs.declared.faults.LineFault.{LineFault}
use Rattle.replay_script.specs.Forms as forms
use Rattle.replay_script.specs.Forms.{AskForm, LineForm, load, ask, up, down, settle, show_front, show_page, show_sheets, show_replies}
use Rattle.replay_script.specs.Forms.{show_pauses, show_panels, show_styles, close}
use Rattle.replay_script.specs.Script.{numbered_or, dropped}
use Rattle.replay_script.specs.PairLines.{PairForm, attach_session, detach_session, of_first, of_second, Met, pair_want_fault}
use Rattle.replay_script.specs.PairScript.{pairs_unless_bad, pair_script_fault, pair_script_forms}
use Rattle.back_end.specs.States.{book_in, sheets_shown, view_of}
use Rattle.back_end.specs.Steps.{acts, loads}
use Rattle.back_end.specs.Plans.{act_fault}
use Rattle.session_mux.specs.Sessions.{session_text}
use Rattle.session_runs.specs.Passages.{sending, turning, delivering_up, delivering_down, settling}
use Rattle.session_runs.specs.PairRuns.{passing, targeting}
use Rattle.multi_replay.specs.States.{attach_text, detach_text}
use Rattle.inspect_world.specs.World.{nothing_told}
use Rattle.inspect_world.specs.RunStates.{styles_under}
use Rattle.inspect_world.specs.ShownReplies.{ShownReply, replies_among, told_lines}
use Rattle.inspect_world.specs.ShownPauses.{pauses_in_frame, pause_lines}
use Rattle.inspect_world.specs.ActTexts.{act_text}
use Rattle.inspect_world.specs.SheetTexts.{sheet_lines}
use Rattle.inspect_world.specs.PanelTexts.{panels_text}
use Rattle.inspect_world.specs.Scripts.{page_outline, styles_shown_headed}
use Rattle.pair_world.specs.PairRuns.{PairAudience, told_on, with_told, PairRun, pair_loaded_run, pair_settled, PairDeed, after_deeds_by}
use Rattle.pair_world.specs.PairRuns.{one_ask_on, one_attach, one_detach, none_more, asks_on, next_target, client_meant, state_on, came_on}

-- ---- what a line does

-- the session of an ask: the first front end's has none
abbrev pub session_on : Bool → Option ℕ → Option Data
session_on false attached = None
session_on true attached = option_map (λ k. string (session_text k)) attached

-- the k-th ask of a front end is sent with the id k
abbrev pub ask_deed : Bool → AskForm → PairRun → PairDeed
ask_deed second a w =
    passing (sending (command_text (asks_on second w.spent + 1) a.method a.params (session_on second w.state.attached)) (one_ask_on second))

-- all is delivered
abbrev pub settle_deed : PairDeed
settle_deed = passing settling

-- a detach is sent where a session is attached; between two lines no attach and no detach is on its way
abbrev pub detach_deeds : Option ℕ → ℕ → List PairDeed
detach_deeds None id = []
detach_deeds (Some k) id = targeting (detach_text id (session_text k)) one_detach ∷ []

-- what a line of any script does, where it is the first front end's
abbrev pub first_deeds : LineForm → PairRun → List PairDeed
first_deeds (load page) w = passing (turning (loads page)) ∷ []
first_deeds (forms.act a) w = passing (turning (acts a)) ∷ []
first_deeds (ask a) w = ask_deed false a w ∷ []
first_deeds (forms.raw text) w = passing (sending text none_more) ∷ []
first_deeds (up n) w = passing (delivering_up n) ∷ []
first_deeds (down n) w = passing (delivering_down n) ∷ []
first_deeds settle w = settle_deed ∷ []
first_deeds show_front w = settle_deed ∷ []
first_deeds show_page w = []
first_deeds show_sheets w = settle_deed ∷ []
first_deeds show_replies w = settle_deed ∷ []
first_deeds show_pauses w = settle_deed ∷ []
first_deeds show_panels w = settle_deed ∷ []
first_deeds (show_styles k) w = settle_deed ∷ []
first_deeds (close k) w = []

-- what one of the second front end does: only an ask and the shows of a front end may be its
abbrev pub second_deeds : LineForm → PairRun → List PairDeed
second_deeds (load page) w = []
second_deeds (forms.act a) w = []
second_deeds (ask a) w = ask_deed true a w ∷ []
second_deeds (forms.raw text) w = []
second_deeds (up n) w = []
second_deeds (down n) w = []
second_deeds settle w = []
second_deeds show_front w = settle_deed ∷ []
second_deeds show_page w = []
second_deeds show_sheets w = settle_deed ∷ []
second_deeds show_replies w = settle_deed ∷ []
second_deeds show_pauses w = settle_deed ∷ []
second_deeds show_panels w = []
second_deeds (show_styles k) w = settle_deed ∷ []
second_deeds (close k) w = []

-- what a line does, as parts of a run
abbrev pub deeds : PairForm → PairRun → List PairDeed
deeds attach_session w = targeting (attach_text (next_target w.spent)) one_attach ∷ []
deeds detach_session w = detach_deeds w.state.attached (next_target w.spent)
deeds (of_first form) w = first_deeds form w
deeds (of_second form) w = second_deeds form w

-- ---- who was told what

-- the run after something was told
abbrev pub pair_telling : PairAudience → PairRun → PairRun
pair_telling told w = record w { told = told }

-- the replies that came to the front end that is meant
abbrev pub pair_replies : Bool → PairRun → List ShownReply
pair_replies second w = replies_among (came_on second w)

-- the pauses that came to it
abbrev pub pair_pauses : Bool → PairRun → List PauseData
pair_pauses second w = flat_map pauses_in_frame (came_on second w)

-- all replies that came to it are told
abbrev pub replies_told_on : Bool → PairRun → PairAudience
replies_told_on second w =
    with_told second (record { replies = length (pair_replies second w); pauses = (told_on second w.told).pauses }) w.told

-- all pauses that came to it are told
abbrev pub pauses_told_on : Bool → PairRun → PairAudience
pauses_told_on second w =
    with_told second (record { replies = (told_on second w.told).replies; pauses = length (pair_pauses second w) }) w.told

-- who was told what after a line of any script that names this front end; only the first has panels
abbrev pub told_by_form : Bool → LineForm → PairRun → PairAudience
told_by_form second (load page) w = w.told
told_by_form second (forms.act a) w = w.told
told_by_form second (ask a) w = w.told
told_by_form second (forms.raw text) w = w.told
told_by_form second (up n) w = w.told
told_by_form second (down n) w = w.told
told_by_form second settle w = w.told
told_by_form second show_front w = w.told
told_by_form second show_page w = w.told
told_by_form second show_sheets w = w.told
told_by_form second show_replies w = replies_told_on second w
told_by_form second show_pauses w = pauses_told_on second w
told_by_form second show_panels w = w.told
told_by_form second (show_styles k) w = w.told
told_by_form false (close k) w = record w.told { panels = dropped k w.told.panels }
told_by_form true (close k) w = w.told

-- after a line; a second front end that was just made was told nothing
abbrev pub told_after : PairForm → PairRun → PairAudience
told_after attach_session w = with_told true nothing_told w.told
told_after detach_session w = w.told
told_after (of_first form) w = told_by_form false form w
told_after (of_second form) w = told_by_form true form w

-- ---- the run after lines

-- The run after a line, by what a settle does to a run.
abbrev pub after_pair_line_by : (PairRun → PairRun) → PairForm → PairRun → PairRun
after_pair_line_by settles form w =
    let done = after_deeds_by settles (deeds form w) w in
    pair_telling (told_after form done) done

-- the run after some lines
abbrev pub after_pair_lines_by : (PairRun → PairRun) → List PairForm → PairRun → PairRun
after_pair_lines_by settles [] w = w
after_pair_lines_by settles (line ∷ lines) w = after_pair_lines_by settles lines (after_pair_line_by settles line w)

-- the run after a line, as the report tells it: a settle delivers all that is on its way
abbrev pub after_pair_line : PairForm → PairRun → PairRun
after_pair_line form w = after_pair_line_by pair_settled form w

-- the run after some lines, as the report tells it
abbrev pub after_pair_lines : List PairForm → PairRun → PairRun
after_pair_lines lines w = after_pair_lines_by pair_settled lines w

-- ---- what a line prints

-- ` 2` at the end of a heading of the second front end
abbrev pub mark_on : Bool → List ℕ
mark_on false = []
mark_on true = codes " 2"

-- a heading: the front end that is meant stands in it where it is the second
abbrev pub heading_on : Bool → List ℕ → List ℕ
heading_on second words = words ++ mark_on second ++ 10 ∷ []

-- what a client sees of the page, as an outline
abbrev pub outline_on : Bool → PairRun → List ℕ
outline_on second w = outline_text seen_line (view_of (state_on second w.state)).tree

-- the sheets that a client sees
abbrev pub sheets_on : Bool → PairRun → List ℕ
sheets_on second w = sheet_lines (sheets_shown (state_on second w.state))

-- the replies that came since the last time
abbrev pub new_replies : Bool → PairRun → List ShownReply
new_replies second w = drop (told_on second w.told).replies (pair_replies second w)

-- the pauses that came since the last time
abbrev pub new_pauses : Bool → PairRun → List PauseData
new_pauses second w = drop (told_on second w.told).pauses (pair_pauses second w)

-- the matched styles that answered the ask with that id, by the page as it was when the ask came to the back end
abbrev pub styles_on : Bool → PairRun → ℕ → Option Matched
styles_on second w k = styles_under k (client_meant second w.state).styles

-- what the panels show that stand open: they are told of the first front end
abbrev pub pair_panels : PairRun → List ℕ
pair_panels w = panels_text w.told.panels (view_of (state_on false w.state)).tree

-- what a show of a front end prints, once all has come
abbrev pub show_text : Bool → LineForm → PairRun → List ℕ
show_text second (load page) w = []
show_text second (forms.act a) w = []
show_text second (ask a) w = []
show_text second (forms.raw text) w = []
show_text second (up n) w = []
show_text second (down n) w = []
show_text second settle w = []
show_text second show_front w = heading_on second (codes "# front") ++ outline_on second w
show_text second show_page w = []
show_text second show_sheets w = heading_on second (codes "# sheets") ++ sheets_on second w
show_text second show_replies w = heading_on second (codes "# replies") ++ told_lines (new_replies second w)
show_text second show_pauses w = heading_on second (codes "# pauses") ++ pause_lines (new_pauses second w)
show_text second show_panels w = []
show_text second (show_styles k) w = styles_shown_headed (mark_on second) k (styles_on second w k)
show_text second (close k) w = []

-- what a line of any script prints, where it is the first front end's
abbrev pub first_text : ℕ → LineForm → PairRun → List ℕ
first_text number (load page) w = []
first_text number (forms.act a) w = act_text number (act_fault a w.state.side.page (book_in (state_on false w.state)))
first_text number (ask a) w = []
first_text number (forms.raw text) w = []
first_text number (up n) w = []
first_text number (down n) w = []
first_text number settle w = []
first_text number show_front w = show_text false show_front (pair_settled w)
first_text number show_page w = codes "# page" ++ 10 ∷ page_outline (state_on false w.state)
first_text number show_sheets w = show_text false show_sheets (pair_settled w)
first_text number show_replies w = show_text false show_replies (pair_settled w)
first_text number show_pauses w = show_text false show_pauses (pair_settled w)
first_text number show_panels w = codes "# panels" ++ 10 ∷ pair_panels (pair_settled w)
first_text number (show_styles k) w = show_text false (show_styles k) (pair_settled w)
first_text number (close k) w = []

-- what the line of that number prints
abbrev pub pair_line_text : ℕ → PairForm → PairRun → List ℕ
pair_line_text number attach_session w = []
pair_line_text number detach_session w = []
pair_line_text number (of_first form) w = first_text number form w
pair_line_text number (of_second form) w = show_text true form (pair_settled w)

-- what some lines print, the first of which has that number
abbrev pub pair_lines_text : ℕ → List PairForm → PairRun → List ℕ
pair_lines_text number [] w = []
pair_lines_text number (line ∷ lines) w = pair_line_text number line w ++ pair_lines_text (number + 1) lines (after_pair_line line w)

-- the second outline at the end, where a session is attached
abbrev pub second_end : Option ℕ → PairRun → List ℕ
second_end None w = []
second_end (Some k) w = heading_on true (codes "# end") ++ outline_on true w

-- after the last line, once all has come
abbrev pub both_ends : PairRun → List ℕ
both_ends w = heading_on false (codes "# end") ++ outline_on false w ++ second_end w.state.attached w

-- after the last line
abbrev pub pair_closing : PairRun → List ℕ
pair_closing w = both_ends (pair_settled w)

-- ---- the report of a script

-- What a line meets that is in form: whether a session is attached, the panels that stand open, and of which asks the matched styles came
-- to either client. Between two lines no attach and no detach is on its way.
abbrev pub met_in : PairRun → Met PanelKind
met_in w = record {
  stands = is_some w.state.attached;
  panels = w.told.panels;
  first_came = λ k. is_some (styles_on false (pair_settled w) k);
  second_came = λ k. is_some (styles_on true (pair_settled w) k);
}

-- the fault of a line that is in form
abbrev pub pair_lacking : PairForm → PairRun → Option LineFault
pair_lacking line w = pair_want_fault (met_in w) line

-- the lines before the first with such a fault
abbrev pub pair_shown_lines : List PairForm → PairRun → List PairForm
pair_shown_lines [] w = []
pair_shown_lines (line ∷ lines) w =
    pairs_unless_bad (pair_lacking line w) (line ∷ pair_shown_lines lines (after_pair_line line w))

-- the number and the fault of that line, where the first of these has this number
abbrev pub pair_first_lacking : ℕ → List PairForm → PairRun → Option (ℕ × LineFault)
pair_first_lacking number [] w = None
pair_first_lacking number (line ∷ lines) w =
    numbered_or number (pair_lacking line w) (pair_first_lacking (number + 1) lines (after_pair_line line w))

-- the first line that is refused among those after the load: one that lacks something, or else the first that is refused by its form
abbrev pub pair_rest_refused : Option (ℕ × LineFault) → List PairForm → PairRun → Option (ℕ × LineFault)
pair_rest_refused bad lines w = first_of (pair_first_lacking 2 lines w) bad

-- nothing follows the lines before one that is refused
abbrev pub pair_closing_unless : Option (ℕ × LineFault) → PairRun → List ℕ
pair_closing_unless None w = pair_closing w
pair_closing_unless (Some bad) w = []

-- what lines after the load print, up to the first that is refused, and what follows them
abbrev pub pair_rest_text : Option (ℕ × LineFault) → List PairForm → PairRun → List ℕ
pair_rest_text bad lines w =
    let good = pair_shown_lines lines w in
    pair_lines_text 2 good w ++ pair_closing_unless (pair_rest_refused bad lines w) (after_pair_lines good w)

-- the page that a line loads
abbrev pub page_loaded_by : LineForm → Option LoadedPage
page_loaded_by (load page) = Some page
page_loaded_by (forms.act a) = None
page_loaded_by (ask a) = None
page_loaded_by (forms.raw text) = None
page_loaded_by (up n) = None
page_loaded_by (down n) = None
page_loaded_by settle = None
page_loaded_by show_front = None
page_loaded_by show_page = None
page_loaded_by show_sheets = None
page_loaded_by show_replies = None
page_loaded_by show_pauses = None
page_loaded_by show_panels = None
page_loaded_by (show_styles k) = None
page_loaded_by (close k) = None

-- the same of any line with two front ends
abbrev pub pair_page : PairForm → Option LoadedPage
pair_page attach_session = None
pair_page detach_session = None
pair_page (of_first form) = page_loaded_by form
pair_page (of_second form) = None

-- what the lines after one that loads a page print
abbrev pub pair_text_from : List PanelKind → Option (ℕ × LineFault) → Option LoadedPage → List PairForm → List ℕ
pair_text_from kinds bad None lines = []
pair_text_from kinds bad (Some page) lines = pair_rest_text bad lines (pair_loaded_run kinds page)

-- what the lines of a script print, by the first that is refused by its form
abbrev pub pair_text : List PanelKind → Option (ℕ × LineFault) → List PairForm → List ℕ
pair_text kinds bad [] = []
pair_text kinds bad (line ∷ lines) = pair_text_from kinds bad (pair_page line) lines

-- What a replay with two front ends writes, with panels of these kinds: what each line before the first that is refused prints, and after
-- the last line, where none is refused, the closing outlines.
abbrev pub pair_report : List PanelKind → List ℕ → List ℕ
pair_report kinds input = pair_text kinds (pair_script_fault input) (pair_script_forms input)

-- the first line that is refused of those after one that loads a page
abbrev pub pair_refused_from : List PanelKind → Option (ℕ × LineFault) → Option LoadedPage → List PairForm → Option (ℕ × LineFault)
pair_refused_from kinds bad None lines = bad
pair_refused_from kinds bad (Some page) lines = pair_rest_refused bad lines (pair_loaded_run kinds page)

-- the first of a script, by the first that is refused by its form
abbrev pub pair_refused_of : List PanelKind → Option (ℕ × LineFault) → List PairForm → Option (ℕ × LineFault)
pair_refused_of kinds bad [] = bad
pair_refused_of kinds bad (line ∷ lines) = pair_refused_from kinds bad (pair_page line) lines

-- the number and the fault of the first line of an input that is refused
abbrev pub pair_refused : List PanelKind → List ℕ → Option (ℕ × LineFault)
pair_refused kinds input = pair_refused_of kinds (pair_script_fault input) (pair_script_forms input)
