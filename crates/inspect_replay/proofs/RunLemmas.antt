-- A run goes on line by line, and writes what the lines print.
use Rattle.std.proofs.Common.{◌≡◌, ℕ, ◌+◌, ◌≤◌, min, Bool, false, option_and_then, List, [], ◌∷◌, ◌++◌, length, map, drop, Option}
use Rattle.std.proofs.Common.{Some, None, refl, sym, ◌∙◌, ap, subst, arith, codes, Result, Ok, Err}
use Rattle.std.proofs.lemmas.List.{drop-map, drop_min, length-map}
use Rattle.std.specs.Option.{option_map_or}
use Rattle.std.specs.Result.{OnOk, OnErr}
use Rattle.node_tree.specs.Keys.{first_of}
use Rattle.std.specs.Io.KnownBytes.{Appends}
use Rattle.front_mirror.specs.declared.panels.Panel.{Ghosts}
use Rattle.pipe_frames.specs.Pipe.{Pipe, IsLevel}
use Rattle.pipe_frames.specs.Frames.{Frames, frames_of}
use Rattle.pipe_frames.specs.Whole.{WrotePart}
use Rattle.pipe_frames.proofs.WholeLemmas.{Appends-nil}
use Rattle.replay_script.specs.Forms as forms_of
use Rattle.replay_script.specs.Forms.{LineForm, load, show_front, show_page, show_sheets, show_replies, show_pauses}
use Rattle.replay_script.specs.Forms.{show_panels, line_form}
use Rattle.replay_script.specs.Faults.{line_fault}
use Rattle.replay_script.specs.Lines.{lines_of}
use Rattle.replay_script.specs.Script.{numbered_or, panels_after, panels_left, want_fault, first_refused, refused_of_lines}
use Rattle.replay_script.specs.Script.{script_refused, first_bad, good_lines, fault_of_lines, script_fault, script_forms}
use Rattle.page_forms.specs.Pages.{LoadedPage, CanLoadPage}
use Rattle.node_tree.specs.Nodes.{Nodes}
use Rattle.node_tree.specs.Seen.{Seen}
use Rattle.front_mirror.specs.declared.replies.Kept.{Kept}
use Rattle.front_mirror.specs.declared.panels.PanelKind.{PanelKind}
use Rattle.front_mirror.specs.Front.{FrontState, first_state, seen_pause}
use Rattle.front_mirror.specs.Outline.{outline_text, seen_line}
use Rattle.session_runs.specs.Stream.{awaited}
use Rattle.session_runs.specs.World.{settled}
use Rattle.inspect_world.specs.World.{World, AlreadyTold, Audience, nothing_told, Spent, raw, turned}
use Rattle.node_tree.specs.Nodes.{alone}
use Rattle.page_tree.specs.Pages.{PageValue}
use Rattle.back_end.specs.declared.faults.ActFault.{ActFault}
use Rattle.page_forms.specs.declared.acts.Act.{Act}
use Rattle.back_end.specs.declared.seat.Seat.{Seat}
use Rattle.back_end.specs.declared.side.PageSide.{PageSide}
use Rattle.back_end.specs.States.{loaded_state, page_nodes, book_in, sheets_shown, view_of}
use Rattle.back_end.specs.Steps.{acts}
use Rattle.inspect_world.specs.RunStates.{RunState, run_step, run_turn}
use Rattle.inspect_world.specs.ShownPauses.{pauses_in, seen_pause_lines}
use Rattle.front_mirror.specs.declared.pauses.SeenPause.{SeenPause}
use Rattle.back_end.specs.Laws.{IsTurn}
use Rattle.back_end.specs.Plans.{act_fault}
use Rattle.back_end.proofs.SeatLemmas.{on_ok}
use Rattle.back_end.specs.Seats.{IsSeated}
use Rattle.inspect_world.specs.Costs.{least_line, line_cost}
use Rattle.inspect_world.specs.Fits.{most_bytes, HasLeft, IsPlainFrame}
use Rattle.inspect_world.specs.FreshRuns.{front_fetcher, refreshes, fresh_line, Together}
use Rattle.inspect_world.specs.ActTexts.{act_text}
use Rattle.inspect_world.specs.Scripts.{page_line, after_line, line_text, rest_refused, refused_of, report_refused, closing_text, rest_text}
use Rattle.inspect_world.specs.Scripts.{text_by_refusal, report, loaded_world, panels_of}
use Rattle.inspect_world.specs.PanelTexts.{panels_text}
use Rattle.page_forms.specs.Texts.{PageHasTexts}
use Rattle.inspect_world.specs.ScriptsFit.{IsLater}
use Rattle.inspect_world.specs.Held.{Ends as HeldEnds, InWorld}
use Rattle.inspect_world.specs.ShownReplies.{reply_shown, told_lines, replies_in}
use Rattle.back_end.specs.Starts.{IsNewSeat}
use Rattle.back_end.proofs.StartLemmas.{stands-first}
use Rattle.inspect_replay.specs.Starts.{IsNew}
use Rattle.inspect_replay.specs.declared.one_front.OneFront.{OneFront}
use Rattle.replay_parts.specs.declared.stop.Stop.{Stop}
use Rattle.inspect_replay.specs.Runs.{InRun, InPlay, Spends, Steps, Refreshes, ends_of}
use Rattle.replay_parts.specs.Says.{Phase, untouched, reading, underway, ended, anywhen, Lie, Counts, PartRose, Says, says, status_of}
use Rattle.replay_parts.specs.LinkEnds.{LinkEnds}
use Rattle.replay_parts.specs.Moments.{moment, passage, scene}
use Rattle.replay_parts.specs.Stops.{AmidRun, two_counts, HasStopCause, GoesWell}
use Rattle.replay_parts.specs.Answers.{Absent, InRunOnly, TookAt, RunTook, Prints}
use Rattle.inspect_replay.specs.Prints.{CarriesOut, NumberedLine, numbered_line, Closes}
use Rattle.replay_script.proofs.ScriptLemmas.{first_bad-good, good_lines-good}
use Rattle.inspect_world.proofs.Scripts.{left-one, left-fewer, cost-least}
use Rattle.front_mirror.specs.declared.sheets.KnownSheet.{KnownSheet}
use Rattle.inspect_world.specs.SheetTexts.{sheet_lines, known_lines}
use Rattle.inspect_world.proofs.ShownSheets.{fresh-lines}
use Rattle.inspect_world.proofs.FetchesFit.{ShownThen, play-line, play-loaded, play-told, shown-then, refreshed-told}
use Rattle.inspect_replay.proofs.EndLemmas.{run-front}
use Rattle.inspect_world.proofs.Inputs.{input-script, Script}
use Rattle.inspect_world.proofs.Ends.{world-first, world-told}
use Rattle.replay_parts.proofs.StopLemmas.{after-ok}
use Rattle.replay_parts.proofs.PauseLineLemmas.{same-pauses}

-- nothing is printed
pub prints-nothing : {T : Type 0} (result : Result T Stop) (taken : Option (List ℕ)) → Prints result taken taken []
prints-nothing (Ok value) taken = Appends-nil taken
prints-nothing (Err stop) taken = record { part = []; rest = []; whole = refl; wrote = Appends-nil taken }

-- an error by which a part of a run stops is one by which the run stops
took-at : (phase : Phase) (lie : Option Lie) (P : Type 0) (before after : Option (List ℕ)) (text : List ℕ)
    → AmidRun phase P → Absent lie → WrotePart before after text → InRunOnly phase (TookAt phase lie before after text)
took-at untouched lie P before after text amid well wrote = absurd amid
took-at reading lie P before after text amid well wrote = absurd amid
took-at underway None P before after text amid well wrote = wrote
took-at underway (Some fault) P before after text amid well wrote = absurd well
took-at ended lie P before after text amid well wrote = absurd amid
took-at anywhen lie P before after text amid well wrote = wrote

pub part-took : (stop : Stop) (sink0 sink1 link0 link1 : ℕ) (before after : Option (List ℕ)) (text : List ℕ)
    → HasStopCause {T = Unit {0}} sink0 sink1 link0 link1 (Err stop) → GoesWell {T = Unit {0}} (Err stop) → WrotePart before after text
    → RunTook {T = Unit {0}} (Err stop) before after text
part-took stop sink0 sink1 link0 link1 before after text cause well wrote =
    let s : Says = says (status_of stop) in
    took-at s.phase s.lie (PartRose (two_counts sink0 sink1 link0 link1) s.failed) before after text cause.rose well wrote

-- ---- one line

-- room for lines of so many bytes is room for none
pub left-none : (n : Spent) (k : ℕ) → HasLeft n k → HasLeft n 0
left-none n k left = left-fewer n 0 k (omega arith) left

-- a call that takes the run with fetches over a line takes both runs over it
pub plays : {P : Type 0} {g : Ghosts P} {T : Type 0} (result : Result T Stop) (honest honest1 : Type 0) (up down up1 down1 : Pipe)
    (e e1 : OneFront P g)
    (f : World RunState → World RunState) (line : LineForm)
    → IsLater line → ((v : World RunState) → f v ≡ fresh_line front_fetcher line v)
    → ((v : World RunState) → (fresh_line front_fetcher line v).told ≡ v.told)
    → ((w : World RunState) → (after_line line w).told ≡ w.told)
    → Spends (line_cost line) (passage (moment honest up down e) (moment honest1 up1 down1 e1)) result f
    → (up0 down0 : Pipe) (more : ℕ) (w : World RunState) → InPlay honest up0 down0 up down (more + line_cost line) w e
    → GoesWell result × OnOk result (InPlay honest1 up0 down0 up1 down1 more (after_line line w) e1)
plays result honest honest1 up down up1 down1 e e1 f line later goes told told1 spends = λ up0 down0 more w play.
    let v : World RunState = play.fresh in
    let both = spends up0 down0 v (left-one v.spent more (line_cost line) play.both.left) play.in_run in (
      both.0,
      on_ok result _ _ both.1 (λ run. record {
        fresh = fresh_line front_fetcher line v;
        both = play-line line more w v later play.both;
        in_run = subst (λ x. InRun honest1 up0 down0 up1 down1 x e1) (goes v) run;
        told_is = told v ∙ play.told_is ∙ sym (told1 w);
      }),
    )

-- a line that sends a frame or makes a step prints nothing by itself
pub spend-carries : {P : Type 0} {g : Ghosts P} (result : Result (Unit {0}) Stop) (honest honest1 : Type 0) (up down up1 down1 : Pipe)
    (taken : Option (List ℕ))
    (e e1 : OneFront P g)
    (f : World RunState → World RunState) (number : ℕ) (move form : LineForm) → IsLater move
    → ((v : World RunState) → f v ≡ fresh_line front_fetcher move v)
    → ((v : World RunState) → (fresh_line front_fetcher move v).told ≡ v.told)
    → ((w : World RunState) → (after_line move w).told ≡ w.told)
    → ((w : World RunState) → [] ≡ line_text number move w) → form ≡ move
    → Spends (line_cost move) (passage (moment honest up down e) (moment honest1 up1 down1 e1)) result f
    → CarriesOut (scene (moment honest up down e) taken) (scene (moment honest1 up1 down1 e1) taken) (numbered_line number form) result
spend-carries result honest honest1 up down up1 down1 taken e e1 f number move form later goes told told1 silent is spends =
    subst (λ line. CarriesOut (scene (moment honest up down e) taken) (scene (moment honest1 up1 down1 e1) taken)
    (numbered_line number line) result) (sym is)
    (λ up0 down0 more w play. let both = plays result honest honest1 up down up1 down1 e e1 f move later goes told told1 spends up0 down0
    more w play in (
      both.0,
      both.1,
      subst (λ text. Prints result taken taken text) (silent w) (prints-nothing result taken),
    ))

-- nor does a line that delivers bytes
pub move-carries : {P : Type 0} {g : Ghosts P} (result : Result (Unit {0}) Stop) (honest honest1 : Type 0) (up down up1 down1 : Pipe)
    (taken : Option (List ℕ))
    (e e1 : OneFront P g)
    (f : World RunState → World RunState) (number : ℕ) (move form : LineForm) → IsLater move
    → ((v : World RunState) → f v ≡ fresh_line front_fetcher move v)
    → ((v : World RunState) → (fresh_line front_fetcher move v).told ≡ v.told)
    → ((w : World RunState) → (after_line move w).told ≡ w.told)
    → ((w : World RunState) → [] ≡ line_text number move w) → form ≡ move
    → Steps (moment honest up down e) (moment honest1 up1 down1 e1) result f
    → CarriesOut (scene (moment honest up down e) taken) (scene (moment honest1 up1 down1 e1) taken) (numbered_line number form) result
move-carries result honest honest1 up down up1 down1 taken e e1 f number move form later goes told told1 silent is steps =
    spend-carries result honest honest1 up down up1 down1 taken e e1 f number move form later goes told told1 silent is
    (λ up0 down0 w few run. steps up0 down0 w run)

-- a settle with its fetches may be a line's
pub settles-spend : {P : Type 0} {g : Ghosts P} {T : Type 0} (result : Result T Stop) (honest honest1 : Type 0)
    (up down up1 down1 : Pipe) (e e1 : OneFront P g)
    → Refreshes (moment honest up down e) (moment honest1 up1 down1 e1) result
    → Spends least_line (passage (moment honest up down e) (moment honest1 up1 down1 e1)) result (refreshes front_fetcher)
settles-spend result honest honest1 up down up1 down1 e e1 settles = λ up0 down0 w few run. settles up0 down0 w
    (left-none w.spent least_line few) run

-- a text that is sent is the line's
pub raw-spends : {P : Type 0} {g : Ghosts P} (result : Result (Unit {0}) Stop) (honest honest1 : Type 0) (up down up1 down1 : Pipe)
    (e e1 : OneFront P g)
    (text text1 : List ℕ)
    → text1 ≡ text
    → Spends least_line (passage (moment honest up down e) (moment honest1 up1 down1 e1)) result (λ w. raw text1 w)
    → Spends least_line (passage (moment honest up down e) (moment honest1 up1 down1 e1)) result (λ w. raw text w)
raw-spends result honest honest1 up down up1 down1 e e1 text text1 is spends =
    subst (λ t. Spends least_line (passage (moment honest up down e) (moment honest1 up1 down1 e1)) result (λ w. raw t w)) is spends

-- the same of equal lines
pub same-carries : {P : Type 0} {g : Ghosts P} (result : Result (Unit {0}) Stop) (honest honest1 : Type 0) (up down up1 down1 : Pipe)
    (taken taken1 : Option (List ℕ))
    (e e1 : OneFront P g) (number : ℕ) (line form : LineForm)
    → form ≡ line → CarriesOut (scene (moment honest up down e) taken) (scene (moment honest1 up1 down1 e1) taken1)
    (numbered_line number line) result
    → CarriesOut (scene (moment honest up down e) taken) (scene (moment honest1 up1 down1 e1) taken1) (numbered_line number form) result
same-carries result honest honest1 up down up1 down1 taken taken1 e e1 number line form is carries =
    subst (λ f. CarriesOut (scene (moment honest up down e) taken) (scene (moment honest1 up1 down1 e1) taken1)
    (numbered_line number f) result) (sym is) carries

-- after a settle the front end shows what the client sees of the page
pub shown-settled : {P : Type 0} {g : Ghosts P} (honest1 : Type 0) (up0 down0 up1 down1 : Pipe) (lines : ℕ) (w v : World RunState)
    (e1 : OneFront P g)
    → Together IsPlainFrame lines w v → InRun honest1 up0 down0 up1 down1 (refreshes front_fetcher v) e1 → ShownThen w e1.front.value
shown-settled honest1 up0 down0 up1 down1 lines w v e1 both after =
    shown-then lines w v e1.front.value both (run-front honest1 up0 down0 up1 down1 (refreshes front_fetcher v) e1 after)

-- a printed outline is that of the page
pub prints-same : {T : Type 0} (result : Result T Stop) (before after : Option (List ℕ)) (text text1 : List ℕ) → text ≡ text1
    → OnOk result (Appends before after text) → OnErr result (WrotePart before after text) → Prints result before after text1
prints-same (Ok value) before after text text1 same ok err = subst (λ t. Appends before after t) same ok
prints-same (Err stop) before after text text1 same ok err = subst (λ t. WrotePart before after t) same err

-- what a settle that came through takes a run to
abbrev pub SettlesTo : {P : Type 0} {g : Ghosts P} → Type 0 → Type 0 → Pipe → Pipe → Pipe → Pipe → OneFront P g → OneFront P g → Type 0
SettlesTo honest honest1 up down up1 down1 e e1 =
    (up0 down0 : Pipe) (w : World RunState) → HasLeft w.spent 0 → InRun honest up0 down0 up down w e
    → InRun honest1 up0 down0 up1 down1 (refreshes front_fetcher w) e1

-- a change of the page: what the page and its sheets say is refused is what the script's own state says
page-is : {P : Type 0} {g : Ghosts P} (honest : Type 0) (up0 down0 up down : Pipe) (lines : ℕ) (w : World RunState) (e : OneFront P g)
    → InPlay honest up0 down0 up down lines w e → e.side.page ≡ w.state.back.side.page
page-is honest up0 down0 up down lines w e play =
    play.in_run.so_far.in_world.stands.stands.page_is ∙ ap (λ (s : RunState). s.back.side.page) (sym play.both.runs.agrees.state)

sheets-are : {P : Type 0} {g : Ghosts P} (honest : Type 0) (up0 down0 up down : Pipe) (lines : ℕ) (w : World RunState) (e : OneFront P g)
    → InPlay honest up0 down0 up down lines w e → e.side.sheets.entries ≡ book_in w.state.back
sheets-are honest up0 down0 up down lines w e play =
    play.in_run.so_far.in_world.stands.stands.sheets_are ∙ ap (λ (s : RunState). book_in s.back) (sym play.both.runs.agrees.state)

pub act-carries : {P : Type 0} {g : Ghosts P} (result : Result (Unit {0}) Stop) (fault : Option ActFault) (honest honest1 : Type 0)
    (up down up1 down1 : Pipe)
    (taken taken1 : Option (List ℕ)) (e e1 : OneFront P g)
    (number : ℕ) (a : Act)
    → Spends {T = Option ActFault} least_line (passage (moment honest up down e) (moment honest1 up1 down1 e1)) (Ok fault)
    (λ w. turned run_turn (acts a) w)
    → IsTurn (acts a) → fault ≡ act_fault a e.side.page e.side.sheets.entries → GoesWell result
    → OnOk result (Appends taken taken1 (act_text number fault)) → OnErr result (WrotePart taken taken1 (act_text number fault))
    → CarriesOut (scene (moment honest up down e) taken) (scene (moment honest1 up1 down1 e1) taken1)
    (numbered_line number (forms_of.act a)) result
act-carries result fault honest honest1 up down up1 down1 taken taken1 e e1 number a spends later is never ok err = λ up0 down0 more w play.
    let both = plays {T = Option ActFault} (Ok fault) honest honest1 up down up1 down1 e e1 (λ v. turned run_turn (acts a) v)
    (forms_of.act a) later (λ v. refl) (λ v. refl) (λ v. refl) spends up0 down0 more w play in
    let says_same : fault ≡ act_fault a w.state.back.side.page (book_in w.state.back) =
    is ∙ ap (λ page. act_fault a page e.side.sheets.entries) (page-is honest up0 down0 up down (more + least_line) w e play)
    ∙ ap (act_fault a w.state.back.side.page) (sheets-are honest up0 down0 up down (more + least_line) w e play) in (
      never,
      after-ok result both.1,
      prints-same result taken taken1 (act_text number fault) (act_text number (act_fault a w.state.back.side.page (book_in w.state.back)))
          (ap (act_text number) says_same) ok err,
    )

-- or it was not made
pub act-stops : {P : Type 0} {g : Ghosts P} (stop : Stop) (honest honest1 : Type 0) (up down up1 down1 : Pipe) (taken : Option (List ℕ))
    (e e1 : OneFront P g)
    (line : NumberedLine) (f : World RunState → World RunState)
    → Spends {T = Option ActFault} least_line (passage (moment honest up down e) (moment honest1 up1 down1 e1)) (Err stop) f
    → CarriesOut {T = Unit {0}} (scene (moment honest up down e) taken) (scene (moment honest1 up1 down1 e1) taken) line (Err stop)
act-stops stop honest honest1 up down up1 down1 taken e e1 line f spends = λ up0 down0 more w play.
    let cost : least_line ≤ line_cost line.form = cost-least line.form in
    let left : HasLeft play.fresh.spent least_line = left-fewer play.fresh.spent least_line (more + line_cost line.form)
    (omega (arith, cost)) play.both.left in (
      (spends up0 down0 play.fresh left play.in_run).0,
      tt,
      record {
        part = [];
        rest = line_text line.number line.form w;
        whole = refl;
        wrote = Appends-nil taken;
      },
    )

-- the page itself is printed
pub page-carries : {P : Type 0} {g : Ghosts P} (result : Result (Unit {0}) Stop) (honest : Type 0) (up down : Pipe)
    (taken taken1 : Option (List ℕ))
    (e : OneFront P g)
    (number : ℕ) (page : PageValue)
    → page ≡ e.side.page → GoesWell result
    → OnOk result (Appends taken taken1 (codes "# page" ++ 10 ∷ outline_text page_line (alone page.tree)))
    → OnErr result (WrotePart taken taken1 (codes "# page" ++ 10 ∷ outline_text page_line (alone page.tree)))
    → CarriesOut (scene (moment honest up down e) taken) (scene (moment honest up down e) taken1) (numbered_line number show_page) result
page-carries result honest up down taken taken1 e number page is never ok err = λ up0 down0 more w play.
    let same : page ≡ w.state.back.side.page = is ∙ page-is honest up0 down0 up down (more + least_line) w e play in
    let still = plays {T = Unit {0}} (Ok tt) honest honest up down up down e e (λ v. v) show_page tt (λ v. refl) (λ v. refl) (λ v. refl)
    (λ up0 down0 v few run. (tt, run)) up0 down0 more w play in (
      never,
      after-ok result still.1,
      prints-same result taken taken1 (codes "# page" ++ 10 ∷ outline_text page_line (alone page.tree))
          (codes "# page" ++ 10 ∷ outline_text page_line (page_nodes w.state.back))
          (ap (λ (p : PageValue). codes "# page" ++ 10 ∷ outline_text page_line (alone p.tree)) same) ok err,
    )

-- a show that was printed
pub show-carries : {P : Type 0} {g : Ghosts P} (result : Result (Unit {0}) Stop) (honest honest1 : Type 0) (up down up1 down1 : Pipe)
    (taken taken1 : Option (List ℕ))
    (e e1 : OneFront P g)
    (number : ℕ) (tree : Nodes Seen)
    → SettlesTo honest honest1 up down up1 down1 e e1 → tree ≡ e1.front.value.tree → GoesWell result
    → OnOk result (Appends taken taken1 (codes "# front" ++ 10 ∷ outline_text seen_line tree))
    → OnErr result (WrotePart taken taken1 (codes "# front" ++ 10 ∷ outline_text seen_line tree))
    → CarriesOut (scene (moment honest up down e) taken) (scene (moment honest1 up1 down1 e1) taken1)
    (numbered_line number show_front) result
show-carries result honest honest1 up down up1 down1 taken taken1 e e1 number tree settles same never ok err = λ up0 down0 more w play.
    let v : World RunState = play.fresh in
    let after : InRun honest1 up0 down0 up1 down1 (refreshes front_fetcher v) e1 = settles up0 down0 v
    (left-none v.spent (more + least_line) play.both.left) play.in_run in
    let shown : ShownThen w e1.front.value = shown-settled honest1 up0 down0 up1 down1 (more + least_line) w v e1 play.both after in
    let shows : tree ≡ (view_of (settled run_step w).state.back).tree = same ∙ shown.has.tree in
    let both = plays {T = Unit {0}} (Ok tt) honest honest1 up down up1 down1 e e1 (refreshes front_fetcher) show_front tt
    (λ v. refl) refreshed-told (λ v. refl)
    (λ up0 down0 v few run. (tt, settles up0 down0 v (left-none v.spent least_line few) run)) up0 down0 more w play in (
      never,
      after-ok result both.1,
      prints-same result taken taken1 (codes "# front" ++ 10 ∷ outline_text seen_line tree)
          (codes "# front" ++ 10 ∷ outline_text seen_line (view_of (settled run_step w).state.back).tree)
          (ap (λ t. codes "# front" ++ 10 ∷ outline_text seen_line t) shows) ok err,
    )

-- a show of the sheets that was printed
pub sheets-carries : {P : Type 0} {g : Ghosts P} (result : Result (Unit {0}) Stop) (honest honest1 : Type 0) (up down up1 down1 : Pipe)
    (taken taken1 : Option (List ℕ)) (e e1 : OneFront P g)
    (number : ℕ) (sheets : List KnownSheet)
    → SettlesTo honest honest1 up down up1 down1 e e1 → sheets ≡ e1.front.value.sheets → GoesWell result
    → OnOk result (Appends taken taken1 (codes "# sheets" ++ 10 ∷ known_lines sheets))
    → OnErr result (WrotePart taken taken1 (codes "# sheets" ++ 10 ∷ known_lines sheets))
    → CarriesOut (scene (moment honest up down e) taken) (scene (moment honest1 up1 down1 e1) taken1)
    (numbered_line number show_sheets) result
sheets-carries result honest honest1 up down up1 down1 taken taken1 e e1 number sheets settles same never ok err = λ up0 down0 more w play.
    let v : World RunState = play.fresh in
    let after : InRun honest1 up0 down0 up1 down1 (refreshes front_fetcher v) e1 = settles up0 down0 v
    (left-none v.spent (more + least_line) play.both.left) play.in_run in
    let shown : ShownThen w e1.front.value = shown-settled honest1 up0 down0 up1 down1 (more + least_line) w v e1 play.both after in
    let shows : known_lines sheets ≡ sheet_lines (sheets_shown (settled run_step w).state.back) =
    ap known_lines same ∙ fresh-lines e1.front.value.sheets (sheets_shown (settled run_step w).state.back) shown.has.sheets shown.fresh in
    let both = plays {T = Unit {0}} (Ok tt) honest honest1 up down up1 down1 e e1 (refreshes front_fetcher) show_sheets tt
    (λ v. refl) refreshed-told (λ v. refl)
    (λ up0 down0 v few run. (tt, settles up0 down0 v (left-none v.spent least_line few) run)) up0 down0 more w play in (
      never,
      after-ok result both.1,
      prints-same result taken taken1 (codes "# sheets" ++ 10 ∷ known_lines sheets)
          (codes "# sheets" ++ 10 ∷ sheet_lines (sheets_shown (settled run_step w).state.back))
          (ap (λ t. codes "# sheets" ++ 10 ∷ t) shows) ok err,
    )

-- a show that did not settle
pub show-stops : {P : Type 0} {g : Ghosts P} (stop : Stop) (honest honest1 : Type 0) (up down up1 down1 : Pipe) (taken : Option (List ℕ))
    (e e1 : OneFront P g)
    (line : NumberedLine)
    → ((up0 down0 : Pipe) (w : World RunState) → HasLeft w.spent 0 → InRun honest up0 down0 up down w e
    → GoesWell {T = Unit {0}} (Err stop))
    → CarriesOut {T = Unit {0}} (scene (moment honest up down e) taken) (scene (moment honest1 up1 down1 e1) taken) line (Err stop)
show-stops stop honest honest1 up down up1 down1 taken e e1 line never = λ up0 down0 more w play. (
  never up0 down0 play.fresh (left-none play.fresh.spent
      (more + line_cost line.form) play.both.left) play.in_run,
  tt,
  record {
    part = [];
    rest = line_text line.number line.form w;
    whole = refl;
    wrote = Appends-nil taken;
  },
)

-- ---- the replies and the pauses

-- those of the ones that came that are left to tell
pub record Untold {A : Type 0} (told : ℕ) (came kept : List A) : Type 0 where
  pub all : List A
  pub all_is : all ≡ came
  pub count : ℕ
  pub count_is : count ≡ min told (length all)
  pub kept_is : kept ≡ drop count all

-- they are those that came after the others
untold-are : {A B : Type 0} (f : A → B) (told told1 : ℕ) (came kept : List A) (all : List B) → Untold told came kept → told ≡ told1
    → map f came ≡ all → map f kept ≡ drop told1 all
untold-are f told told1 came kept all u same is =
    ap (map f) u.kept_is
    ∙ ap (λ m. map f (drop m u.all)) u.count_is
    ∙ ap (map f) (drop_min told u.all)
    ∙ sym (drop-map f told u.all)
    ∙ ap (λ m. drop m (map f u.all)) same
    ∙ ap (λ ks. drop told1 (map f ks)) u.all_is
    ∙ ap (drop told1) is

abbrev pub replies_text : List Kept → List ℕ
replies_text kept = codes "# replies" ++ 10 ∷ told_lines (map reply_shown kept)

replies-same : {P : Type 0} {g : Ghosts P} (number : ℕ) (w : World RunState) (e1 : OneFront P g) (kept : List Kept) → ShownThen w
    e1.front.value
    → e1.told ≡ w.told.so_far.replies
    → Untold e1.told e1.front.value.replies kept
    → replies_text kept ≡ line_text number show_replies w
replies-same number w e1 kept shown told u =
    ap (λ ts. codes "# replies" ++ 10 ∷ told_lines ts)
    (untold-are reply_shown e1.told w.told.so_far.replies e1.front.value.replies kept
    (replies_in (settled run_step w).down.given) u told shown.told)

abbrev pub pauses_text : List SeenPause → List ℕ
pauses_text kept = codes "# pauses" ++ 10 ∷ seen_pause_lines kept

map-id : {A : Type 0} (xs : List A) → map (λ (x : A). x) xs ≡ xs
map-id [] = refl
map-id (x ∷ xs) = ap (λ ys. x ∷ ys) (map-id xs)

pauses-same : {P : Type 0} {g : Ghosts P} (number : ℕ) (w : World RunState) (e1 : OneFront P g) (kept : List SeenPause)
    → ShownThen w e1.front.value
    → e1.told_pauses ≡ w.told.so_far.pauses
    → Untold e1.told_pauses e1.front.value.pauses kept → pauses_text kept ≡ line_text number show_pauses w
pauses-same number w e1 kept shown told u =
    let came = pauses_in (settled run_step w).down.given in
    let left : kept ≡ drop w.told.so_far.pauses (map seen_pause came) =
    sym (map-id kept) ∙ untold-are (λ (p : SeenPause). p) e1.told_pauses w.told.so_far.pauses e1.front.value.pauses kept
    (map seen_pause came) u told (map-id e1.front.value.pauses ∙ shown.pauses) in
    ap (λ ps. codes "# pauses" ++ 10 ∷ seen_pause_lines ps) (left ∙ drop-map seen_pause w.told.so_far.pauses came)
    ∙ ap (λ text. codes "# pauses" ++ 10 ∷ text) (same-pauses (drop w.told.so_far.pauses came))

-- a settle that came through, before something is told
record BeforeTold {P : Type 0} {g : Ghosts P} (honest1 : Type 0) (up0 down0 up1 down1 : Pipe) (w v : World RunState)
    (e1 : OneFront P g) : Type 0 where
  after : InRun honest1 up0 down0 up1 down1 (refreshes front_fetcher v) e1
  shown : ShownThen w e1.front.value
  told : (ends_of e1).told ≡ w.told.so_far
  panels : (refreshes front_fetcher v).told.panels ≡ w.told.panels

before-told : {P : Type 0} {g : Ghosts P} (honest honest1 : Type 0) (up0 down0 up down up1 down1 : Pipe) (more : ℕ) (w : World RunState)
    (e e1 : OneFront P g)
    → SettlesTo honest honest1 up down up1 down1 e e1 → (play : InPlay honest up0 down0 up down (more + least_line) w e)
    → BeforeTold honest1 up0 down0 up1 down1 w play.fresh e1
before-told honest honest1 up0 down0 up down up1 down1 more w e e1 settles play =
    let v : World RunState = play.fresh in
    let after : InRun honest1 up0 down0 up1 down1 (refreshes front_fetcher v) e1 = settles up0 down0 v
    (left-none v.spent (more + least_line) play.both.left) play.in_run in
    record {
      after = after;
      shown = shown-settled honest1 up0 down0 up1 down1 (more + least_line) w v e1 play.both after;
      told = after.so_far.in_world.told_is ∙ ap (λ (n : Audience). n.so_far) (refreshed-told v ∙ play.told_is);
      panels = ap (λ (n : Audience). n.panels) (refreshed-told v ∙ play.told_is);
    }

-- the same world, with something told
abbrev told_to : AlreadyTold → World RunState → World RunState
told_to n v = record v { told = record v.told { so_far = n } }

-- what was printed counts as told, in both runs alike
told-play : {P : Type 0} {g : Ghosts P} (line : LineForm) (honest1 : Type 0) (up0 down0 up1 down1 : Pipe) (more : ℕ) (w v : World RunState)
    (e1 e2 : OneFront P g)
    (n : AlreadyTold)
    → IsLater line → fresh_line front_fetcher line v ≡ told_to (fresh_line front_fetcher line v).told.so_far (refreshes front_fetcher v)
    → Together IsPlainFrame (more + line_cost line) w v → InRun honest1 up0 down0 up1 down1 (refreshes front_fetcher v) e1
    → ends_of e2 ≡ record (ends_of e1) { told = n } → e2.ends.splitter ≡ e1.ends.splitter
    → record (refreshes front_fetcher v).told { so_far = n } ≡ (after_line line w).told
    → InPlay honest1 up0 down0 up1 down1 more (after_line line w) e2
told-play line honest1 up0 down0 up1 down1 more w v e1 e2 n later is both after told same counts =
    let v1 = refreshes front_fetcher v in
    let together : Together IsPlainFrame more (after_line line w) (told_to (fresh_line front_fetcher line v).told.so_far v1) =
    subst (Together IsPlainFrame more (after_line line w)) is (play-line line more w v later both) in
    let whole : e1.ends.splitter.whole ≡ e2.ends.splitter.whole = ap (λ (f : Frames). f.whole) (sym same) in
    record {
      fresh = told_to n v1;
      both = play-told more (after_line line w) (told_to (fresh_line front_fetcher line v).told.so_far v1)
          (record v1.told { so_far = n }) together;
      in_run = record {
        so_far = record {
          is_honest = after.so_far.is_honest;
          in_world = subst (λ frames. InWorld up0 down0 up1 down1 (told_to n v1) (frames ++ awaited v1.up) (ends_of e2)) whole
              (subst (λ h. InWorld up0 down0 up1 down1 (told_to n v1) (e1.ends.splitter.whole ++ awaited v1.up) h) (sym told)
              (world-told up0 down0 up1 down1 v1 (e1.ends.splitter.whole ++ awaited v1.up) (ends_of e1) n after.so_far.in_world));
        };
        none_whole = sym whole ∙ after.none_whole;
      };
      told_is = counts;
    }

-- the replies were printed, and count as told
pub replies-carried : {P : Type 0} {g : Ghosts P} (number : ℕ) (honest honest1 : Type 0) (up down up1 down1 : Pipe)
    (taken taken1 : Option (List ℕ))
    (e e1 e2 : OneFront P g)
    (kept : List Kept)
    → SettlesTo honest honest1 up down up1 down1 e e1 → Untold e1.told e1.front.value.replies kept
    → Appends taken taken1 (replies_text kept) → e2 ≡ record e1 { told = length e1.front.value.replies }
    → CarriesOut {T = Unit {0}} (scene (moment honest up down e) taken) (scene (moment honest1 up1 down1 e2) taken1)
    (numbered_line number show_replies) (Ok tt)
replies-carried number honest honest1 up down up1 down1 taken taken1 e e1 e2 kept settles u printed told = λ up0 down0 more w play.
    let v : World RunState = play.fresh in
    let before : BeforeTold honest1 up0 down0 up1 down1 w v e1 = before-told honest honest1 up0 down0 up down up1 down1 more w e e1 settles
    play in
    let count : ℕ = length e1.front.value.replies in
    let all : count ≡ length (replies_in (settled run_step w).down.given) = sym
    (length-map e1.front.value.replies reply_shown) ∙ ap length before.shown.told in (
      tt,
      told-play show_replies honest1 up0 down0 up1 down1 more w v e1 e2
          (record { replies = count; pauses = e1.told_pauses }) tt refl play.both before.after
          (ap ends_of told) (λ i. (told i).ends.splitter)
          (λ i. record { so_far = record { replies = all i; pauses = (before.told i).pauses }; panels = before.panels i }),
      subst (λ t. Appends taken taken1 t)
          (replies-same number w e1 kept before.shown (ap (λ (n : AlreadyTold). n.replies) before.told) u) printed,
    )

-- or they were not
pub replies-stop : {P : Type 0} {g : Ghosts P} (number : ℕ) (stop : Stop) (honest honest1 : Type 0) (up down up1 down1 : Pipe)
    (taken taken1 : Option (List ℕ))
    (e e1 e2 : OneFront P g) (kept : List Kept)
    → SettlesTo honest honest1 up down up1 down1 e e1 → Untold e1.told e1.front.value.replies kept
    → GoesWell {T = Unit {0}} (Err stop) → WrotePart taken taken1 (replies_text kept)
    → CarriesOut {T = Unit {0}} (scene (moment honest up down e) taken) (scene (moment honest1 up1 down1 e2) taken1)
    (numbered_line number show_replies) (Err stop)
replies-stop number stop honest honest1 up down up1 down1 taken taken1 e e1 e2 kept settles u never wrote = λ up0 down0 more w play.
    let before : BeforeTold honest1 up0 down0 up1 down1 w play.fresh e1 = before-told honest honest1 up0 down0 up down up1 down1 more w e
    e1 settles play in (
      never,
      tt,
      subst (λ t. WrotePart taken taken1 t)
          (replies-same number w e1 kept before.shown (ap (λ (n : AlreadyTold). n.replies) before.told) u) wrote,
    )

-- the pauses were printed, and count as told
pub pauses-carried : {P : Type 0} {g : Ghosts P} (number : ℕ) (honest honest1 : Type 0) (up down up1 down1 : Pipe)
    (taken taken1 : Option (List ℕ))
    (e e1 e2 : OneFront P g)
    (kept : List SeenPause)
    → SettlesTo honest honest1 up down up1 down1 e e1 → Untold e1.told_pauses e1.front.value.pauses kept
    → Appends taken taken1 (pauses_text kept) → e2 ≡ record e1 { told_pauses = length e1.front.value.pauses }
    → CarriesOut {T = Unit {0}} (scene (moment honest up down e) taken) (scene (moment honest1 up1 down1 e2) taken1)
    (numbered_line number show_pauses) (Ok tt)
pauses-carried number honest honest1 up down up1 down1 taken taken1 e e1 e2 kept settles u printed told = λ up0 down0 more w play.
    let v : World RunState = play.fresh in
    let before : BeforeTold honest1 up0 down0 up1 down1 w v e1 = before-told honest honest1 up0 down0 up down up1 down1 more w e e1 settles
    play in
    let count : ℕ = length e1.front.value.pauses in
    let came = pauses_in (settled run_step w).down.given in
    let all : count ≡ length came = ap length before.shown.pauses ∙ length-map came seen_pause in (
      tt,
      told-play show_pauses honest1 up0 down0 up1 down1 more w v e1 e2
          (record { replies = e1.told; pauses = count }) tt refl play.both before.after
          (ap ends_of told) (λ i. (told i).ends.splitter)
          (λ i. record { so_far = record { replies = (before.told i).replies; pauses = all i }; panels = before.panels i }),
      subst (λ t. Appends taken taken1 t)
          (pauses-same number w e1 kept before.shown (ap (λ (n : AlreadyTold). n.pauses) before.told) u) printed,
    )

-- or they were not
pub pauses-stop : {P : Type 0} {g : Ghosts P} (number : ℕ) (stop : Stop) (honest honest1 : Type 0) (up down up1 down1 : Pipe)
    (taken taken1 : Option (List ℕ))
    (e e1 e2 : OneFront P g) (kept : List SeenPause)
    → SettlesTo honest honest1 up down up1 down1 e e1 → Untold e1.told_pauses e1.front.value.pauses kept
    → GoesWell {T = Unit {0}} (Err stop) → WrotePart taken taken1 (pauses_text kept)
    → CarriesOut {T = Unit {0}} (scene (moment honest up down e) taken) (scene (moment honest1 up1 down1 e2) taken1)
    (numbered_line number show_pauses) (Err stop)
pauses-stop number stop honest honest1 up down up1 down1 taken taken1 e e1 e2 kept settles u never wrote = λ up0 down0 more w play.
    let before : BeforeTold honest1 up0 down0 up1 down1 w play.fresh e1 = before-told honest honest1 up0 down0 up down up1 down1 more w e
    e1 settles play in (
      never,
      tt,
      subst (λ t. WrotePart taken taken1 t)
          (pauses-same number w e1 kept before.shown (ap (λ (n : AlreadyTold). n.pauses) before.told) u) wrote,
    )

-- ---- the panels

-- what a show of the panels prints, by the front end
abbrev pub panels_shown : FrontState → List ℕ
panels_shown front = codes "# panels" ++ 10 ∷ panels_text front.panels front.value.tree

-- a show of the panels that was printed
pub panels-carries : {P : Type 0} {g : Ghosts P} (result : Result (Unit {0}) Stop) (honest honest1 : Type 0) (up down up1 down1 : Pipe)
    (taken taken1 : Option (List ℕ)) (e e1 : OneFront P g) (number : ℕ) (front : FrontState)
    → SettlesTo honest honest1 up down up1 down1 e e1 → front ≡ e1.front → GoesWell result
    → (front.dead ≡ false → OnOk result (Appends taken taken1 (panels_shown front)))
    → (front.dead ≡ false → OnErr result (WrotePart taken taken1 (panels_shown front)))
    → CarriesOut (scene (moment honest up down e) taken) (scene (moment honest1 up1 down1 e1) taken1)
    (numbered_line number show_panels) result
panels-carries result honest honest1 up down up1 down1 taken taken1 e e1 number front settles same never ok err = λ up0 down0 more w play.
    let v : World RunState = play.fresh in
    let after : InRun honest1 up0 down0 up1 down1 (refreshes front_fetcher v) e1 = settles up0 down0 v
    (left-none v.spent (more + least_line) play.both.left) play.in_run in
    let shown : ShownThen w e1.front.value = shown-settled honest1 up0 down0 up1 down1 (more + least_line) w v e1 play.both after in
    let front_is = same ∙ after.so_far.in_world.front_is in
    let alive : front.dead ≡ false = ap (λ (s : FrontState). s.dead) front_is in
    let panels : front.panels ≡ w.told.panels =
    ap (λ (s : FrontState). s.panels) front_is ∙ ap (λ (n : Audience). n.panels) (refreshed-told v ∙ play.told_is) in
    let tree : front.value.tree ≡ (view_of (settled run_step w).state.back).tree =
    ap (λ (s : FrontState). s.value.tree) same ∙ shown.has.tree in
    let both = plays {T = Unit {0}} (Ok tt) honest honest1 up down up1 down1 e e1 (refreshes front_fetcher) show_panels tt
    (λ v. refl) refreshed-told (λ v. refl)
    (λ up0 down0 v few run. (tt, settles up0 down0 v (left-none v.spent least_line few) run)) up0 down0 more w play in (
      never,
      after-ok result both.1,
      prints-same result taken taken1 (panels_shown front) (codes "# panels" ++ 10 ∷ panels_of (settled run_step w))
          (ap (λ ps. codes "# panels" ++ 10 ∷ panels_text ps front.value.tree) panels
          ∙ ap (λ t. codes "# panels" ++ 10 ∷ panels_text w.told.panels t) tree) (ok alive) (err alive),
    )

-- the closing part that was printed
pub closes-well : {P : Type 0} {g : Ghosts P} (result : Result (Unit {0}) Stop) (honest honest1 : Type 0) (up down up1 down1 : Pipe)
    (taken taken1 : Option (List ℕ))
    (e e1 : OneFront P g)
    (tree : Nodes Seen)
    → SettlesTo honest honest1 up down up1 down1 e e1 → tree ≡ e1.front.value.tree → GoesWell result
    → OnOk result (Appends taken taken1 (codes "# end" ++ 10 ∷ outline_text seen_line tree))
    → OnErr result (WrotePart taken taken1 (codes "# end" ++ 10 ∷ outline_text seen_line tree))
    → Closes (scene (moment honest up down e) taken) taken1 result
closes-well result honest honest1 up down up1 down1 taken taken1 e e1 tree settles same never ok err = λ up0 down0 w play.
    let v : World RunState = play.fresh in
    let after : InRun honest1 up0 down0 up1 down1 (refreshes front_fetcher v) e1 = settles up0 down0 v play.both.left play.in_run in
    let shown : ShownThen w e1.front.value = shown-settled honest1 up0 down0 up1 down1 0 w v e1 play.both after in
    let shows : tree ≡ (view_of (settled run_step w).state.back).tree = same ∙ shown.has.tree in (
      never,
      prints-same result taken taken1 (codes "# end" ++ 10 ∷ outline_text seen_line tree)
          (codes "# end" ++ 10 ∷ outline_text seen_line (view_of (settled run_step w).state.back).tree)
          (ap (λ t. codes "# end" ++ 10 ∷ outline_text seen_line t) shows) ok err,
    )

pub closes-not : {P : Type 0} {g : Ghosts P} (stop : Stop) (honest : Type 0) (up down : Pipe) (taken : Option (List ℕ)) (e : OneFront P g)
    → ((up0 down0 : Pipe) (w : World RunState) → HasLeft w.spent 0 → InRun honest up0 down0 up down w e
    → GoesWell {T = Unit {0}} (Err stop))
    → Closes {T = Unit {0}} (scene (moment honest up down e) taken) taken (Err stop)
closes-not stop honest up down taken e never = λ up0 down0 w play. (
  never up0 down0 play.fresh play.both.left play.in_run,
  record {
    part = [];
    rest = closing_text w;
    whole = refl;
    wrote = Appends-nil taken;
  },
)

-- ---- the whole script

-- the lines of a script whose first line is good
pub forms-first : (input first : List ℕ) (more : List (List ℕ)) (form : LineForm)
    → lines_of input ≡ first ∷ more → line_fault 1 first ≡ None → line_form first ≡ Some form
    → script_forms input ≡ form ∷ good_lines 2 more
forms-first input first more form lines good is = ap (good_lines 1) lines ∙ good_lines-good 1 first more form good is

pub bad-first : (input first : List ℕ) (more : List (List ℕ)) → lines_of input ≡ first ∷ more → line_fault 1 first ≡ None
    → script_fault input ≡ first_bad 2 more
bad-first input first more lines good = ap fault_of_lines lines ∙ first_bad-good 1 first more good

pub script-loads : (input first : List ℕ) (more : List (List ℕ)) (page : LoadedPage)
    → lines_of input ≡ first ∷ more → line_fault 1 first ≡ None → line_form first ≡ Some (load page)
    → Script page (good_lines 2 more) (length input)
script-loads input first more page lines good is = input-script input page (good_lines 2 more)
    (forms-first input first more (load page) lines good is)

pub report-loads : (kinds : List PanelKind) (input first : List ℕ) (more : List (List ℕ)) (page : LoadedPage)
    → lines_of input ≡ first ∷ more → line_fault 1 first ≡ None → line_form first ≡ Some (load page)
    → report kinds input ≡ rest_text (first_bad 2 more) (good_lines 2 more) (loaded_world kinds page)
report-loads kinds input first more page lines good is =
    ap (λ bad. text_by_refusal kinds bad (script_forms input)) (bad-first input first more lines good)
    ∙ ap (text_by_refusal kinds (first_bad 2 more)) (forms-first input first more (load page) lines good is)

pub refused-loads : (kinds : List PanelKind) (input first : List ℕ) (more : List (List ℕ)) (page : LoadedPage)
    → lines_of input ≡ first ∷ more → line_fault 1 first ≡ None → line_form first ≡ Some (load page)
    → report_refused kinds input ≡ rest_refused (first_bad 2 more) (good_lines 2 more) (loaded_world kinds page)
refused-loads kinds input first more page lines good is =
    ap (λ bad. refused_of kinds bad (script_forms input)) (bad-first input first more lines good)
    ∙ ap (refused_of kinds (first_bad 2 more)) (forms-first input first more (load page) lines good is)

-- the first line that is refused, where the first line of all is good
pub script-refused : (there : ℕ → Bool) (kinds : List PanelKind) (input first : List ℕ) (more : List (List ℕ)) (page : LoadedPage)
    → lines_of input ≡ first ∷ more → line_fault 1 first ≡ None → line_form first ≡ Some (load page)
    → script_refused there kinds input ≡ first_refused there (map Some kinds) 2 more
script-refused there kinds input first more page lines good is =
    ap (refused_of_lines there (map Some kinds)) lines
    ∙ ap (λ o. numbered_or 1 (first_of o (option_and_then (want_fault there (map Some kinds)) (line_form first)))
    (first_refused there (panels_left first (map Some kinds)) 2 more)) good
    ∙ ap (λ o. numbered_or 1 (option_and_then (want_fault there (map Some kinds)) o)
    (first_refused there (option_map_or (λ form. panels_after form (map Some kinds)) o (map Some kinds)) 2 more)) is

-- ---- the start

-- the ends of a page that was just loaded
abbrev pub first_ends : List PanelKind → Seat → PageSide → HeldEnds
first_ends kinds seat side = record {
  seat = seat;
  side = side;
  back_rest = [];
  front = first_state kinds;
  up_there = 0;
  down_there = 0;
  told = nothing_told;
}

pub ends-first : {P : Type 0} {g : Ghosts P} (e : OneFront P g) (kinds : List PanelKind) (page : LoadedPage) → IsNew e kinds page
    → ends_of e ≡ first_ends kinds e.seat e.side
ends-first e kinds page new = λ i. record {
  seat = e.seat;
  side = e.side;
  back_rest = (new.ends i).splitter.rest;
  front = new.front i;
  up_there = (new.ends i).up_there;
  down_there = (new.ends i).down_there;
  told = record { replies = new.told i; pauses = new.told_pauses i };
}

-- the seat stands for some state
pub seated-first : (page : LoadedPage) (seat : Seat) (side : PageSide) → CanLoadPage page → PageHasTexts page → IsNewSeat seat side page
    → IsSeated seat side
seated-first page seat side can texts new = λ alive. ∣ (loaded_state page, stands-first seat side page can texts new) ∣₁

nothing-awaited : (kinds : List PanelKind) (page : LoadedPage) → awaited (loaded_world kinds page).up ≡ []
unfolding frames_of
nothing-awaited kinds page = refl

pub begins : {P : Type 0} {g : Ghosts P} (honest : Type 0) (up down : Pipe) (kinds : List PanelKind) (page : LoadedPage) (e : OneFront P g)
    → honest
    → CanLoadPage page → PageHasTexts page → IsLevel up → IsLevel down → IsNew e kinds page
    → InRun honest up down up down (loaded_world kinds page) e
begins honest up down kinds page e is_honest can texts up_level down_level new =
    let same : first_ends kinds e.seat e.side ≡ ends_of e = sym (ends-first e kinds page new) in
    let none : e.ends.splitter.whole ≡ [] = ap (λ (x : LinkEnds). x.splitter.whole) new.ends in
    let frames : [] ≡ e.ends.splitter.whole ++ awaited (loaded_world kinds page).up =
    sym (ap (λ whole. whole ++ awaited (loaded_world kinds page).up) none ∙ nothing-awaited kinds page) in
    record {
      so_far = record {
        is_honest = is_honest;
        in_world = subst
            (λ h. InWorld up down up down (loaded_world kinds page) (e.ends.splitter.whole ++ awaited (loaded_world kinds page).up) h) same
            (subst (λ fs. InWorld up down up down (loaded_world kinds page) fs (first_ends kinds e.seat e.side)) frames
            (world-first up down kinds page e.seat e.side can texts up_level down_level
            (stands-first e.seat e.side page can texts new.side)));
      };
      none_whole = none;
    }

-- so both runs begin, with room for lines of so many bytes
pub play-begins : {P : Type 0} {g : Ghosts P} (honest : Type 0) (up down : Pipe) (kinds : List PanelKind) (page : LoadedPage) (lines : ℕ)
    (e : OneFront P g)
    → CanLoadPage page → PageHasTexts page
    → lines ≤ most_bytes
    → InRun honest up down up down (loaded_world kinds page) e → InPlay honest up down up down lines (loaded_world kinds page) e
play-begins honest up down kinds page lines e can texts few run =
    record { fresh = loaded_world kinds page; both = play-loaded kinds page lines can texts few; in_run = run; told_is = refl }
