-- What the calls on the link and on the ends keep over every link.
use Rattle.std.proofs.Common.{◌≡◌, is_some, ◌+◌, ◌*◌, ◌≤◌, ℕ, suc, ◌<◌, ◌^◌, List, [], ◌∷◌, ◌++◌, length, map, drop, codes, Option, Some}
use Rattle.std.proofs.Common.{None, true, false, refl, sym, ◌∙◌, ap, subst, arith, append_assoc, length-append, Result, Ok, Err}
use Rattle.std.proofs.Math.Seq.{drop-append_seam}
use Rattle.std.proofs.lemmas.List.{drop_all}
use Rattle.std.specs.Result.{OnOk, IsOk}
use Rattle.std.specs.Io.KnownBytes.{Appends}
use Rattle.front_mirror.specs.declared.panels.Panel.{Ghosts}
use Rattle.pipe_frames.specs.Pipe.{Pipe, waiting, given_since, sent_since}
use Rattle.pipe_frames.specs.Frames.{IsText, Frames, framed, frames_of, held_after, continued}
use Rattle.pipe_frames.proofs.WholeLemmas.{Appends-append}
use Rattle.node_tree.specs.Nodes.{Nodes}
use Rattle.node_tree.specs.Seen.{Seen}
use Rattle.page_tree.specs.Forms.{max_nodes}
use Rattle.page_forms.specs.Pages.{LoadedPage, CanLoadPage}
use Rattle.page_forms.specs.Sheets.{max_sheets}
use Rattle.client_views.specs.Moves.{frames_of_moves}
use Rattle.cdp_messages.specs.Asked.{command_text}
use Rattle.front_mirror.specs.Front.{FrontState, after_take, after_ask, after_fetch}
use Rattle.inspect_world.specs.FreshRuns.{front_fetcher}
use Rattle.front_mirror.specs.Outline.{outline_text, seen_line}
use Rattle.front_mirror.specs.declared.faults.FrontFault.{FrontFault}
use Rattle.replay_script.specs.Forms.{AskForm}
use Rattle.replay_script.specs.declared.faults.LineFault.{LineFault}
use Rattle.back_end.specs.declared.seat.Seat.{Seat}
use Rattle.back_end.specs.declared.side.PageSide.{PageSide}
use Rattle.back_end.specs.States.{State, loaded_state}
use Rattle.back_end.specs.Steps.{Turn, frame_step, turn_step}
use Rattle.inspect_world.specs.StepBytes.{step, turn}
use Rattle.back_end.specs.Laws.{IsTurn}
use Rattle.page_forms.specs.Texts.{PageHasTexts}
use Rattle.replay_script.specs.Sound.{CanSend}
use Rattle.front_mirror.specs.declared.panels.PanelKind.{PanelKind}
use Rattle.inspect_world.specs.Held.{Ends as HeldEnds}
use Rattle.std.specs.List.{All}
use Rattle.front_mirror.specs.Front.{matched_in}
use Rattle.inspect_world.specs.Links.{Begun, Started, run_started, one_line_more, knows_styles, came_styles, Drew, Follows, fold_of}
use Rattle.inspect_world.specs.Fits.{ask_of_frame}
use Rattle.inspect_world.proofs.Scripts.{fit-first}
use Rattle.inspect_world.proofs.LinkLemmas.{follows-fewer, front-full, seat-full, follows-told, follows-less, follows-start, follows-sends}
use Rattle.inspect_world.proofs.LinkLemmas.{follows-fetched, follows-raw, follows-given_up, follows-answered, follows-turned}
use Rattle.inspect_world.proofs.LinkLemmas.{follows-delivered_down, follows-refused, follows-fold, follows-replies}
use Rattle.inspect_replay.specs.declared.one_front.OneFront.{OneFront}
use Rattle.replay_parts.specs.declared.stop.Stop.{Stop}
use Rattle.replay_parts.specs.declared.stop.Stop.TheVariants.{Line, TooLong, ReadFault, WriteFault, LinkFault, FrontRefused, NoRoom}
use Rattle.replay_parts.specs.declared.stop.Stop.TheVariants.{Memory}
use Rattle.replay_parts.specs.declared.status.Status.{Status}
use Rattle.replay_parts.specs.declared.status.Status.TheVariants as status
use Rattle.replay_parts.specs.Says.{Phase, status_of}
use Rattle.replay_parts.specs.Answers.{IsInputStop}
use Rattle.back_end.specs.Seats.{StandsFor, HasRoomLeft}
use Rattle.inspect_replay.specs.Followed.{AllCame, Passed, fold_since, StatusFolds, StopFolds, EndsShown}
use Rattle.inspect_replay.specs.Followed.{AnswersInOrder, FollowsWith, FollowsRun, FollowsAnswer, StatusLess}
use Rattle.node_tree.specs.Numbers.{sent_when_full}
use Rattle.replay_parts.specs.LinkFolds.{GivesNoMore, LessAt, IsWell}
use Rattle.replay_parts.proofs.FoldLemmas as parts
use Rattle.replay_parts.specs.Printed.{PrintedSome}
use Rattle.replay_parts.specs.Reads.{IsRead}
use Rattle.inspect_replay.specs.Runs.{with_ends, ends_of}
use Rattle.replay_parts.specs.Moments.{Moment, moment}
use Rattle.replay_parts.specs.LinkEnds.{LinkEnds, TookUp, EachAnswered}
use Rattle.replay_parts.specs.Stops.{GoesWell}
use Rattle.replay_parts.proofs.SendLemmas.{SentUp, sent-up, unsent-up, SentDown, sent-down, unsent-down}
use Rattle.back_end.proofs.SeatRoom.{room-of}
use Rattle.inspect_replay.specs.Starts.{IsNew}
use Rattle.back_end.proofs.StartLemmas.{stands-first}
use Rattle.inspect_replay.proofs.RunLemmas.{first_ends, ends-first}

-- ---- stops

-- a stop that is not the front end's, where all went well
pub stop-folds : (stop : Stop) (passed : Passed) → GoesWell {T = Unit {0}} (Err stop) → IsWell passed
    → StopFolds {T = Unit {0}} (Err stop) passed
stop-folds stop passed never good = parts.stop-folds sent_when_full stop passed never good

-- a run that follows goes well
pub follows-good : (state0 : Started) (up0 down0 up down : Pipe) (waiting : List (List ℕ)) (e : HeldEnds)
    → Follows state0 up0 down0 up down waiting e
    → IsWell (fold_since up0 down0 up down)
follows-good state0 up0 down0 up down waiting e f =
    (subst IsOk (sym (follows-fold state0 up0 down0 up down waiting e f)) refl, follows-less state0 up0 down0 up down waiting e f)

pub run-good : {P : Type 0} {g : Ghosts P} (state0 : Started) (up0 down0 up down : Pipe) (e : OneFront P g)
    → FollowsRun state0 up0 down0 up down e
    → IsWell (fold_since up0 down0 up down)
run-good state0 up0 down0 up down e run = follows-good state0 up0 down0 up down e.ends.splitter.whole (ends_of e) run.so_far

-- the matched styles that were shown came
pub run-came : {P : Type 0} {g : Ghosts P} (state0 : Started) (up0 down0 up down : Pipe) (e : OneFront P g)
    → FollowsRun state0 up0 down0 up down e
    → AllCame (fold_since up0 down0 up down) state0.shown
run-came state0 up0 down0 up down e run =
    let f = run.so_far in
    let fold : (fold_since up0 down0 up down).fold
    ≡ Ok e.front.value = follows-fold state0 up0 down0 up down e.ends.splitter.whole (ends_of e) f in
    let value : f.value ≡ e.front.value = sym (ap (λ (s : FrontState). s.value) f.front_is) in
    subst (λ r. All (λ ask. came_styles r ask ≡ true) state0.shown) (sym fold)
    (subst (λ v. All (λ ask. knows_styles v ask ≡ true) state0.shown) value f.styled)

-- whether some came is what the front end has kept
pub run-kept : {P : Type 0} {g : Ghosts P} (state0 : Started) (up0 down0 up down : Pipe) (e : OneFront P g) (ask : ℕ)
    → FollowsRun state0 up0 down0 up down e
    → came_styles (fold_since up0 down0 up down).fold ask ≡ is_some (matched_in ask e.front.value.matched)
run-kept state0 up0 down0 up down e ask run =
    ap (λ r. came_styles r ask) (follows-fold state0 up0 down0 up down e.ends.splitter.whole (ends_of e) run.so_far)

-- ---- what a call keeps

-- the ends, with so much of the link, follow it, and every whole frame is answered
abbrev pub RunWith : Started → (up0 down0 up down : Pipe) → LinkEnds → HeldEnds → Type 0
RunWith state0 up0 down0 up down s e = EachAnswered (λ waiting. Follows state0 up0 down0 up down waiting (with_ends s e)) s.splitter.whole

with-good : (state0 : Started) (up0 down0 up down : Pipe) (s : LinkEnds) (e : HeldEnds) → RunWith state0 up0 down0 up down s e
    → IsWell (fold_since up0 down0 up down)
with-good state0 up0 down0 up down s e run = follows-good state0 up0 down0 up down s.splitter.whole (with_ends s e) run.so_far

-- it has come through, or not
pub kept-with : {T : Type 0} (result : Result T Stop) (state0 : Started) (up0 down0 up down : Pipe) (s : LinkEnds) (e : HeldEnds)
    → GoesWell result → RunWith state0 up0 down0 up down s e
    → OnOk result (RunWith state0 up0 down0 up down s e) × StopFolds result (fold_since up0 down0 up down)
kept-with (Ok value) state0 up0 down0 up down s e never run = (run, with-good state0 up0 down0 up down s e run)
kept-with (Err stop) state0 up0 down0 up down s e never run =
    (tt, stop-folds stop (fold_since up0 down0 up down) never (with-good state0 up0 down0 up down s e run))

-- the same of all that stands at the ends
pub kept-run : {P : Type 0} {g : Ghosts P} {T : Type 0} (result : Result T Stop) (state0 : Started) (up0 down0 up down : Pipe)
    (e : OneFront P g) → GoesWell result → FollowsRun state0 up0 down0 up down e
    → OnOk result (FollowsRun state0 up0 down0 up down e) × StopFolds result (fold_since up0 down0 up down)
kept-run (Ok value) state0 up0 down0 up down e never run = (run, run-good state0 up0 down0 up down e run)
kept-run (Err stop) state0 up0 down0 up down e never run =
    (tt, stop-folds stop (fold_since up0 down0 up down) never (run-good state0 up0 down0 up down e run))

-- bytes were sent up, as `send_up` says
pub sent-follows : (result : Result (Unit {0}) Stop) (state0 : Started) (up0 down0 up down up1 down1 : Pipe) (s s1 : LinkEnds)
    (e : HeldEnds) (bytes : List ℕ) → SentUp result up down up1 down1 s s1 bytes → s.splitter.whole ≡ []
    → s.up_there ≤ length (waiting up) → IsWell (fold_since up0 down0 up down)
    → ((there : ℕ) → (up1.sent ≡ up.sent ++ bytes) × (up1.given ≡ up.given) → there ≡ s.up_there + length bytes
    → Follows state0 up0 down0 up1 down s.splitter.whole (record (with_ends s e) { up_there = there }))
    → OnOk result (RunWith state0 up0 down0 up1 down1 s1 e) × StopFolds result (fold_since up0 down0 up1 down1)
sent-follows (Ok u) state0 up0 down0 up down up1 down1 s s1 e bytes c none waits well goes =
    let run : RunWith state0 up0 down0 up1 down1 s1 e =
    sent-up (Ok u) up down up1 down1 s s1 bytes c (λ u1 d1 x. RunWith state0 up0 down0 u1 d1 x e) waits
    (λ there sent given left. record { so_far = goes there (sent, given) left; none_whole = none }) in
    (run, with-good state0 up0 down0 up1 down1 s1 e run)
sent-follows (Err stop) state0 up0 down0 up down up1 down1 s s1 e bytes c none waits well goes = (
  tt,
  stop-folds stop (fold_since up0 down0 up1 down1) c.never
      (unsent-up stop up down up1 down1 s s1 bytes c (λ u1 d1. IsWell (fold_since up0 down0 u1 d1)) well),
)

-- bytes were sent down, as `send_down` says
pub told-follows : (result : Result (Unit {0}) Stop) (state0 : Started) (up0 down0 up down up1 down1 : Pipe) (s s1 : LinkEnds)
    (e : HeldEnds) (bytes : List ℕ) → SentDown result up down up1 down1 s s1 bytes
    → s.down_there ≤ length (waiting down) → IsWell (fold_since up0 down0 up down)
    → ((there : ℕ) → (down1.sent ≡ down.sent ++ bytes) × (down1.given ≡ down.given) → there ≡ s.down_there + length bytes
    → Follows state0 up0 down0 up1 down1 s.splitter.whole (record (with_ends s e) { down_there = there }))
    → OnOk result (Follows state0 up0 down0 up1 down1 s1.splitter.whole (with_ends s1 e))
    × StopFolds result (fold_since up0 down0 up1 down1)
told-follows (Ok u) state0 up0 down0 up down up1 down1 s s1 e bytes c waits well goes =
    let all : Follows state0 up0 down0 up1 down1 s1.splitter.whole (with_ends s1 e) =
    sent-down (Ok u) up down up1 down1 s s1 bytes c
    (λ u1 d1 x. Follows state0 up0 down0 u1 d1 x.splitter.whole (with_ends x e)) waits
    (λ there sent given left. goes there (sent, given) left) in
    (all, follows-good state0 up0 down0 up1 down1 s1.splitter.whole (with_ends s1 e) all)
told-follows (Err stop) state0 up0 down0 up down up1 down1 s s1 e bytes c waits well goes = (
  tt,
  stop-folds stop (fold_since up0 down0 up1 down1) c.never
      (unsent-down stop up down up1 down1 s s1 bytes c (λ u1 d1. IsWell (fold_since up0 down0 u1 d1)) well),
)

-- with each frame answered
pub whole-follows : (result : Result (Unit {0}) Stop) (state0 : Started) (up0 down0 up down : Pipe) (s : LinkEnds) (e : HeldEnds)
    (passed : Passed) → s.splitter.whole ≡ []
    → OnOk result (Follows state0 up0 down0 up down s.splitter.whole (with_ends s e)) × StopFolds result passed
    → OnOk result (RunWith state0 up0 down0 up down s e) × StopFolds result passed
whole-follows (Ok u) state0 up0 down0 up down s e passed none both = (record { so_far = both.0; none_whole = none }, both.1)
whole-follows (Err stop) state0 up0 down0 up down s e passed none both = (tt, both.1)

-- a line that makes no step of the script
pub run-fewer : {P : Type 0} {g : Ghosts P} (state0 : Started) (up0 down0 up down : Pipe) (e : OneFront P g) → FollowsRun
    (one_line_more state0) up0 down0 up down e
    → FollowsRun state0 up0 down0 up down e
run-fewer state0 up0 down0 up down e run =
    record { so_far = follows-fewer state0 up0 down0 up down e.ends.splitter.whole (ends_of e) run.so_far; none_whole = run.none_whole }

-- the line that comes next is one of those that are left
pub run-line : {P : Type 0} {g : Ghosts P} (begun : Begun) (shown : List ℕ) (panels : List (Option PanelKind)) (up0 down0 up down : Pipe)
    (e : OneFront P g)
    (lines : List (List ℕ)) (line : List ℕ)
    (more : List (List ℕ)) → lines ≡ line ∷ more
    → FollowsRun (run_started begun.state (length lines) shown panels) up0 down0 up down e
    → FollowsRun (one_line_more (run_started begun.state (length more) shown panels)) up0 down0 up down e
run-line begun shown panels up0 down0 up down e lines line more is run =
    let count : length lines ≡ suc (length more) = ap length is in
    let plus : length lines ≡ length more + 1 = omega (arith, count) in
    subst (λ n. FollowsRun (run_started begun.state n shown panels) up0 down0 up down e) plus run

-- where the front end has no id left, the call stops
pub front-stops : {P : Type 0} {g : Ghosts P} (state0 : Started) (up0 down0 up down : Pipe) (e : OneFront P g)
    → FollowsRun state0 up0 down0 up down e
    → ((e.front.next < 2 ^ 30) × (2 ^ 30 + e.front.fetches < 2 ^ 52) → false ≡ true)
    → StopFolds {T = Unit {0}} (Err NoRoom) (fold_since up0 down0 up down)
front-stops state0 up0 down0 up down e run none =
    let well = run-good state0 up0 down0 up down e run in
    ((well.0, front-full state0 up0 down0 up down e.ends.splitter.whole (ends_of e) run.so_far none), well.1)

-- or the back end
pub seat-stops : (state0 : Started) (up0 down0 up down : Pipe) (waiting : List (List ℕ)) (e : HeldEnds)
    → Follows state0 up0 down0 up down waiting e
    → (HasRoomLeft e.seat e.side → false ≡ true) → StopFolds {T = Unit {0}} (Err NoRoom) (fold_since up0 down0 up down)
seat-stops state0 up0 down0 up down waiting e f none =
    let well = follows-good state0 up0 down0 up down waiting e f in
    ((well.0, seat-full state0 up0 down0 up down waiting e f none), well.1)

-- ---- the link and the ends

pub asked-follows : (state0 : Started) (up0 down0 up down up1 down1 : Pipe) (e : HeldEnds) (a : AskForm) (waiting : List (List ℕ))
    (frame bytes : List ℕ) (there : ℕ) (front1 : FrontState)
    → CanSend a → e.front.next < 2 ^ 30 → Follows state0 up0 down0 up down waiting e → there ≡ e.up_there + length frame
    → frame ≡ framed (command_text e.front.next a.method a.params a.session) → front1 ≡ after_ask e.front a.method
    → bytes ≡ frame → (up1.sent ≡ up.sent ++ bytes) × (up1.given ≡ up.given) → down1 ≡ down
    → Follows state0 up0 down0 up1 down1 waiting (record e { front = front1; up_there = there })
asked-follows state0 up0 down0 up down up1 down1 e a waiting frame bytes there front1 can room f left frame_is front_is same_bytes sent
    same_down =
    let text = command_text e.front.next a.method a.params a.session in
    let all : Follows state0 up0 down0 up1 down waiting (record e { front = after_ask e.front a.method; up_there = there }) =
    follows-sends state0 up0 down0 up down up1 waiting e a text there f (left ∙ ap (λ bytes. e.up_there + length bytes) frame_is) can
    (omega (arith, room)) refl
    (sent.0 ∙ ap (λ piece. up.sent ++ piece) (same_bytes ∙ frame_is)) sent.1 in
    subst (λ pipe. Follows state0 up0 down0 up1 pipe waiting (record e { front = front1; up_there = there })) (sym same_down)
    (subst (λ s. Follows state0 up0 down0 up1 down waiting (record e { front = s; up_there = there })) (sym front_is) all)

-- the text of a sheet is fetched
pub fetched-follows : (state0 : Started) (up0 down0 up down up1 down1 : Pipe) (e : HeldEnds) (sheet : ℕ) (waiting : List (List ℕ))
    (frame bytes : List ℕ) (there : ℕ) (front1 : FrontState)
    → sheet < 2 ^ 64 → 2 ^ 30 + e.front.fetches < 2 ^ 52 → Follows state0 up0 down0 up down waiting e → there ≡ e.up_there + length frame
    → frame ≡ framed (front_fetcher.text e.front.fetches sheet) → front1 ≡ after_fetch e.front sheet
    → bytes ≡ frame → (up1.sent ≡ up.sent ++ bytes) × (up1.given ≡ up.given) → down1 ≡ down
    → Follows state0 up0 down0 up1 down1 waiting (record e { front = front1; up_there = there })
fetched-follows state0 up0 down0 up down up1 down1 e sheet waiting frame bytes there front1 fits room f left frame_is front_is same_bytes
    sent same_down =
    let all : Follows state0 up0 down0 up1 down waiting (record e { front = after_fetch e.front sheet; up_there = there }) =
    follows-fetched state0 up0 down0 up down up1 waiting e sheet there f fits room (left ∙ ap (λ bytes. e.up_there + length bytes) frame_is)
    (sent.0 ∙ ap (λ piece. up.sent ++ piece) (same_bytes ∙ frame_is)) sent.1 in
    subst (λ pipe. Follows state0 up0 down0 up1 pipe waiting (record e { front = front1; up_there = there })) (sym same_down)
    (subst (λ s. Follows state0 up0 down0 up1 down waiting (record e { front = s; up_there = there })) (sym front_is) all)

-- a frame is sent that names no ask
pub raw-follows : (state0 : Started) (up0 down0 up down up1 down1 : Pipe) (e : HeldEnds) (text : List ℕ) (waiting : List (List ℕ))
    (frame bytes : List ℕ) (there : ℕ)
    → IsText text → ask_of_frame text ≡ None → Follows state0 up0 down0 up down waiting e → there ≡ e.up_there + length frame
    → frame ≡ framed text → bytes ≡ frame → (up1.sent ≡ up.sent ++ bytes) × (up1.given ≡ up.given) → down1 ≡ down
    → Follows state0 up0 down0 up1 down1 waiting (record e { up_there = there })
raw-follows state0 up0 down0 up down up1 down1 e text waiting frame bytes there letters none f left frame_is same_bytes sent same_down =
    let all : Follows state0 up0 down0 up1 down waiting (record e { up_there = there }) =
    follows-raw state0 up0 down0 up down up1 waiting e text there f (left ∙ ap (λ bytes. e.up_there + length bytes) frame_is) letters none
    (sent.0 ∙ ap (λ piece. up.sent ++ piece) (same_bytes ∙ frame_is)) sent.1 in
    subst (λ pipe. Follows state0 up0 down0 up1 pipe waiting (record e { up_there = there })) (sym same_down) all

-- bytes came up, and were cut into frames
given-follows : (state0 : Started) (up0 down0 up down up1 down1 : Pipe) (e : HeldEnds) (s s1 : Frames) (piece : List ℕ) (there : ℕ)
    → Follows state0 up0 down0 up down s.whole (record e { back_rest = s.rest }) → there + length piece ≡ e.up_there
    → up1.sent ≡ up.sent → up1.given ≡ up.given ++ piece → down1 ≡ down → s1 ≡ continued s piece
    → Follows state0 up0 down0 up1 down1 s1.whole (record e { back_rest = s1.rest; up_there = there })
given-follows state0 up0 down0 up down up1 down1 e s s1 piece there f left sent given same_down cut =
    let all : Follows state0 up0 down0 up1 down (continued s piece).whole
    (record e { back_rest = (continued s piece).rest; up_there = there }) =
    follows-given_up state0 up0 down0 up down up1 s.whole (record e { back_rest = s.rest }) piece
    (held_after s.rest piece) there f left sent given refl in
    subst (λ pipe. Follows state0 up0 down0 up1 pipe s1.whole (record e { back_rest = s1.rest; up_there = there })) (sym same_down)
    (subst (λ (x : Frames). Follows state0 up0 down0 up1 down x.whole (record e { back_rest = x.rest; up_there = there })) (sym cut) all)

-- as `take_up` says
pub took-follows : (state0 : Started) (up0 down0 : Pipe) (n : ℕ) (old new : Moment LinkEnds) (e : HeldEnds) → TookUp n old new
    → new.down ≡ old.down → Follows state0 up0 down0 old.up old.down old.ends.splitter.whole (with_ends old.ends e)
    → Follows state0 up0 down0 new.up new.down new.ends.splitter.whole (with_ends new.ends e)
took-follows state0 up0 down0 n old new e took same_down f =
    subst (λ there. Follows state0 up0 down0 new.up new.down new.ends.splitter.whole (record (with_ends new.ends e) {
      down_there = there;
    }))
    (sym took.down_there)
    (given-follows state0 up0 down0 old.up old.down new.up new.down (with_ends old.ends e) old.ends.splitter new.ends.splitter took.piece
    new.ends.up_there f took.count took.sent took.given same_down took.cut)

-- a frame was answered
pub answered-follows : (state0 : Started) (up0 down0 up down up1 down1 : Pipe) (frame : List ℕ) (frames : List (List ℕ))
    (seat seat1 : Seat) (side side1 : PageSide) (e : HeldEnds)
    (old out bytes : List ℕ) (there : ℕ)
    → Follows state0 up0 down0 up down (frame ∷ frames) (record e { seat = seat; side = side }) → there ≡ e.down_there + length out
    → HasRoomLeft seat side
    → ((state : State) → StandsFor seat side state → StandsFor seat1 side1 (frame_step false frame state).state)
    → ((state : State) → StandsFor seat side state → out ≡ old ++ frames_of_moves (frame_step false frame state).moves)
    → old ≡ [] → bytes ≡ out → up1 ≡ up → (down1.sent ≡ down.sent ++ bytes) × (down1.given ≡ down.given)
    → Follows state0 up0 down0 up1 down1 frames (record e { seat = seat1; side = side1; down_there = there })
answered-follows state0 up0 down0 up down up1 down1 frame frames seat seat1 side side1 e old out bytes there f left room stood said empty
    same_out same_up sent =
    let all : Follows state0 up0 down0 up down1 frames (record e { seat = seat1; side = side1; down_there = there }) =
    follows-answered state0 up0 down0 up down down1 frame frames (record e { seat = seat; side = side }) seat1 side1 out there f left
    (room-of seat side f.state f.stands room) (stood f.state f.stands)
    (said f.state f.stands ∙ ap (λ start. start ++ (step f.state frame).sent) empty)
    (sent.0 ∙ ap (λ piece. down.sent ++ piece) same_out) sent.1 in
    subst (λ pipe. Follows state0 up0 down0 pipe down1 frames (record e { seat = seat1; side = side1; down_there = there }))
    (sym same_up) all

-- the script made a step by itself
pub turned-follows : (state0 : Started) (up0 down0 up down up1 down1 : Pipe) (x : Turn) (waiting : List (List ℕ)) (seat seat1 : Seat)
    (side side1 : PageSide) (e : HeldEnds)
    (old out bytes : List ℕ) (there : ℕ)
    → Follows (one_line_more state0) up0 down0 up down waiting (record e { seat = seat; side = side }) → there ≡ e.down_there + length out
    → HasRoomLeft seat side → IsTurn x
    → ((state : State) → StandsFor seat side state → StandsFor seat1 side1 (turn_step x state).state)
    → ((state : State) → StandsFor seat side state → out ≡ old ++ frames_of_moves (turn_step x state).moves)
    → old ≡ [] → bytes ≡ out → up1 ≡ up → (down1.sent ≡ down.sent ++ bytes) × (down1.given ≡ down.given)
    → Follows state0 up0 down0 up1 down1 waiting (record e { seat = seat1; side = side1; down_there = there })
turned-follows state0 up0 down0 up down up1 down1 x waiting seat seat1 side side1 e old out bytes there f left room is_turn stood said
    empty same_out same_up sent =
    let all : Follows state0 up0 down0 up down1 waiting (record e { seat = seat1; side = side1; down_there = there }) =
    follows-turned state0 up0 down0 up down down1 x waiting (record e { seat = seat; side = side }) seat1 side1 out there f left
    (room-of seat side f.state f.stands room) is_turn (stood f.state f.stands)
    (said f.state f.stands ∙ ap (λ start. start ++ (turn x f.state).sent) empty)
    (sent.0 ∙ ap (λ piece. down.sent ++ piece) same_out) sent.1 in
    subst (λ pipe. Follows state0 up0 down0 pipe down1 waiting (record e { seat = seat1; side = side1; down_there = there }))
    (sym same_up) all

-- bytes came down, and the front end refused none of the messages
pub delivered-follows : (state0 : Started) (up0 down0 up down up1 down1 : Pipe) (waiting : List (List ℕ)) (e : HeldEnds)
    (piece bytes : List ℕ) (there : ℕ) (front1 : FrontState)
    → Follows state0 up0 down0 up down waiting e → there + length bytes ≡ e.down_there
    → (down1.sent ≡ down.sent) × (down1.given ≡ down.given ++ bytes) → up1 ≡ up
    → piece ≡ bytes → front1 ≡ after_take e.front piece → front1.fault ≡ None
    → Follows state0 up0 down0 up1 down1 waiting (record e { front = front1; down_there = there })
delivered-follows state0 up0 down0 up down up1 down1 waiting e piece bytes there front1 f left moved same_up same_bytes front_is good =
    let now : front1 ≡ after_take e.front bytes = front_is ∙ ap (after_take e.front) same_bytes in
    let all : Follows state0 up0 down0 up down1 waiting (record e { front = after_take e.front bytes; down_there = there }) =
    follows-delivered_down state0 up0 down0 up down down1 waiting e bytes there f left moved.0 moved.1
    (sym (ap (λ (s : FrontState). s.fault) now) ∙ good) in
    subst (λ pipe. Follows state0 up0 down0 pipe down1 waiting (record e { front = front1; down_there = there })) (sym same_up)
    (subst (λ s. Follows state0 up0 down0 up down1 waiting (record e { front = s; down_there = there })) (sym now) all)

-- as `take_down` says
pub got-follows : (state0 : Started) (up0 down0 up down up1 down1 : Pipe) (s s1 : LinkEnds) (e : HeldEnds)
    (bytes : List ℕ) (front1 : FrontState)
    → RunWith state0 up0 down0 up down s e → s1 ≡ record s { down_there = s1.down_there } → s1.down_there + length bytes ≡ s.down_there
    → (down1.sent ≡ down.sent) × (down1.given ≡ down.given ++ bytes) → up1 ≡ up
    → front1 ≡ after_take e.front bytes → front1.fault ≡ None
    → RunWith state0 up0 down0 up1 down1 s1 (record e { front = front1 })
got-follows state0 up0 down0 up down up1 down1 s s1 e bytes front1 run ends left moved same_up front_is good =
    subst (λ x. RunWith state0 up0 down0 up1 down1 x (record e { front = front1 })) (sym ends) (record {
      so_far = delivered-follows state0 up0 down0 up down up1 down1 s.splitter.whole (with_ends s e) bytes bytes s1.down_there front1
          run.so_far left moved same_up refl front_is good;
      none_whole = run.none_whole;
    })

-- as many bytes came down as were there at most
less-down : (state0 : Started) (up0 down0 up down down1 : Pipe) (waiting : List (List ℕ)) (e : HeldEnds) (bytes : List ℕ)
    → Follows state0 up0 down0 up down waiting e → length bytes ≤ e.down_there
    → down1.sent ≡ down.sent → down1.given ≡ down.given ++ bytes
    → GivesNoMore (fold_since up0 down0 up down1)
less-down state0 up0 down0 up down down1 waiting e bytes f most same given_is =
    let sent : length (sent_since down0 down1) ≡ length f.sent_down = ap (λ all. length (drop (length down0.sent) all))
    (same ∙ f.down_is.sent_is) ∙ ap length (drop-append_seam down0.sent f.sent_down) in
    let given : length (given_since down0 down1) ≡ length (f.given_down ++ bytes) = ap (λ all. length (drop (length down0.given) all))
    (given_is ∙ ap (λ all. all ++ bytes) f.down_is.given_is ∙ append_assoc down0.given f.given_down bytes)
    ∙ ap length (drop-append_seam down0.given (f.given_down ++ bytes)) in
    let both : length (f.given_down ++ bytes) ≡ length f.given_down + length bytes = length-append f.given_down bytes in
    let left : e.down_there + length f.given_down ≡ length f.sent_down = f.down_left in
    ((follows-less state0 up0 down0 up down waiting e f).0, omega (arith, sent, given, both, left, most))

-- or it refused one
pub refused-folds : (state0 : Started) (up0 down0 up down up1 down1 : Pipe) (waiting : List (List ℕ)) (e : HeldEnds) (piece bytes : List ℕ)
    (front1 : FrontState) (fault : FrontFault)
    → Follows state0 up0 down0 up down waiting e → length bytes ≤ e.down_there
    → (down1.sent ≡ down.sent) × (down1.given ≡ down.given ++ bytes) → up1 ≡ up
    → piece ≡ bytes → front1 ≡ after_take e.front piece → front1.fault ≡ Some fault
    → ((fold_since up0 down0 up1 down1).fold ≡ Err fault) × GivesNoMore (fold_since up0 down0 up1 down1)
refused-folds state0 up0 down0 up down up1 down1 waiting e piece bytes front1 fault f most moved same_up same_bytes front_is bad =
    let now : front1 ≡ after_take e.front bytes = front_is ∙ ap (after_take e.front) same_bytes in (
      ap (λ pipe. (fold_since up0 down0 pipe down1).fold) same_up
          ∙ follows-refused state0 up0 down0 up down down1 waiting e bytes fault f moved.0 moved.1
          (sym (ap (λ (s : FrontState). s.fault) now) ∙ bad),
      subst (λ pipe. GivesNoMore (fold_since up0 down0 pipe down1)) (sym same_up)
          (less-down state0 up0 down0 up down down1 waiting e bytes f most moved.0 moved.1),
    )

-- the next frame is answered, before those that the splitter holds
pub follow_turn : {P : Type 0} {g : Ghosts P} {T : Type 0} (result : Result T Stop) (state0 : Started)
    (up0 down0 up down up1 down1 : Pipe) (e e1 : OneFront P g) (s : LinkEnds) (frame : List ℕ)
    → FollowsWith state0 up0 down0 up down e → e.ends.splitter.whole ≡ frame ∷ s.splitter.whole
    → s.splitter.rest ≡ e.ends.splitter.rest → s ≡ record e.ends { splitter = s.splitter }
    → FollowsAnswer (moment (Unit {0}) up down (record e { ends = s })) (moment (Unit {0}) up1 down1 e1) frame result
    → OnOk result (FollowsWith state0 up0 down0 up1 down1 e1) × StopFolds result (fold_since up0 down0 up1 down1)
follow_turn result state0 up0 down0 up down up1 down1 e e1 s frame f whole rest ends answers =
    answers state0 up0 down0
    (subst (λ x. Follows state0 up0 down0 up down (frame ∷ s.splitter.whole) (with_ends x (ends_of e))) (sym ends)
    (subst (λ r. Follows state0 up0 down0 up down (frame ∷ s.splitter.whole) (record (ends_of e) { back_rest = r })) (sym rest)
    (subst (λ frames. Follows state0 up0 down0 up down frames (ends_of e)) whole f)))

-- no frame is left
pub follow_end : {P : Type 0} {g : Ghosts P} (state0 : Started) (up0 down0 up down : Pipe) (e : OneFront P g) (s : LinkEnds)
    → FollowsWith state0 up0 down0 up down e → s ≡ e.ends → s.splitter.whole ≡ []
    → FollowsRun state0 up0 down0 up down (record e { ends = s }) × IsWell (fold_since up0 down0 up down)
follow_end state0 up0 down0 up down e s f same none = (
  record {
    so_far = subst (λ x. Follows state0 up0 down0 up down x.splitter.whole (with_ends x (ends_of e))) (sym same) f;
    none_whole = none;
  },
  follows-good state0 up0 down0 up down e.ends.splitter.whole (ends_of e) f,
)

-- ---- what is told and printed

pub told-run : {P : Type 0} {g : Ghosts P} (state0 : Started) (up0 down0 up down : Pipe) (e e1 : OneFront P g) (replies pauses : ℕ)
    → e1 ≡ record e { told = replies; told_pauses = pauses }
    → FollowsRun state0 up0 down0 up down e → FollowsRun state0 up0 down0 up down e1
told-run state0 up0 down0 up down e e1 replies pauses is run =
    subst (λ x. FollowsRun state0 up0 down0 up down x) (sym is) (record {
      so_far = follows-told state0 up0 down0 up down e.ends.splitter.whole (ends_of e)
          (record { replies = replies; pauses = pauses }) run.so_far;
      none_whole = run.none_whole;
    })

-- the closing part, where it was printed
pub closes-shown : {P : Type 0} {g : Ghosts P} (result : Result (Unit {0}) Stop) (state0 : Started) (up0 down0 up down : Pipe)
    (before after : Option (List ℕ))
    (e : OneFront P g) (tree : Nodes Seen)
    → FollowsRun state0 up0 down0 up down e → tree ≡ e.front.value.tree → GoesWell result
    → OnOk result (Appends before after (codes "# end" ++ 10 ∷ outline_text seen_line tree))
    → OnOk result (EndsShown before after (fold_since up0 down0 up down) × AnswersInOrder up0 down0 up down
    × AllCame (fold_since up0 down0 up down) state0.shown) × StopFolds result (fold_since up0 down0 up down)
closes-shown (Ok value) state0 up0 down0 up down before after e tree run shows never printed = (
  (
    record {
      value = e.front.value;
      is_fold = follows-fold state0 up0 down0 up down e.ends.splitter.whole (ends_of e) run.so_far;
      written = [];
      printed = subst (λ t. Appends before after (codes "# end" ++ 10 ∷ outline_text seen_line t)) shows printed;
    },
    follows-replies state0 up0 down0 up down (ends_of e)
        (subst (λ frames. Follows state0 up0 down0 up down frames (ends_of e)) run.none_whole run.so_far),
    run-came state0 up0 down0 up down e run,
  ),
  run-good state0 up0 down0 up down e run,
)
closes-shown (Err stop) state0 up0 down0 up down before after e tree run shows never printed =
    (tt, stop-folds stop (fold_since up0 down0 up down) never (run-good state0 up0 down0 up down e run))

-- after what was printed before
ends-after : (before middle after : Option (List ℕ)) (passed : Passed) → PrintedSome before middle → EndsShown middle after passed
    → EndsShown before after passed
ends-after before middle after passed some shown =
    let head = codes "# end" in
    let outline = 10 ∷ outline_text seen_line shown.value.tree in
    let same : ((some.written ++ shown.written) ++ head) ++ outline ≡ some.written ++ ((shown.written ++ head) ++ outline) =
    ap (λ text. text ++ outline) (append_assoc some.written shown.written head) ∙ append_assoc some.written
    (shown.written ++ head) outline in
    record {
      value = shown.value;
      is_fold = shown.is_fold;
      written = some.written ++ shown.written;
      printed = subst (λ text. Appends before after text) (sym same)
          (Appends-append before middle after some.written ((shown.written ++ head) ++ outline) some.printed shown.printed);
    }

pub ends-shown : {T : Type 0} (result : Result T Stop) (before middle after : Option (List ℕ)) (up0 down0 up down : Pipe) (shown : List ℕ)
    → PrintedSome before middle
    → OnOk result (EndsShown middle after (fold_since up0 down0 up down) × AnswersInOrder up0 down0 up down
    × AllCame (fold_since up0 down0 up down) shown) → OnOk result (EndsShown before after (fold_since up0 down0 up down))
ends-shown (Ok value) before middle after up0 down0 up down shown some both = ends-after before middle after
    (fold_since up0 down0 up down) some both.0
ends-shown (Err stop) before middle after up0 down0 up down shown some both = tt

pub in-order : {T : Type 0} (result : Result T Stop) (before after : Option (List ℕ)) (up0 down0 up down : Pipe) (shown : List ℕ)
    → OnOk result (EndsShown before after (fold_since up0 down0 up down) × AnswersInOrder up0 down0 up down
    × AllCame (fold_since up0 down0 up down) shown) → OnOk result (AnswersInOrder up0 down0 up down)
in-order (Ok value) before after up0 down0 up down shown both = both.1
in-order (Err stop) before after up0 down0 up down shown both = tt

-- ---- the start and the end

-- nothing was sent or given yet
pub start-good : (up down : Pipe) → IsWell (fold_since up down up down)
unfolding frames_of
start-good up down =
    let none : (bytes : List ℕ) → drop (length bytes) bytes ≡ [] = λ bytes. drop_all (length bytes) bytes (omega arith) in
    let folds : IsOk (fold_of [] []) = refl in
    let nothing : (bytes : List ℕ) → length (drop (length bytes) bytes) ≡ 0 = λ bytes. ap length (none bytes) in (
      subst (λ bytes. IsOk (fold_of bytes (given_since down down))) (sym (none up.sent))
          (subst (λ bytes. IsOk (fold_of [] bytes)) (sym (none down.given)) folds),
      (omega (arith, nothing up.given), omega (arith, nothing down.given)),
    )

pub run-first : {P : Type 0} {g : Ghosts P} (up down : Pipe) (kinds : List PanelKind) (page : LoadedPage) (lines : ℕ) (e : OneFront P g)
    → length up.given ≤ length up.sent → length down.given ≤ length down.sent → CanLoadPage page → PageHasTexts page → lines ≤ 2 ^ 26
    → IsNew e kinds page → FollowsRun (run_started (loaded_state page) lines [] (map Some kinds)) up down up down e
run-first up down kinds page lines e up_within down_within can texts few new =
    let start : Started = run_started (loaded_state page) lines [] (map Some kinds) in
    let same : ends_of e ≡ first_ends kinds e.seat e.side = ends-first e kinds page new in
    let none : e.ends.splitter.whole ≡ [] = ap (λ (x : LinkEnds). x.splitter.whole) new.ends in
    let fit = fit-first page can texts in
    let drew : Drew (loaded_state page) 0 0 0 = record { ids = omega arith; trees = omega arith; edits = omega arith } in
    let serials : (loaded_state page).side.page.next + 0 * (max_nodes + 1) ≤ (0 + 1) * (max_nodes + 1) = fit.serials in
    let numbers : (loaded_state page).side.next_sheet + 0 * max_sheets ≤ (0 + 1) * max_sheets + 1 = fit.numbers in
    record {
      so_far = subst (λ h. Follows start up down up down e.ends.splitter.whole h) (sym same)
          (subst (λ frames. Follows start up down up down frames (first_ends kinds e.seat e.side)) (sym none)
          (follows-start up down kinds start e.seat e.side up_within down_within refl refl
          (stands-first e.seat e.side page can texts new.side) few drew (omega (arith, serials))
          (omega (arith, numbers)) (omega arith)));
      none_whole = none;
    }

-- a line that is not read
pub read-folds : (stop : Stop) (number : ℕ) (bad : Option LineFault) (passed : Passed) → IsRead {T = Unit {0}} (Err stop) number bad
    → IsWell passed
    → StopFolds {T = Unit {0}} (Err stop) passed
read-folds stop number bad passed read good = parts.read-folds sent_when_full stop number bad passed read good

-- where no more was given than sent, each phase says so
pub less-at : (phase : Phase) (passed : Passed) → GivesNoMore passed → LessAt phase passed
less-at phase passed less = parts.less-at phase passed less

-- the status that a stop is
pub status-folds : (stop : Stop) (status : Status) (passed : Passed) → status ≡ status_of stop → StopFolds {T = Unit {0}} (Err stop) passed
    → StatusFolds status passed
status-folds stop status passed is folds = parts.status-folds sent_when_full stop status passed is folds

pub status-less : (stop : Stop) (status : Status) (passed : Passed) → status ≡ status_of stop → StopFolds {T = Unit {0}} (Err stop) passed
    → StatusLess status passed
status-less stop status passed is folds = parts.status-less sent_when_full stop status passed is folds

-- an input that is not read
pub input-folds : (stop : Stop) (before after : ℕ) (passed : Passed) → IsInputStop before after (Err stop) → IsWell passed
    → StopFolds {T = Unit {0}} (Err stop) passed
input-folds stop before after passed is good = parts.input-folds sent_when_full stop before after passed is good

-- a stop is not the end
pub never-done : (stop : Stop) (s : Status) → s ≡ status_of stop → s ≡ status.Done → ⊥
never-done stop s is done = by-stop stop (sym is ∙ done)
  where
    by-stop : (stop : Stop) → status_of stop ≡ status.Done → ⊥
    by-stop (Line number fault) e = cc
    by-stop TooLong e = cc
    by-stop ReadFault e = cc
    by-stop WriteFault e = cc
    by-stop LinkFault e = cc
    by-stop (FrontRefused place kind) e = cc
    by-stop NoRoom e = cc
    by-stop Memory e = cc
