-- What the calls on the link and on the ends make of a run.
use Rattle.std.proofs.Common.{◌≡◌, ℕ, suc, ◌+◌, ◌*◌, ◌-◌, ◌<◌, ◌≤◌, ◌^◌, min, List, [], ◌∷◌, ◌++◌, length, take, drop, get_or, drop-cons}
use Rattle.std.proofs.Common.{add-one, Bool, true, false, not, cond, Ok, Err, Option, Some, None, refl, sym, ◌∙◌, ap, subst, Result, arith}
use Rattle.front_mirror.specs.declared.panels.Panel.{Ghosts}
use Rattle.pipe_frames.specs.Pipe.{Pipe, waiting}
use Rattle.pipe_frames.specs.Frames.{IsText, Frames, framed, frames_of, frames_from, held_after, continued}
use Rattle.front_mirror.specs.Front.{FrontState, first_value, after_take, after_ask, after_fetch}
use Rattle.front_mirror.specs.Sheets.{has_sheet, stale_of}
use Rattle.front_mirror.specs.declared.faults.FrontFault.{FrontFault}
use Rattle.std.specs.Borrow.{Bor}
use Rattle.std.specs.Option.{option_copied, option_map}
use Rattle.std.specs.Result.{OnOk}
use Rattle.serde_json.specs.declared.value.Value.{Value}
use Rattle.serde_json.specs.View.{view}
use Rattle.serde_json.specs.Data.{Data}
use Rattle.cdp_json.specs.Kinds.{holds_of_some}
use Rattle.cdp_json.specs.Plain.{is_plain}
use Rattle.cdp_json.proofs.ReadBack.{has_float-is_plain}
use Rattle.std.specs.Prelude.{IsTrue}
use Rattle.replay_script.specs.declared.forms.Ask.{Ask}
use Rattle.replay_script.specs.Seen.{seen_ask}
use Rattle.replay_script.specs.Forms.{AskForm}
use Rattle.cdp_messages.specs.Asked.{command_text, is_whole_where_there}
use Rattle.inspect_world.specs.Costs.{ask_cost, least_line}
use Rattle.inspect_world.specs.Fits.{IsBare, HasLeft, FitsWith, Fits, most_sheets, most_fetches, replay}
use Rattle.session_runs.specs.Fetches.{front_in, fetched, fetched_if, all_fetched, stale_in}
use Rattle.inspect_world.specs.FreshRuns.{front_fetcher, refreshes}
use Rattle.inspect_world.specs.Scripts.{sends}
use Rattle.replay_script.specs.Sound.{CanSend}
use Rattle.session_runs.specs.Stream.{Stream, passed, arriving, awaited}
use Rattle.session_runs.specs.World.{sent_up, answered, given_up, delivered_up, delivered_down, settled}
use Rattle.inspect_world.specs.World.{World, one_fetch, raw, turned}
use Rattle.client_views.specs.Moves.{frames_of_moves}
use Rattle.back_end.specs.declared.seat.Seat.{Seat}
use Rattle.back_end.specs.declared.side.PageSide.{PageSide}
use Rattle.back_end.specs.States.{State}
use Rattle.back_end.specs.Steps.{Turn, frame_step, turn_step}
use Rattle.inspect_world.specs.StepBytes.{step, turn}
use Rattle.inspect_world.specs.RunStates.{RunState, run_step, run_turn}
use Rattle.back_end.specs.Laws.{IsTurn}
use Rattle.inspect_world.specs.Held.{Ends, InWorld}
use Rattle.inspect_replay.specs.declared.one_front.OneFront.{OneFront}
use Rattle.replay_parts.specs.declared.stop.Stop.{Stop}
use Rattle.back_end.specs.Seats.{StandsFor, HasRoomLeft}
use Rattle.inspect_replay.specs.Runs.{HonestRun, InRunWith, InRun, AnswersOne, AnswersAll}
use Rattle.inspect_replay.specs.Runs.{Steps, FetchesOne, FetchesAll, with_ends, ends_of}
use Rattle.replay_parts.specs.Moments.{Moment, moment}
use Rattle.replay_parts.specs.LinkEnds.{LinkEnds, TookUp, EachAnswered}
use Rattle.replay_parts.proofs.SendLemmas.{SentUp, sent-up, SentDown, sent-down}
use Rattle.replay_parts.specs.Stops.{GoesWell}
use Rattle.back_end.proofs.SeatLemmas.{on_ok}
use Rattle.session_runs.proofs.Worlds.{answered-cons, put-nil}
use Rattle.session_runs.proofs.LinkRuns.{waiting-is, came-front}
use Rattle.inspect_world.proofs.Scripts.{turn-left}
use Rattle.inspect_world.proofs.FetchesFit.{fetched-if-spends, few-then}
use Rattle.inspect_world.proofs.Ends.{world-room, world-ids, world-sent, world-fetched, world-raw, world-turned, world-answered}
use Rattle.inspect_world.proofs.Ends.{world-given_up, world-delivered_down, never-refuses}
use Rattle.replay_parts.proofs.ValueLemmas.{refs-seen}

-- ---- the ends, by what they hold of the link

-- they are in a run, and every whole frame is answered
abbrev pub PlayWith : Type 0 → (up0 down0 up down : Pipe) → World RunState → LinkEnds → Ends → Type 0
PlayWith honest up0 down0 up down w s e = EachAnswered (HonestRun honest up0 down0 up down w (with_ends s e)) s.splitter.whole

-- the run goes on where bytes were sent up
pub sent-run : (result : Result (Unit {0}) Stop) (honest : Type 0) (up0 down0 up down up1 down1 : Pipe)
    (w : World RunState) (s s1 : LinkEnds) (e : Ends) (bytes : List ℕ) → SentUp result up down up1 down1 s s1 bytes → honest
    → s.splitter.whole ≡ [] → s.up_there ≤ length (waiting up)
    → ((there : ℕ) → (up1.sent ≡ up.sent ++ bytes) × (up1.given ≡ up.given) → there ≡ s.up_there + length bytes
    → InWorld up0 down0 up1 down1 w (s.splitter.whole ++ awaited w.up) (record (with_ends s e) { up_there = there }))
    → OnOk result (PlayWith honest up0 down0 up1 down1 w s1 e)
sent-run result honest up0 down0 up down up1 down1 w s s1 e bytes c is_honest none waits goes =
    sent-up result up down up1 down1 s s1 bytes c (λ u1 d1 x. PlayWith honest up0 down0 u1 d1 w x e) waits
    (λ there sent given left. record {
      so_far = record {
        is_honest = is_honest;
        in_world = subst (λ pipe. InWorld up0 down0 up1 pipe w (s.splitter.whole ++ awaited w.up)
            (record (with_ends s e) { up_there = there })) c.other (goes there (sent, given) left);
      };
      none_whole = none;
    })

-- or down
pub told-run : (result : Result (Unit {0}) Stop) (honest : Type 0) (up0 down0 up down up1 down1 : Pipe)
    (w : World RunState) (s s1 : LinkEnds) (e : Ends) (bytes : List ℕ) → SentDown result up down up1 down1 s s1 bytes → honest
    → s.down_there ≤ length (waiting down)
    → ((there : ℕ) → (down1.sent ≡ down.sent ++ bytes) × (down1.given ≡ down.given) → there ≡ s.down_there + length bytes
    → InWorld up0 down0 up1 down1 w (s.splitter.whole ++ awaited w.up) (record (with_ends s e) { down_there = there }))
    → OnOk result (HonestRun honest up0 down0 up1 down1 w (with_ends s1 e) s1.splitter.whole)
told-run result honest up0 down0 up down up1 down1 w s s1 e bytes c is_honest waits goes =
    sent-down result up down up1 down1 s s1 bytes c
    (λ u1 d1 x. HonestRun honest up0 down0 u1 d1 w (with_ends x e) x.splitter.whole) waits
    (λ there sent given left. record { is_honest = is_honest; in_world = goes there (sent, given) left })

-- with each frame answered
pub whole-run : (result : Result (Unit {0}) Stop) (honest : Type 0) (up0 down0 up down : Pipe) (w : World RunState)
    (s : LinkEnds) (e : Ends) → s.splitter.whole ≡ []
    → OnOk result (HonestRun honest up0 down0 up down w (with_ends s e) s.splitter.whole)
    → OnOk result (PlayWith honest up0 down0 up down w s e)
whole-run (Ok u) honest up0 down0 up down w s e none run = record { so_far = run; none_whole = none }
whole-run (Err stop) honest up0 down0 up down w s e none run = tt

-- ---- a step is made

-- over an honest link the back end has room
pub has-room : (up0 down0 up down : Pipe) (w : World RunState) (frames : List (List ℕ)) (e : Ends) → InWorld up0 down0 up down w frames e
    → (HasRoomLeft e.seat e.side → false ≡ true) → ⊥
has-room up0 down0 up down w frames e in_world none = let no : false
    ≡ true = none (world-room up0 down0 up down w frames e in_world) in absurd cc

-- and so has the front end
pub has-ids : (up0 down0 up down : Pipe) (w : World RunState) (frames : List (List ℕ)) (e : Ends) → InWorld up0 down0 up down w frames e
    → w.spent.fetches ≤ most_fetches → ((e.front.next < 2 ^ 30) × (2 ^ 30 + e.front.fetches < 2 ^ 52) → false ≡ true) → ⊥
has-ids up0 down0 up down w frames e in_world few none = let no : false
    ≡ true = none (world-ids up0 down0 up down w frames e in_world few) in absurd cc

-- a frame is answered
pub answered_in : (up0 down0 up down up1 down1 : Pipe) (w : World RunState) (frame : List ℕ) (frames : List (List ℕ)) (seat seat1 : Seat)
    (side side1 : PageSide) (e : Ends)
    (old out bytes : List ℕ) (there : ℕ)
    → InWorld up0 down0 up down w (frame ∷ frames) (record e { seat = seat; side = side })
    → ((state : State) → StandsFor seat side state → StandsFor seat1 side1 (frame_step false frame state).state)
    → ((state : State) → StandsFor seat side state → out ≡ old ++ frames_of_moves (frame_step false frame state).moves)
    → old ≡ [] → bytes ≡ out
    → up1 ≡ up → (down1.sent ≡ down.sent ++ bytes) × (down1.given ≡ down.given) → there ≡ e.down_there + length out
    → InWorld up0 down0 up1 down1 (answered run_step (frame ∷ []) w) frames (record e { seat = seat1; side = side1; down_there = there })
answered_in up0 down0 up down up1 down1 w frame frames seat seat1 side side1 e old out bytes there in_world stood said empty same_out
    same_up sent left =
    let all : InWorld up0 down0 up down1 (answered run_step (frame ∷ []) w) frames
    (record e { seat = seat1; side = side1; down_there = there }) =
    world-answered up0 down0 up down down1 w frame frames (record e { seat = seat; side = side }) seat1 side1 out there in_world
    (stood w.state.back in_world.stands)
    (said w.state.back in_world.stands ∙ ap (λ start. start ++ (step w.state.back frame).sent) empty)
    (sent.0 ∙ ap (λ piece. down.sent ++ piece) same_out) sent.1 left in
    subst (λ pipe. InWorld up0 down0 pipe down1 (answered run_step (frame ∷ []) w) frames
    (record e { seat = seat1; side = side1; down_there = there })) (sym same_up) all

-- the script makes a step by itself
pub turned_in : (up0 down0 up down up1 down1 : Pipe) (w : World RunState) (x : Turn) (whole : List (List ℕ)) (seat seat1 : Seat)
    (side side1 : PageSide) (e : Ends)
    (old out bytes : List ℕ) (there : ℕ)
    → InWorld up0 down0 up down w (whole ++ awaited w.up) (record e { seat = seat; side = side }) → whole ≡ [] → IsTurn x
    → HasLeft w.spent least_line
    → ((state : State) → StandsFor seat side state → StandsFor seat1 side1 (turn_step x state).state)
    → ((state : State) → StandsFor seat side state → out ≡ old ++ frames_of_moves (turn_step x state).moves)
    → old ≡ [] → bytes ≡ out
    → up1 ≡ up → (down1.sent ≡ down.sent ++ bytes) × (down1.given ≡ down.given) → there ≡ e.down_there + length out
    → InWorld up0 down0 up1 down1 (turned run_turn x w) (whole ++ awaited (turned run_turn x w).up)
    (record e { seat = seat1; side = side1; down_there = there })
turned_in up0 down0 up down up1 down1 w x whole seat seat1 side side1 e old out bytes there in_world none is_turn room stood said empty
    same_out same_up sent left =
    let start : InWorld up0 down0 up down w (awaited w.up) (record e { seat = seat; side = side }) =
    subst (λ frames. InWorld up0 down0 up down w (frames ++ awaited w.up) (record e { seat = seat; side = side })) none in_world in
    let all : InWorld up0 down0 up down1 (turned run_turn x w) (awaited w.up)
    (record e { seat = seat1; side = side1; down_there = there }) =
    world-turned up0 down0 up down down1 w (record e { seat = seat; side = side }) x seat1 side1 out there start
    (record { is_turn = is_turn; few = turn-left w.spent room })
    (stood w.state.back in_world.stands)
    (said w.state.back in_world.stands ∙ ap (λ start. start ++ (turn x w.state.back).sent) empty)
    (sent.0 ∙ ap (λ piece. down.sent ++ piece) same_out) sent.1 left in
    subst (λ pipe. InWorld up0 down0 pipe down1 (turned run_turn x w) (whole ++ awaited w.up)
    (record e { seat = seat1; side = side1; down_there = there })) (sym same_up)
    (subst (λ frames. InWorld up0 down0 up down1 (turned run_turn x w) (frames ++ awaited w.up)
    (record e { seat = seat1; side = side1; down_there = there })) (sym none) all)

-- ---- an ask is sent

-- what is plain holds no number that is not whole
pub whole-plain : (o : Option Data) → holds_of_some is_plain o ≡ true → IsTrue (is_whole_where_there o)
whole-plain None plain = refl
whole-plain (Some d) plain = ap not (has_float-is_plain d plain)

-- the frame of an ask, as its line has it
pub frame-seen : (next : ℕ) (ask : Ask) (frame method : List ℕ) (params session : Option (Bor Value))
    → method ≡ ask.method → option_copied params ≡ ask.params → option_copied session ≡ ask.session
    → frame ≡ framed (command_text next method (option_map (λ (p : Bor Value). view p.now) params)
    (option_map (λ (p : Bor Value). view p.now) session))
    → frame ≡ framed (command_text next (seen_ask ask).method (seen_ask ask).params (seen_ask ask).session)
frame-seen next ask frame method params session m p s is =
    is
    ∙ ap (λ m'. framed (command_text next m' (option_map (λ (q : Bor Value). view q.now) params)
    (option_map (λ (q : Bor Value). view q.now) session))) m
    ∙ ap (λ p'. framed (command_text next ask.method p' (option_map (λ (q : Bor Value). view q.now) session)))
    (refs-seen params ask.params p)
    ∙ ap (λ s'. framed (command_text next ask.method (option_map view ask.params) s')) (refs-seen session ask.session s)

pub asked_in : (up0 down0 up down up1 down1 : Pipe) (w : World RunState) (e : Ends) (a : AskForm) (whole : List (List ℕ))
    (frame bytes : List ℕ) (there : ℕ) (front1 : FrontState)
    → CanSend a → HasLeft w.spent (ask_cost a) → InWorld up0 down0 up down w (whole ++ awaited w.up) e → whole ≡ []
    → frame ≡ framed (command_text e.front.next a.method a.params a.session) → front1 ≡ after_ask e.front a.method
    → bytes ≡ frame → (up1.sent ≡ up.sent ++ bytes) × (up1.given ≡ up.given) → down1 ≡ down → there ≡ e.up_there + length frame
    → InWorld up0 down0 up1 down1 (sends a w) (whole ++ awaited (sends a w).up) (record e { front = front1; up_there = there })
asked_in up0 down0 up down up1 down1 w e a whole frame bytes there front1 can few in_world none frame_is front_is same_bytes sent same_down
    left =
    let next : e.front.next ≡ w.spent.asks + 1 = ap (λ (f : FrontState). f.next) in_world.front_is in
    let text = command_text (w.spent.asks + 1) a.method a.params a.session in
    let framed_is : frame ≡ framed text = frame_is ∙ ap (λ n. framed (command_text n a.method a.params a.session)) next in
    let start : InWorld up0 down0 up down w (awaited w.up) e = subst
    (λ frames. InWorld up0 down0 up down w (frames ++ awaited w.up) e) none in_world in
    let all : InWorld up0 down0 up1 down (sends a w) (awaited (sends a w).up)
    (record e { front = after_ask e.front a.method; up_there = there }) =
    world-sent up0 down0 up down up1 w e a text there start can few refl
    (sent.0 ∙ ap (λ piece. up.sent ++ piece) (same_bytes ∙ framed_is)) sent.1
    (left ∙ ap (λ piece. e.up_there + length piece) framed_is) in
    subst (λ pipe. InWorld up0 down0 up1 pipe (sends a w) (whole ++ awaited (sends a w).up)
    (record e { front = front1; up_there = there })) (sym same_down)
    (subst (λ frames. InWorld up0 down0 up1 down (sends a w) (frames ++ awaited (sends a w).up)
    (record e { front = front1; up_there = there })) (sym none)
    (subst (λ f. InWorld up0 down0 up1 down (sends a w) (awaited (sends a w).up) (record e { front = f; up_there = there }))
    (sym front_is) all))

-- a frame is sent that names no ask
pub raw_in : (up0 down0 up down up1 down1 : Pipe) (w : World RunState) (e : Ends) (text : List ℕ) (whole : List (List ℕ))
    (frame bytes : List ℕ) (there : ℕ)
    → IsText text → IsBare text → HasLeft w.spent least_line → InWorld up0 down0 up down w (whole ++ awaited w.up) e → whole ≡ []
    → frame ≡ framed text → bytes ≡ frame → (up1.sent ≡ up.sent ++ bytes) × (up1.given ≡ up.given) → down1 ≡ down
    → there ≡ e.up_there + length frame
    → InWorld up0 down0 up1 down1 (raw text w) (whole ++ awaited (raw text w).up) (record e { up_there = there })
raw_in up0 down0 up down up1 down1 w e text whole frame bytes there letters bare room in_world none frame_is same_bytes sent same_down left
    =
    let start : InWorld up0 down0 up down w (awaited w.up) e = subst
    (λ frames. InWorld up0 down0 up down w (frames ++ awaited w.up) e) none in_world in
    let all : InWorld up0 down0 up1 down (raw text w) (awaited (raw text w).up) (record e { up_there = there }) =
    world-raw up0 down0 up down up1 w e text there start letters bare room
    (sent.0 ∙ ap (λ piece. up.sent ++ piece) (same_bytes ∙ frame_is)) sent.1
    (left ∙ ap (λ piece. e.up_there + length piece) frame_is) in
    subst (λ pipe. InWorld up0 down0 up1 pipe (raw text w) (whole ++ awaited (raw text w).up) (record e { up_there = there }))
    (sym same_down)
    (subst (λ frames. InWorld up0 down0 up1 down (raw text w) (frames ++ awaited (raw text w).up) (record e { up_there = there }))
    (sym none) all)

-- the text of a sheet is fetched
pub fetched_in : (up0 down0 up down up1 down1 : Pipe) (w : World RunState) (e : Ends) (sheet : ℕ) (whole : List (List ℕ))
    (frame bytes : List ℕ) (there : ℕ) (front1 : FrontState)
    → sheet < 2 ^ 64 → w.spent.fetches + 1 ≤ most_fetches → InWorld up0 down0 up down w (whole ++ awaited w.up) e → whole ≡ []
    → frame ≡ framed (front_fetcher.text e.front.fetches sheet) → front1 ≡ after_fetch e.front sheet
    → bytes ≡ frame → (up1.sent ≡ up.sent ++ bytes) × (up1.given ≡ up.given) → down1 ≡ down → there ≡ e.up_there + length frame
    → InWorld up0 down0 up1 down1 (sent_up (front_fetcher.text w.spent.fetches sheet) one_fetch w)
    (whole ++ awaited (sent_up (front_fetcher.text w.spent.fetches sheet) one_fetch w).up)
    (record e { front = front1; up_there = there })
fetched_in up0 down0 up down up1 down1 w e sheet whole frame bytes there front1 fits few in_world none frame_is front_is same_bytes sent
    same_down left =
    let count : e.front.fetches ≡ w.spent.fetches = ap (λ (f : FrontState). f.fetches) in_world.front_is in
    let text = front_fetcher.text w.spent.fetches sheet in
    let after : World RunState = sent_up text one_fetch w in
    let framed_is : frame ≡ framed text = frame_is ∙ ap (λ n. framed (front_fetcher.text n sheet)) count in
    let start : InWorld up0 down0 up down w (awaited w.up) e = subst
    (λ frames. InWorld up0 down0 up down w (frames ++ awaited w.up) e) none in_world in
    let all : InWorld up0 down0 up1 down after (awaited after.up) (record e { front = after_fetch e.front sheet; up_there = there }) =
    world-fetched up0 down0 up down up1 w e sheet there start fits few
    (sent.0 ∙ ap (λ piece. up.sent ++ piece) (same_bytes ∙ framed_is)) sent.1
    (left ∙ ap (λ piece. e.up_there + length piece) framed_is) in
    subst (λ pipe. InWorld up0 down0 up1 pipe after (whole ++ awaited after.up) (record e { front = front1; up_there = there }))
    (sym same_down)
    (subst (λ frames. InWorld up0 down0 up1 down after (frames ++ awaited after.up) (record e { front = front1; up_there = there }))
    (sym none)
    (subst (λ f. InWorld up0 down0 up1 down after (awaited after.up) (record e { front = f; up_there = there })) (sym front_is) all))

-- ---- bytes come

-- bytes come up, and are cut into frames
pub given_in : (up0 down0 up down up1 down1 : Pipe) (w : World RunState) (e : Ends) (n there max : ℕ) (piece : List ℕ) (s s1 : Frames)
    → InWorld up0 down0 up down w (s.whole ++ awaited w.up) e → s.whole ≡ [] → s.rest ≡ e.back_rest
    → max ≡ min n e.up_there → piece ≡ take max (waiting up)
    → (up1.sent ≡ up.sent) × (up1.given ≡ up.given ++ piece) → down1 ≡ down → there ≡ e.up_there - length piece
    → s1 ≡ continued s piece
    → InWorld up0 down0 up1 down1 (given_up n w) (s1.whole ++ awaited (given_up n w).up)
    (record e { back_rest = s1.rest; up_there = there })
    × (s1.whole ≡ arriving n w.up)
given_in up0 down0 up down up1 down1 w e n there max piece s s1 in_world none rest max_is front moved same_down left cut =
    let start : InWorld up0 down0 up down w (awaited w.up) e = subst
    (λ whole. InWorld up0 down0 up down w (whole ++ awaited w.up) e) none in_world in
    let on = in_world.on_link in
    let part : piece ≡ take n w.up.flying =
    came-front up n e.up_there max piece w.up (waiting-is up0 up w.up on.up_is) on.up_left max_is front in
    let rest_is : s1.rest ≡ held_after e.back_rest piece = ap (λ (f : Frames). f.rest) cut ∙ ap (λ held. held_after held piece) rest in
    let whole : s1.whole ≡ arriving n w.up =
    ap (λ (f : Frames). f.whole) cut
    ∙ ap (λ frames. frames ++ frames_from s.rest piece) none
    ∙ ap (λ held. frames_from held piece) (rest ∙ on.back_is)
    ∙ ap (λ bytes. frames_from (frames_of w.up.given).rest bytes) part in
    let all : InWorld up0 down0 up1 down (given_up n w) (arriving n w.up ++ awaited (passed n w.up))
    (record e { back_rest = s1.rest; up_there = there }) =
    world-given_up up0 down0 up down up1 w e n there piece s1.rest start part moved.0 moved.1 left rest_is in (
      subst (λ frames. InWorld up0 down0 up1 down1 (given_up n w) (frames ++ awaited (passed n w.up))
          (record e { back_rest = s1.rest; up_there = there })) (sym whole)
          (subst (λ pipe. InWorld up0 down0 up1 pipe (given_up n w) (arriving n w.up ++ awaited (passed n w.up))
          (record e { back_rest = s1.rest; up_there = there })) (sym same_down) all),
      whole,
    )

-- bytes come down
pub delivered_in : (up0 down0 up down up1 down1 : Pipe) (w : World RunState) (frames : List (List ℕ)) (e : Ends) (n there max : ℕ)
    (piece : List ℕ) (front1 : FrontState)
    → InWorld up0 down0 up down w frames e
    → max ≡ min n e.down_there → piece ≡ take max (waiting down)
    → (down1.sent ≡ down.sent) × (down1.given ≡ down.given ++ piece) → up1 ≡ up → there ≡ e.down_there - length piece
    → front1 ≡ after_take e.front piece
    → InWorld up0 down0 up1 down1 (delivered_down n w) frames (record e { front = front1; down_there = there })
delivered_in up0 down0 up down up1 down1 w frames e n there max piece front1 in_world max_is front moved same_up left front_is =
    let on = in_world.on_link in
    let part : piece ≡ take n w.down.flying =
    came-front down n e.down_there max piece w.down (waiting-is down0 down w.down on.down_is) on.down_left max_is front in
    let all : InWorld up0 down0 up down1 (delivered_down n w) frames (record e { front = after_take e.front piece; down_there = there }) =
    world-delivered_down up0 down0 up down down1 w frames e n there piece in_world part moved.0 moved.1 left in
    subst (λ pipe. InWorld up0 down0 pipe down1 (delivered_down n w) frames (record e { front = front1; down_there = there })) (sym same_up)
    (subst (λ front'. InWorld up0 down0 up down1 (delivered_down n w) frames (record e { front = front'; down_there = there }))
    (sym front_is) all)

-- the front end is never at fault
pub no_fault : (up0 down0 up down : Pipe) (w : World RunState) (frames : List (List ℕ)) (e : Ends) (n max : ℕ) (piece : List ℕ)
    (front1 : FrontState) (f : FrontFault)
    → InWorld up0 down0 up down w frames e
    → max ≡ min n e.down_there → piece ≡ take max (waiting down)
    → front1 ≡ after_take e.front piece → front1.fault ≡ Some f → ⊥
no_fault up0 down0 up down w frames e n max piece front1 f in_world max_is front front_is fault =
    let on = in_world.on_link in
    let part : piece ≡ take n w.down.flying =
    came-front down n e.down_there max piece w.down (waiting-is down0 down w.down on.down_is) on.down_left max_is front in
    let none : (after_take e.front piece).fault ≡ None = never-refuses up0 down0 up down w frames e n piece in_world part in
    let both : ◌≡◌ {A = Option FrontFault} (Some f) None = sym fault ∙ ap (λ (s : FrontState). s.fault) front_is ∙ none in
    cc

-- ---- frames are answered one after the other

-- while frames are answered: where the run is, and that it goes to where it would have gone
pub record Answering {P : Type 0} {g : Ghosts P} (honest : Type 0) (up0 down0 up down : Pipe) (target : World RunState)
    (e : OneFront P g) : Type 0 where
  pub world : World RunState
  pub so_far : InRunWith honest up0 down0 up down world e
  pub goes : answered run_step e.ends.splitter.whole world ≡ target

-- what the answer to the next frame makes of it
pub answer_turn : {P : Type 0} {g : Ghosts P} {T : Type 0} (result : Result T Stop) (honest honest1 : Type 0)
    (up0 down0 up down up1 down1 : Pipe)
    (target : World RunState)
    (e e1 : OneFront P g) (s : LinkEnds) (frame : List ℕ)
    → Answering honest up0 down0 up down target e
    → e.ends.splitter.whole ≡ frame ∷ s.splitter.whole → s.splitter.rest ≡ e.ends.splitter.rest
    → s ≡ record e.ends { splitter = s.splitter }
    → AnswersOne (moment honest up down (record e { ends = s })) (moment honest1 up1 down1 e1) frame result
    → e1.ends.splitter ≡ s.splitter
    → GoesWell result × OnOk result (Answering honest1 up0 down0 up1 down1 target e1)
answer_turn {T} result honest honest1 up0 down0 up down up1 down1 target e e1 s frame going whole rest ends answers same =
    let w = going.world in
    let start : InWorld up0 down0 up down w (frame ∷ (s.splitter.whole ++ awaited w.up)) (ends_of (record e { ends = s })) =
    subst (λ x. InWorld up0 down0 up down w (frame ∷ (s.splitter.whole ++ awaited w.up)) (with_ends x (ends_of e))) (sym ends)
    (subst (λ r. InWorld up0 down0 up down w (frame ∷ (s.splitter.whole ++ awaited w.up)) (record (ends_of e) { back_rest = r })) (sym rest)
    (subst (λ frames. InWorld up0 down0 up down w (frames ++ awaited w.up) (ends_of e)) whole going.so_far.in_world)) in
    let both = answers up0 down0 w going.so_far.is_honest start in
    let goes : answered run_step e1.ends.splitter.whole (answered run_step (frame ∷ []) w) ≡ target =
    ap (λ (f : Frames). answered run_step f.whole (answered run_step (frame ∷ []) w)) same
    ∙ sym (answered-cons run_step frame s.splitter.whole w)
    ∙ ap (λ frames. answered run_step frames w) (sym whole)
    ∙ going.goes in
    (both.0, on_ok result _ _ both.1 (λ run. record { world = answered run_step (frame ∷ []) w; so_far = run; goes = goes }))

-- no frame is left
pub answer_end : {P : Type 0} {g : Ghosts P} (honest : Type 0) (up0 down0 up down : Pipe) (target : World RunState)
    (e : OneFront P g) (s : LinkEnds) → Answering honest up0 down0 up down target e → s ≡ e.ends → s.splitter.whole ≡ []
    → InRun honest up0 down0 up down target (record e { ends = s })
answer_end honest up0 down0 up down target e s going same none =
    let w = going.world in
    let empty : e.ends.splitter.whole ≡ [] = ap (λ (x : LinkEnds). x.splitter.whole) (sym same) ∙ none in
    let at_target : w ≡ target = sym (ap (λ frames. answered run_step frames w) empty ∙ nothing w) ∙ going.goes in
    let world : InWorld up0 down0 up down w (s.splitter.whole ++ awaited w.up) (ends_of (record e { ends = s })) =
    subst (λ x. InWorld up0 down0 up down w (x.splitter.whole ++ awaited w.up) (with_ends x (ends_of e))) (sym same)
    going.so_far.in_world in
    subst (λ v. InRun honest up0 down0 up down v (record e { ends = s })) at_target
    (record { so_far = record { is_honest = going.so_far.is_honest; in_world = world }; none_whole = none })
  where
    nothing : (w : World RunState) → answered run_step [] w ≡ w
    nothing w = ap (λ (s : Stream). record w { down = s }) (put-nil w.down)

-- bytes came up, as `take_up` says
pub took-run : (up0 down0 : Pipe) (n : ℕ) (old new : Moment LinkEnds) (w : World RunState) (e : Ends) → TookUp n old new
    → new.down ≡ old.down → (old.honest → new.honest) → PlayWith old.honest up0 down0 old.up old.down w old.ends e
    → HonestRun new.honest up0 down0 new.up new.down (given_up n w) (with_ends new.ends e) new.ends.splitter.whole
    × (new.ends.splitter.whole ≡ arriving n w.up)
took-run up0 down0 n old new w e took same_down keeps run =
    let there : new.ends.up_there + length took.piece ≡ old.ends.up_there = took.count in
    let left : new.ends.up_there ≡ old.ends.up_there - length took.piece = omega (arith, there) in
    let all = given_in up0 down0 old.up old.down new.up new.down w (with_ends old.ends e) n new.ends.up_there
    (min n old.ends.up_there) took.piece old.ends.splitter new.ends.splitter run.so_far.in_world run.none_whole refl refl
    (took.all run.so_far.is_honest) (took.sent, took.given) same_down left took.cut in (
      record {
        is_honest = keeps run.so_far.is_honest;
        in_world = subst (λ m. InWorld up0 down0 new.up new.down (given_up n w)
            (new.ends.splitter.whole ++ awaited (given_up n w).up) (record (with_ends new.ends e) { down_there = m }))
            (sym took.down_there) all.0;
      },
      all.1,
    )

-- bytes came down, as `take_down` says
pub got-run : (honest honest1 : Type 0) (up0 down0 up down up1 down1 : Pipe) (w : World RunState) (n : ℕ) (s s1 : LinkEnds)
    (e : Ends) (bytes : List ℕ) (front1 : FrontState)
    → PlayWith honest up0 down0 up down w s e → (honest → honest1) → s1 ≡ record s { down_there = s1.down_there }
    → s1.down_there + length bytes ≡ s.down_there → (honest → bytes ≡ take (min n s.down_there) (waiting down))
    → (down1.sent ≡ down.sent) × (down1.given ≡ down.given ++ bytes) → up1 ≡ up → front1 ≡ after_take e.front bytes
    → PlayWith honest1 up0 down0 up1 down1 (delivered_down n w) s1 (record e { front = front1 })
got-run honest honest1 up0 down0 up down up1 down1 w n s s1 e bytes front1 run keeps ends count all moved same_up front_is =
    let left : s1.down_there ≡ s.down_there - length bytes = omega (arith, count) in
    subst (λ x. PlayWith honest1 up0 down0 up1 down1 (delivered_down n w) x (record e { front = front1 })) (sym ends) (record {
      so_far = record {
        is_honest = keeps run.so_far.is_honest;
        in_world = delivered_in up0 down0 up down up1 down1 w (s.splitter.whole ++ awaited w.up) (with_ends s e) n s1.down_there
            (min n s.down_there) bytes front1 run.so_far.in_world refl (all run.so_far.is_honest) moved same_up left front_is;
      };
      none_whole = run.none_whole;
    })

-- bytes came up, and their frames are answered
pub deliver_goes : {P : Type 0} {g : Ghosts P} {T : Type 0} (result : Result T Stop) (honest honest1 : Type 0)
    (up0 down0 up down up1 down1 : Pipe)
    (w : World RunState) (n : ℕ)
    (e e1 : OneFront P g)
    → InRunWith honest up0 down0 up down (given_up n w) e × (e.ends.splitter.whole ≡ arriving n w.up)
    → AnswersAll (moment honest up down e) (moment honest1 up1 down1 e1) result
    → GoesWell result × OnOk result (InRun honest1 up0 down0 up1 down1 (delivered_up run_step n w) e1)
deliver_goes result honest honest1 up0 down0 up down up1 down1 w n e e1 run answers =
    subst (λ frames. GoesWell result × OnOk result (InRun honest1 up0 down0 up1 down1 (answered run_step frames (given_up n w)) e1)) run.1
    (answers up0 down0 (given_up n w) run.0)

-- all of the up pipe was delivered, and then all of the down pipe
pub settle_goes : {P : Type 0} {g : Ghosts P} {T : Type 0} (result : Result T Stop) (honest honest1 : Type 0)
    (up0 down0 up down up1 down1 : Pipe)
    (w : World RunState)
    (n : ℕ)
    (e e1 : OneFront P g)
    → n ≡ length w.up.flying
    → InRun honest up0 down0 up down (delivered_up run_step n w) e
    → Steps (moment honest up down e) (moment honest1 up1 down1 e1) result (λ v. delivered_down e.ends.down_there v)
    → GoesWell result × OnOk result (InRun honest1 up0 down0 up1 down1 (settled run_step w) e1)
settle_goes result honest honest1 up0 down0 up down up1 down1 w n e e1 all run steps =
    let same : delivered_down e.ends.down_there (delivered_up run_step n w) ≡ settled run_step w =
    ap (λ m. delivered_down m (delivered_up run_step n w)) run.so_far.in_world.on_link.down_left
    ∙ ap (λ m. delivered_down (length (delivered_up run_step m w).down.flying) (delivered_up run_step m w)) all in
    subst (λ v. GoesWell result × OnOk result (InRun honest1 up0 down0 up1 down1 v e1)) same
    (steps up0 down0 (delivered_up run_step n w) run)

-- ---- the fetches of a settle

-- the front end of the run is that of the ends
pub run-front : {P : Type 0} {g : Ghosts P} (honest : Type 0) (up0 down0 up down : Pipe) (w : World RunState) (e : OneFront P g)
    → InRun honest up0 down0 up down w e
    → front_in replay (first_value []) w ≡ Ok e.front.value
run-front honest up0 down0 up down w e run =
    run.so_far.in_world.is_fold ∙ ap (λ (f : FrontState). Ok f.value) (sym run.so_far.in_world.front_is)

-- a sheet is fetched where the front end knows it
fetched-is : {P : Type 0} {g : Ghosts P} (honest : Type 0) (up0 down0 up down : Pipe) (w : World RunState) (e : OneFront P g)
    (number : ℕ) (known : Bool)
    → InRun honest up0 down0 up down w e
    → has_sheet number e.front.value.sheets ≡ known
    → fetched_if replay front_fetcher (front_in replay (first_value []) w) number w ≡ cond known (fetched replay front_fetcher number w) w
fetched-is honest up0 down0 up down w e number known run is =
    ap (λ r. fetched_if replay front_fetcher r number w) (run-front honest up0 down0 up down w e run)
    ∙ ap (λ b. cond b (fetched replay front_fetcher number w) w) is

pub fetch_known : {P : Type 0} {g : Ghosts P} {T : Type 0} (result : Result T Stop) (honest honest1 : Type 0)
    (up0 down0 up down up1 down1 : Pipe)
    (w : World RunState)
    (e e1 : OneFront P g) (number : ℕ)
    → InRun honest up0 down0 up down w e → has_sheet number e.front.value.sheets ≡ true
    → GoesWell result × OnOk result (InRun honest1 up0 down0 up1 down1 (fetched replay front_fetcher number w) e1)
    → GoesWell result × OnOk result
    (InRun honest1 up0 down0 up1 down1 (fetched_if replay front_fetcher (front_in replay (first_value []) w) number w) e1)
fetch_known result honest honest1 up0 down0 up down up1 down1 w e e1 number run is goes =
    subst (λ v. GoesWell result × OnOk result (InRun honest1 up0 down0 up1 down1 v e1))
    (sym (fetched-is honest up0 down0 up down w e number true run is)) goes

-- while texts are fetched: where the run is, and that it goes to where it would have gone
pub record Fetching {P : Type 0} {g : Ghosts P} (honest : Type 0) (up0 down0 up down : Pipe) (target : World RunState) (numbers : List ℕ)
    (e : OneFront P g) : Type 0 where
  pub world : World RunState
  pub in_run : InRun honest up0 down0 up down world e
  pub few : world.spent.fetches + length numbers ≤ most_fetches
  pub goes : all_fetched replay front_fetcher (first_value []) numbers world ≡ target

-- the next of them is fetched, or passed over
next_fetched : {P : Type 0} {g : Ghosts P} {T : Type 0} (result : Result T Stop) (honest honest1 : Type 0)
    (up0 down0 up down up1 down1 : Pipe)
    (target : World RunState) (number : ℕ) (numbers : List ℕ)
    (e e1 : OneFront P g)
    → Fetching honest up0 down0 up down target (number ∷ numbers) e
    → FetchesOne (moment honest up down e) (moment honest1 up1 down1 e1) number result
    → GoesWell result × OnOk result (Fetching honest1 up0 down0 up1 down1 target numbers e1)
next_fetched result honest honest1 up0 down0 up down up1 down1 target number numbers e e1 going fetches =
    let w = going.world in
    let few : w.spent.fetches + suc (length numbers) ≤ most_fetches = going.few in
    let both = fetches up0 down0 w (omega (arith, few)) going.in_run in
    let after : World RunState = fetched_if replay front_fetcher (front_in replay (first_value []) w) number w in
    let spent : after.spent.fetches ≤ w.spent.fetches + 1 = fetched-if-spends (first_value []) number w in
    (both.0, on_ok result _ _ both.1 (λ run. record { world = after; in_run = run; few = omega (arith, few, spent); goes = going.goes }))

pub fetch_turn : {P : Type 0} {g : Ghosts P} {T : Type 0} (result : Result T Stop) (honest honest1 : Type 0)
    (up0 down0 up down up1 down1 : Pipe)
    (target : World RunState) (numbers : List ℕ) (i number : ℕ)
    (e e1 : OneFront P g) → i < length numbers → number ≡ get_or numbers i 0
    → Fetching honest up0 down0 up down target (drop i numbers) e
    → FetchesOne (moment honest up down e) (moment honest1 up1 down1 e1) number result
    → GoesWell result × OnOk result (Fetching honest1 up0 down0 up1 down1 target (drop (i + 1) numbers) e1)
fetch_turn result honest honest1 up0 down0 up down up1 down1 target numbers i number e e1 h at going fetches =
    let split : drop i numbers ≡ number
    ∷ drop (i + 1) numbers = rw (add-one, drop-cons numbers i 0) (ap (λ x. x ∷ drop (suc i) numbers) (sym at)) in
    next_fetched result honest honest1 up0 down0 up down up1 down1 target number (drop (i + 1) numbers) e e1
    (subst (λ ns. Fetching honest up0 down0 up down target ns e) split going) fetches

-- no sheet is left
pub fetch_end : {P : Type 0} {g : Ghosts P} (honest : Type 0) (up0 down0 up down : Pipe) (target : World RunState) (numbers : List ℕ)
    (e : OneFront P g) → numbers ≡ []
    → Fetching honest up0 down0 up down target numbers e → InRun honest up0 down0 up down target e
fetch_end honest up0 down0 up down target numbers e none going =
    subst (λ w. InRun honest up0 down0 up down w e)
    (sym (ap (λ ns. all_fetched replay front_fetcher (first_value []) ns going.world) none) ∙ going.goes) going.in_run

-- after all was delivered the texts that are old are fetched
pub refresh_goes : {P : Type 0} {g : Ghosts P} {T : Type 0} (result : Result T Stop) (honest honest0 honest1 : Type 0)
    (up0 down0 up down up1 down1 up2 down2 : Pipe)
    (w : World RunState)
    (e e1 e2 : OneFront P g)
    → HasLeft w.spent 0 → InRun honest up0 down0 up down w e → InRun honest0 up0 down0 up1 down1 (settled run_step w) e1
    → FetchesAll (moment honest0 up1 down1 e1) (moment honest1 up2 down2 e2) (stale_of e1.front.value.sheets) result
    → GoesWell result × OnOk result (InRun honest1 up0 down0 up2 down2 (refreshes front_fetcher w) e2)
refresh_goes result honest honest0 honest1 up0 down0 up down up1 down1 up2 down2 w e e1 e2 left run run1 fetches =
    let w1 = settled run_step w in
    let front_is : front_in replay (first_value []) w1 ≡ Ok e1.front.value = run-front honest0 up0 down0 up1 down1 w1 e1 run1 in
    let fits : Fits w1 = subst (λ frames. FitsWith w1 (frames ++ awaited w1.up)) run1.none_whole run1.so_far.in_world.on_link.fits in
    let few : length (stale_of e1.front.value.sheets) ≤ most_sheets = few-then w e1.front.value fits front_is in
    let room : w.spent.fetches + (0 + 1) * most_sheets ≤ most_fetches = left.fetches in
    subst (λ numbers. GoesWell result
    × OnOk result (InRun honest1 up0 down0 up2 down2 (all_fetched replay front_fetcher (first_value []) numbers w1) e2))
    (sym (ap (stale_in front_fetcher) front_is))
    (fetches up0 down0 w1 (omega (arith, few, room)) run1)
