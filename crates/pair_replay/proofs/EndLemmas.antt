-- What the calls on the link and on the two ends make of a run.
use Rattle.std.proofs.Common.{◌≡◌, ℕ, ◌+◌, ◌<◌, ◌≤◌, ◌^◌, List, [], ◌∷◌, ◌++◌, length, Bool, true, false, Option}
use Rattle.std.proofs.Common.{refl, sym, ◌∙◌, ap, subst, Result, Ok, Err, arith, option_map, ◌-◌, min, take}
use Rattle.std.specs.Prelude.{⊤, IfSome}
use Rattle.std.specs.Borrow.{Bor}
use Rattle.std.specs.Option.{option_copied}
use Rattle.std.specs.Result.{OnOk}
use Rattle.serde_json.specs.declared.value.Value.{Value}
use Rattle.serde_json.specs.View.{view}
use Rattle.front_mirror.specs.declared.panels.Panel.{Ghosts}
use Rattle.pipe_frames.specs.Pipe.{Pipe, waiting}
use Rattle.pipe_frames.specs.Frames.{IsText, Frames, framed}
use Rattle.replay_script.specs.declared.forms.Ask.{Ask}
use Rattle.replay_script.specs.Seen.{seen_ask}
use Rattle.replay_script.specs.Forms.{AskForm}
use Rattle.replay_script.specs.Sound.{CanSend}
use Rattle.session_runs.specs.Stream.{Stream, arriving, awaited}
use Rattle.session_runs.specs.World.{sent_up, answered, given_up, delivered_up, delivered_down, turned}
use Rattle.session_runs.specs.Fold.{RoomThroughout}
use Rattle.session_runs.specs.Agreement.{IsAtRest}
use Rattle.session_runs.specs.Pairs.{attach, detach, pair_step, pair_act}
use Rattle.session_runs.proofs.LinkRuns.{waiting-is}
use Rattle.session_runs.proofs.Worlds.{answered-cons, put-nil}
use Rattle.multi_replay.specs.States.{StatePair, FrontsState, is_there, HaveRoom, ask_text, fetch_text, attach_text, detach_text}
use Rattle.multi_replay.specs.States.{after_asked, after_taken}
use Rattle.multi_replay.specs.States.{after_fetched, after_target}
use Rattle.back_end.specs.Steps.{Turn}
use Rattle.back_end.specs.Laws.{IsTurn}
use Rattle.back_end.specs.declared.mux.Mux.{Mux}
use Rattle.back_end.specs.declared.side.PageSide.{PageSide}
use Rattle.back_end.specs.Pairs as clients
use Rattle.back_end.specs.Pairs.{Pair, pair_turn}
use Rattle.back_end.specs.PairSeats.{PairStandsFor, PairHasRoomLeft}
use Rattle.inspect_world.specs.Fits.{IsBare, most_fetches}
use Rattle.inspect_world.specs.Costs.{least_line}
use Rattle.pair_world.specs.Clients.{pair_reads, client_steps}
use Rattle.pair_world.specs.PairRuns.{PairRun, one_ask_on, one_attach, none_more, fetches_on, next_target}
use Rattle.pair_world.specs.PairFresh.{PairHasLeft, PairRoom}
use Rattle.pair_world.specs.PairHeld as held
use Rattle.pair_world.specs.PairHeld.{PairMode, calm, targeted, InPairWorld}
use Rattle.pair_world.specs.PairSendings.{next_ask_text, PairHasIds}
use Rattle.pair_world.proofs.PairEndLemmas.{world-has-room, world-no-room}
use Rattle.pair_world.proofs.PairKnown.{ids-left, world-ids}
use Rattle.pair_world.proofs.PairCalls.{asked_in, fetched_in, fetch_sent, raw_in, attached_in, detached_in, detach_sent}
use Rattle.pair_world.proofs.PairCalls.{answered_in, turned_in, given_in, delivered_in}
use Rattle.replay_parts.specs.declared.stop.Stop.{Stop}
use Rattle.replay_parts.specs.declared.stop.Stop.TheVariants.{Line, TooLong, ReadFault, WriteFault, LinkFault, FrontRefused, NoRoom}
use Rattle.replay_parts.specs.declared.stop.Stop.TheVariants.{Memory}
use Rattle.replay_parts.specs.Stops.{RoseFor}
use Rattle.replay_parts.specs.Says.{Counts}
use Rattle.replay_parts.specs.Moments.{Moment, moment}
use Rattle.replay_parts.specs.LinkEnds.{LinkEnds, TookUp, EachAnswered}
use Rattle.replay_parts.proofs.SendLemmas.{SentUp, sent-up, SentDown, sent-down, same-whole}
use Rattle.pair_replay.specs.declared.two_fronts.TwoFronts.{TwoFronts}
use Rattle.pair_replay.specs.PairStarts.{may_ask_on}
use Rattle.pair_replay.specs.PairAnswers.{RoomTold}
use Rattle.pair_replay.specs.Running.{with_ends, pair_ends_of, HonestPair, InPairRunWith, InPairRun, PairAnswersOne, PairAnswersAll}
use Rattle.pair_replay.proofs.StopLemmas.{room-there}
use Rattle.replay_parts.proofs.ValueLemmas.{refs-seen}

-- ---- room

-- over an honest link the front ends have ids, where there are for what is sent
pub has-ids : (mode : PairMode) (up0 down0 up down : Pipe) (w : PairRun) (frames : List (List ℕ)) (e : held.PairEnds)
    → InPairWorld mode up0 down0 up down w frames e → PairHasIds w.spent → (HaveRoom e.fronts → false ≡ true) → ⊤ → ⊥
has-ids mode up0 down0 up down w frames e in_world ids none t =
    let no : false ≡ true = none (world-ids w.spent e.fronts in_world.numbered ids) in absurd cc

-- and the seats have room where the run has
pub no-room : (mode : PairMode) (up0 down0 up down : Pipe) (w : PairRun) (frames : List (List ℕ)) (e : held.PairEnds)
    → InPairWorld mode up0 down0 up down w frames e → (PairHasRoomLeft e.mux e.side → false ≡ true) → PairRoom w.state → ⊥
no-room mode up0 down0 up down w frames e in_world none room =
    let no : false ≡ true = none (world-no-room mode up0 down0 up down w frames e in_world room) in absurd cc

-- what the ends count waits in the link
pub world-waits : (mode : PairMode) (up0 down0 up down : Pipe) (w : PairRun) (frames : List (List ℕ)) (e : held.PairEnds)
    → InPairWorld mode up0 down0 up down w frames e
    → (e.up_there ≤ length (waiting up)) × (e.down_there ≤ length (waiting down))
world-waits mode up0 down0 up down w frames e in_world =
    let on = in_world.on_link in
    let up_is : length (waiting up) ≡ length w.up.flying = ap length (waiting-is up0 up w.up on.up_is) in
    let down_is : length (waiting down) ≡ length w.down.flying = ap length (waiting-is down0 down w.down on.down_is) in
    let up_left : e.up_there ≡ length w.up.flying = on.up_left in
    let down_left : e.down_there ≡ length w.down.flying = on.down_left in
    (omega (arith, up_is, up_left), omega (arith, down_is, down_left))

-- ---- a frame goes up

-- the ends, with so much of the link, are in a run, and every whole frame is answered
abbrev pub PlayWith : PairMode → Type 0 → (up0 down0 up down : Pipe) → PairRun → LinkEnds → held.PairEnds → Type 0
PlayWith mode honest up0 down0 up down w s e = EachAnswered (HonestPair mode honest up0 down0 up down w (with_ends s e)) s.splitter.whole

-- the run goes on where the frame was sent
sent-run : (result : Result (Unit {0}) Stop) (honest : Type 0) (mode : PairMode) (up0 down0 up down up1 down1 : Pipe)
    (w : PairRun) (s s1 : LinkEnds) (e : held.PairEnds) (bytes : List ℕ) → SentUp result up down up1 down1 s s1 bytes → honest
    → s.splitter.whole ≡ [] → s.up_there ≤ length (waiting up)
    → ((there : ℕ) → up1.sent ≡ up.sent ++ bytes → there ≡ s.up_there + length bytes
    → InPairWorld mode up0 down0 up1 down1 w (s.splitter.whole ++ awaited w.up) (record (with_ends s e) { up_there = there }))
    → OnOk result (PlayWith mode honest up0 down0 up1 down1 w s1 e)
sent-run result honest mode up0 down0 up down up1 down1 w s s1 e bytes c is_honest none waits goes =
    sent-up result up down up1 down1 s s1 bytes c (λ u1 d1 x. PlayWith mode honest up0 down0 u1 d1 w x e) waits
    (λ there sent given left. record {
      so_far = record {
        is_honest = is_honest;
        in_world = subst (λ pipe. InPairWorld mode up0 down0 up1 pipe w (s.splitter.whole ++ awaited w.up)
            (record (with_ends s e) { up_there = there })) c.other (goes there sent left);
      };
      none_whole = none;
    })

-- where no attach and no detach is on its way
as-calm : (honest : Type 0) (mode : PairMode) (up0 down0 up down : Pipe) (w : PairRun) (s : LinkEnds) (e : held.PairEnds)
    → mode ≡ calm → PlayWith mode honest up0 down0 up down w s e → PlayWith calm honest up0 down0 up down w s e
as-calm honest mode up0 down0 up down w s e is run = subst (λ m. PlayWith m honest up0 down0 up down w s e) is run

from-calm : (result : Result (Unit {0}) Stop) (honest : Type 0) (mode : PairMode) (up0 down0 up down : Pipe)
    (w : PairRun) (s : LinkEnds) (e : held.PairEnds)
    → mode ≡ calm → OnOk result (PlayWith calm honest up0 down0 up down w s e) → OnOk result (PlayWith mode honest up0 down0 up down w s e)
from-calm result honest mode up0 down0 up down w s e is run =
    subst (λ m. OnOk result (PlayWith m honest up0 down0 up down w s e)) (sym is) run

module _ (result : Result (Unit {0}) Stop) (honest honest1 : Type 0) (up0 down0 up down up1 down1 : Pipe)
    (w : PairRun) (s s1 : LinkEnds) (e : held.PairEnds) (fronts : FrontsState) (frame bytes : List ℕ)
    (c : SentUp result up down up1 down1 s s1 bytes) (keeps : honest → honest1) where
  -- an ask is sent
  pub asked-goes : (second : Bool) (mode : PairMode) (a : AskForm)
      → is_there second e.fronts.pair ≡ true → CanSend a → may_ask_on second a ≡ true → PairHasLeft w.spent least_line → mode ≡ calm
      → PlayWith mode honest up0 down0 up down w s e
      → frame ≡ framed (ask_text second e.fronts.pair a.method a.params) → fronts ≡ after_asked e.fronts second a.method → bytes ≡ frame
      → RoomTold result ⊤
      × OnOk result (PlayWith mode honest1 up0 down0 up1 down1 (sent_up (next_ask_text second a w) (one_ask_on second) w) s1
      (record e { fronts = fronts }))
  asked-goes second mode a stands can may left is run frame_is fronts_is same =
      let r = as-calm honest mode up0 down0 up down w s e is run in
      let here = r.so_far.in_world in
      let after : PairRun = sent_up (next_ask_text second a w) (one_ask_on second) w in (
        room-there result ⊤ c.never tt,
        from-calm result honest1 mode up0 down0 up1 down1 after s1 (record e { fronts = fronts }) is
            (sent-run result honest1 calm up0 down0 up down up1 down1 after s s1 (record e { fronts = fronts }) bytes c
            (keeps r.so_far.is_honest) r.none_whole
            (world-waits calm up0 down0 up down w (s.splitter.whole ++ awaited w.up) (with_ends s e) here).0
            (λ there sent_is count.
            asked_in second up0 down0 up down up1 down1 w (with_ends s e) a s.splitter.whole frame bytes there fronts stands can may
            (ids-left w.spent least_line left) here r.none_whole frame_is fronts_is same (sent_is, c.given) c.other
            (count ∙ ap (λ bs. s.up_there + length bs) same))),
      )

  -- the text of a sheet is fetched
  pub fetched-goes : (second : Bool) (sheet : ℕ)
      → is_there second e.fronts.pair ≡ true → sheet < 2 ^ 64 → fetches_on second w.spent + 1 ≤ most_fetches
      → PlayWith calm honest up0 down0 up down w s e
      → frame ≡ framed (fetch_text second e.fronts.pair sheet) → fronts ≡ after_fetched e.fronts second sheet → bytes ≡ frame
      → RoomTold result ⊤
      × OnOk result (PlayWith calm honest1 up0 down0 up1 down1 (fetch_sent second sheet w.state.attached w) s1
      (record e { fronts = fronts }))
  fetched-goes second sheet stands fits few r frame_is fronts_is same =
      let here = r.so_far.in_world in
      let after : PairRun = fetch_sent second sheet w.state.attached w in (
        room-there result ⊤ c.never tt,
        sent-run result honest1 calm up0 down0 up down up1 down1 after s s1 (record e { fronts = fronts }) bytes c
            (keeps r.so_far.is_honest) r.none_whole
            (world-waits calm up0 down0 up down w (s.splitter.whole ++ awaited w.up) (with_ends s e) here).0
            (λ there sent_is count.
            fetched_in second up0 down0 up down up1 down1 w (with_ends s e) sheet s.splitter.whole frame bytes there fronts stands fits few
            here r.none_whole frame_is fronts_is same (sent_is, c.given) c.other (count ∙ ap (λ bs. s.up_there + length bs) same)),
      )

  -- a session is attached
  pub attached-goes : (mode : PairMode) → is_there true e.fronts.pair ≡ false → PairHasLeft w.spent 0 → mode ≡ calm → IsAtRest w
      → PlayWith mode honest up0 down0 up down w s e
      → frame ≡ framed (attach_text e.fronts.next) → fronts ≡ after_target e.fronts attach → bytes ≡ frame
      → RoomTold result ⊤
      × OnOk result (PlayWith targeted honest1 up0 down0 up1 down1 (sent_up (attach_text (next_target w.spent)) one_attach w) s1
      (record e { fronts = fronts }))
  attached-goes mode alone left is rest run frame_is fronts_is same =
      let r = as-calm honest mode up0 down0 up down w s e is run in
      let here = r.so_far.in_world in
      let after : PairRun = sent_up (attach_text (next_target w.spent)) one_attach w in (
        room-there result ⊤ c.never tt,
        sent-run result honest1 targeted up0 down0 up down up1 down1 after s s1 (record e { fronts = fronts }) bytes c
            (keeps r.so_far.is_honest) r.none_whole
            (world-waits calm up0 down0 up down w (s.splitter.whole ++ awaited w.up) (with_ends s e) here).0
            (λ there sent_is count.
            attached_in up0 down0 up down up1 down1 w (with_ends s e) s.splitter.whole frame bytes there fronts alone
            (ids-left w.spent 0 left) rest here r.none_whole frame_is fronts_is same (sent_is, c.given) c.other
            (count ∙ ap (λ bs. s.up_there + length bs) same)),
      )

  -- and detached
  pub detached-goes : (mode : PairMode) → is_there true e.fronts.pair ≡ true → PairHasLeft w.spent 0 → mode ≡ calm → IsAtRest w
      → PlayWith mode honest up0 down0 up down w s e
      → IfSome e.fronts.pair.two (λ v. frame ≡ framed (detach_text e.fronts.next v.text)) → fronts ≡ after_target e.fronts detach
      → bytes ≡ frame
      → RoomTold result ⊤
      × OnOk result (PlayWith targeted honest1 up0 down0 up1 down1 (detach_sent w.state.attached w) s1 (record e { fronts = fronts }))
  detached-goes mode stands left is rest run frame_is fronts_is same =
      let r = as-calm honest mode up0 down0 up down w s e is run in
      let here = r.so_far.in_world in
      let after : PairRun = detach_sent w.state.attached w in (
        room-there result ⊤ c.never tt,
        sent-run result honest1 targeted up0 down0 up down up1 down1 after s s1 (record e { fronts = fronts }) bytes c
            (keeps r.so_far.is_honest) r.none_whole
            (world-waits calm up0 down0 up down w (s.splitter.whole ++ awaited w.up) (with_ends s e) here).0
            (λ there sent_is count.
            detached_in up0 down0 up down up1 down1 w (with_ends s e) s.splitter.whole frame bytes there fronts stands
            (ids-left w.spent 0 left) rest here r.none_whole frame_is fronts_is same (sent_is, c.given) c.other
            (count ∙ ap (λ bs. s.up_there + length bs) same)),
      )

-- a frame is sent that names no ask
pub raw-goes : (result : Result (Unit {0}) Stop) (honest honest1 : Type 0) (mode : PairMode)
    (up0 down0 up down up1 down1 : Pipe) (w : PairRun) (s s1 : LinkEnds) (e : held.PairEnds) (text : List ℕ)
    → SentUp result up down up1 down1 s s1 (framed text) → (honest → honest1) → IsText text → IsBare text → mode ≡ calm
    → PlayWith mode honest up0 down0 up down w s e
    → RoomTold result ⊤ × OnOk result (PlayWith mode honest1 up0 down0 up1 down1 (sent_up text none_more w) s1 e)
raw-goes result honest honest1 mode up0 down0 up down up1 down1 w s s1 e text c keeps letters bare is run =
    let r = as-calm honest mode up0 down0 up down w s e is run in
    let here = r.so_far.in_world in
    let after : PairRun = sent_up text none_more w in (
      room-there result ⊤ c.never tt,
      from-calm result honest1 mode up0 down0 up1 down1 after s1 e is
          (sent-run result honest1 calm up0 down0 up down up1 down1 after s s1 e (framed text) c (keeps r.so_far.is_honest) r.none_whole
          (world-waits calm up0 down0 up down w (s.splitter.whole ++ awaited w.up) (with_ends s e) here).0
          (λ there sent_is count.
          raw_in up0 down0 up down up1 down1 w (with_ends s e) text s.splitter.whole (framed text) (framed text) there letters bare here
          r.none_whole refl refl (sent_is, c.given) c.other count)),
    )

-- ---- the frame of an ask

-- as its line has it
pub frame-seen : (second : Bool) (p : StatePair) (ask : Ask) (frame method : List ℕ) (params : Option (Bor Value))
    → method ≡ ask.method → option_copied params ≡ ask.params
    → frame ≡ framed (ask_text second p method (option_map (λ (q : Bor Value). view q.now) params))
    → frame ≡ framed (ask_text second p (seen_ask ask).method (seen_ask ask).params)
frame-seen second p ask frame method params m ps is =
    is ∙ ap (λ m'. framed (ask_text second p m' (option_map (λ (q : Bor Value). view q.now) params))) m
    ∙ ap (λ ps'. framed (ask_text second p ask.method ps')) (refs-seen params ask.params ps)

-- ---- bytes go down

-- the run goes on where they were sent
told-run : (result : Result (Unit {0}) Stop) (honest : Type 0) (mode : PairMode)
    (up0 down0 up down up1 down1 : Pipe) (w : PairRun) (s s1 : LinkEnds) (e : held.PairEnds) (bytes : List ℕ)
    → SentDown result up down up1 down1 s s1 bytes → honest → s.down_there ≤ length (waiting down)
    → ((there : ℕ) → down1.sent ≡ down.sent ++ bytes → there ≡ s.down_there + length bytes
    → InPairWorld mode up0 down0 up1 down1 w (s.splitter.whole ++ awaited w.up) (record (with_ends s e) { down_there = there }))
    → OnOk result (HonestPair mode honest up0 down0 up1 down1 w (with_ends s1 e) s1.splitter.whole)
told-run result honest mode up0 down0 up down up1 down1 w s s1 e bytes c is_honest waits goes =
    sent-down result up down up1 down1 s s1 bytes c
    (λ u1 d1 x. HonestPair mode honest up0 down0 u1 d1 w (with_ends x e) x.splitter.whole) waits
    (λ there sent given left. record { is_honest = is_honest; in_world = goes there sent left })

-- with each frame answered
whole-run : (result : Result (Unit {0}) Stop) (honest : Type 0) (mode : PairMode) (up0 down0 up down : Pipe)
    (w : PairRun) (s : LinkEnds) (e : held.PairEnds) → s.splitter.whole ≡ []
    → OnOk result (HonestPair mode honest up0 down0 up down w (with_ends s e) s.splitter.whole)
    → OnOk result (PlayWith mode honest up0 down0 up down w s e)
whole-run (Ok u) honest mode up0 down0 up down w s e none run = record { so_far = run; none_whole = none }
whole-run (Err stop) honest mode up0 down0 up down w s e none run = tt

module _ (result : Result (Unit {0}) Stop) (honest honest1 : Type 0) (mode : PairMode)
    (up0 down0 up down up1 down1 : Pipe) (w : PairRun) (s s1 : LinkEnds) (e : held.PairEnds) (mux : Mux) (side : PageSide)
    (old out bytes : List ℕ) (c : SentDown result up down up1 down1 s s1 bytes)
    (keeps : honest → honest1) (room : PairHasRoomLeft e.mux e.side) (empty : old ≡ []) (same : bytes ≡ out) where
  -- the script makes a step
  pub turned-goes : (x : Turn) → IsTurn x
      → ((p : Pair) → PairStandsFor e.mux e.side p → PairStandsFor mux side (pair_turn x p).state)
      → ((p : Pair) → PairStandsFor e.mux e.side p → out ≡ old ++ (pair_turn x p).sent)
      → PlayWith mode honest up0 down0 up down w s e
      → RoomTold result (PairRoom w.state)
      × OnOk result (PlayWith mode honest1 up0 down0 up1 down1 (turned none_more (pair_act pair_reads client_steps) x w) s1
      (record e { mux = mux; side = side }))
  turned-goes x is_turn stood said r =
      let here = r.so_far.in_world in
      let has : PairRoom w.state = world-has-room mode up0 down0 up down w (s.splitter.whole ++ awaited w.up) (with_ends s e) here room in
      let after : PairRun = turned none_more (pair_act pair_reads client_steps) x w in (
        room-there result (PairRoom w.state) c.never has,
        whole-run result honest1 mode up0 down0 up1 down1 after s1 (record e { mux = mux; side = side })
            (same-whole s s1 c.ends r.none_whole)
            (told-run result honest1 mode up0 down0 up down up1 down1 after s s1 (record e { mux = mux; side = side }) bytes c
            (keeps r.so_far.is_honest)
            (world-waits mode up0 down0 up down w (s.splitter.whole ++ awaited w.up) (with_ends s e) here).1
            (λ there sent_is count.
            turned_in mode up0 down0 up down up1 down1 w x s.splitter.whole (with_ends s e) mux side old out bytes there here r.none_whole
            has is_turn stood said empty same c.other (sent_is, c.given) (count ∙ ap (λ bs. s.down_there + length bs) same))),
      )

  -- a frame is answered
  pub answered-goes : (frame : List ℕ)
      → ((p : Pair) → PairStandsFor e.mux e.side p → PairStandsFor mux side (clients.pair_step false frame p).state)
      → ((p : Pair) → PairStandsFor e.mux e.side p → out ≡ old ++ (clients.pair_step false frame p).sent)
      → honest → InPairWorld mode up0 down0 up down w (frame ∷ (s.splitter.whole ++ awaited w.up)) (with_ends s e)
      → RoomTold result (PairRoom w.state)
      × OnOk result (HonestPair mode honest1 up0 down0 up1 down1 (answered (pair_step pair_reads client_steps) (frame ∷ []) w)
      (with_ends s1 (record e { mux = mux; side = side })) s1.splitter.whole)
  answered-goes frame stood said is_honest here =
      let frames = s.splitter.whole ++ awaited w.up in
      let has : PairRoom w.state = world-has-room mode up0 down0 up down w (frame ∷ frames) (with_ends s e) here room in
      let after : PairRun = answered (pair_step pair_reads client_steps) (frame ∷ []) w in (
        room-there result (PairRoom w.state) c.never has,
        told-run result honest1 mode up0 down0 up down up1 down1 after s s1 (record e { mux = mux; side = side }) bytes c (keeps is_honest)
            (world-waits mode up0 down0 up down w (frame ∷ frames) (with_ends s e) here).1
            (λ there sent_is count.
            answered_in mode up0 down0 up down up1 down1 w frame frames (with_ends s e) mux side old out bytes there here has stood said
            empty same c.other (sent_is, c.given) (count ∙ ap (λ bs. s.down_there + length bs) same)),
      )

-- ---- frames are answered one after the other

-- While frames are answered: where the run is, that it goes to where it would have gone, and that there was room so far.
pub record Answering {P : Type 0} {g : Ghosts P} (honest : Type 0) (mode : PairMode) (up0 down0 up down : Pipe) (Room : Type 0)
    (target : PairRun) (e : TwoFronts P g) : Type 0 where
  pub world : PairRun
  pub so_far : InPairRunWith mode honest up0 down0 up down world e
  pub goes : answered (pair_step pair_reads client_steps) e.ends.splitter.whole world ≡ target
  pub room : RoomThroughout (pair_step pair_reads client_steps) PairRoom world.state e.ends.splitter.whole → Room
  pub needs : Room → RoomThroughout (pair_step pair_reads client_steps) PairRoom world.state e.ends.splitter.whole

-- a stop amid a run is none of a line or of the input: it says of more room what it says of less
room-more : (stop : Stop) (c : Counts) (A B : Type 0) → RoseFor c stop → (B → A) → RoomTold {T = Unit {0}} (Err stop) A
    → RoomTold {T = Unit {0}} (Err stop) B
room-more (Line number fault) c A B rose fewer told = absurd rose
room-more TooLong c A B rose fewer told = absurd rose
room-more ReadFault c A B rose fewer told = absurd rose
room-more WriteFault c A B rose fewer told = tt
room-more LinkFault c A B rose fewer told = tt
room-more (FrontRefused place kind) c A B rose fewer told = absurd told
room-more NoRoom c A B rose fewer told = λ b. told (fewer b)
room-more Memory c A B rose fewer told = tt

module _ {P : Type 0} {g : Ghosts P} (honest honest1 : Type 0) (mode : PairMode) (up0 down0 up down up1 down1 : Pipe) (Room : Type 0)
    (target : PairRun) (e e1 : TwoFronts P g) (s : LinkEnds) (frame : List ℕ)
    (going : Answering honest mode up0 down0 up down Room target e) (whole : e.ends.splitter.whole ≡ frame ∷ s.splitter.whole)
    (rest : s.splitter.rest ≡ e.ends.splitter.rest) (ends : s ≡ record e.ends { splitter = s.splitter }) where
  abbrev here : PairRun
  here = going.world

  start : InPairWorld mode up0 down0 up down here (frame ∷ (s.splitter.whole ++ awaited here.up)) (pair_ends_of (record e { ends = s }))
  start =
      subst (λ x. InPairWorld mode up0 down0 up down here (frame ∷ (s.splitter.whole ++ awaited here.up)) (with_ends x (pair_ends_of e)))
      (sym ends)
      (subst (λ r. InPairWorld mode up0 down0 up down here (frame ∷ (s.splitter.whole ++ awaited here.up)) (record (pair_ends_of e) {
        back_rest = r;
      }))
      (sym rest)
      (subst (λ frames. InPairWorld mode up0 down0 up down here (frames ++ awaited here.up) (pair_ends_of e)) whole going.so_far.in_world))

  -- the frame is answered
  pub answer_turn : (u : Unit {0})
      → PairAnswersOne {T = Unit {0}} frame (moment honest up down (record e { ends = s })) (moment honest1 up1 down1 e1) (Ok u)
      → e1.ends.splitter ≡ s.splitter → Answering honest1 mode up0 down0 up1 down1 Room target e1
  answer_turn u answers same =
      let both = answers mode up0 down0 here going.so_far.is_honest start in
      let after : PairRun = answered (pair_step pair_reads client_steps) (frame ∷ []) here in
      record {
        world = after;
        so_far = both.1;
        goes =
            ap (λ (f : Frames). answered (pair_step pair_reads client_steps) f.whole after) same
            ∙ sym (answered-cons (pair_step pair_reads client_steps) frame s.splitter.whole here)
            ∙ ap (λ frames. answered (pair_step pair_reads client_steps) frames here) (sym whole)
            ∙ going.goes;
        room = λ more.
            going.room (subst (λ frames. RoomThroughout (pair_step pair_reads client_steps) PairRoom here.state frames) (sym whole)
            (both.0, subst (λ (f : Frames). RoomThroughout (pair_step pair_reads client_steps) PairRoom after.state f.whole) same more));
        needs = λ room.
            subst (λ (f : Frames). RoomThroughout (pair_step pair_reads client_steps) PairRoom after.state f.whole) (sym same)
            (subst (λ frames. RoomThroughout (pair_step pair_reads client_steps) PairRoom here.state frames) whole (going.needs room)).1;
      }

  -- or the call stops
  pub answer_stop : (stop : Stop) (c : Counts) → RoseFor c stop
      → PairAnswersOne {T = Unit {0}} frame (moment honest up down (record e { ends = s })) (moment honest1 up1 down1 e1) (Err stop)
      → RoomTold {T = Unit {0}} (Err stop) Room
  answer_stop stop c rose answers =
      room-more stop c (PairRoom here.state) Room rose
      (λ room. (subst (λ frames. RoomThroughout (pair_step pair_reads client_steps) PairRoom here.state frames) whole (going.needs room)).0)
      (answers mode up0 down0 here going.so_far.is_honest start).0

-- no frame is left
pub answer_end : {P : Type 0} {g : Ghosts P} (honest : Type 0) (mode : PairMode) (up0 down0 up down : Pipe) (Room : Type 0)
    (target : PairRun)
    (e : TwoFronts P g) (s : LinkEnds) → Answering honest mode up0 down0 up down Room target e → s ≡ e.ends → s.splitter.whole ≡ []
    → Room × InPairRun mode honest up0 down0 up down target (record e { ends = s })
answer_end honest mode up0 down0 up down Room target e s going same none =
    let w = going.world in
    let empty : e.ends.splitter.whole ≡ [] = ap (λ (x : LinkEnds). x.splitter.whole) (sym same) ∙ none in
    let at_target : w ≡ target =
    sym (ap (λ frames. answered (pair_step pair_reads client_steps) frames w) empty ∙ nothing w) ∙ going.goes in
    let world : InPairWorld mode up0 down0 up down w (s.splitter.whole ++ awaited w.up) (pair_ends_of (record e { ends = s })) =
    subst (λ x. InPairWorld mode up0 down0 up down w (x.splitter.whole ++ awaited w.up) (with_ends x (pair_ends_of e))) (sym same)
    going.so_far.in_world in (
      going.room (subst (λ frames. RoomThroughout (pair_step pair_reads client_steps) PairRoom w.state frames) (sym empty) tt),
      subst (λ v. InPairRun mode honest up0 down0 up down v (record e { ends = s })) at_target
          (record { so_far = record { is_honest = going.so_far.is_honest; in_world = world }; none_whole = none }),
    )
  where
    nothing : (w : PairRun) → answered (pair_step pair_reads client_steps) [] w ≡ w
    nothing w = ap (λ (s : Stream). record w { down = s }) (put-nil w.down)

-- bytes came up, as `take_up` says
pub took-run : (mode : PairMode) (up0 down0 : Pipe) (n : ℕ) (old new : Moment LinkEnds) (w : PairRun) (e : held.PairEnds) → TookUp n old new
    → new.down ≡ old.down → (old.honest → new.honest) → PlayWith mode old.honest up0 down0 old.up old.down w old.ends e
    → HonestPair mode new.honest up0 down0 new.up new.down (given_up n w) (with_ends new.ends e) new.ends.splitter.whole
    × (new.ends.splitter.whole ≡ arriving n w.up)
took-run mode up0 down0 n old new w e took same_down keeps run =
    let there : new.ends.up_there + length took.piece ≡ old.ends.up_there = took.count in
    let left : new.ends.up_there ≡ old.ends.up_there - length took.piece = omega (arith, there) in
    let all = given_in mode up0 down0 old.up old.down new.up new.down w (with_ends old.ends e) n new.ends.up_there
    (min n old.ends.up_there) took.piece old.ends.splitter new.ends.splitter run.so_far.in_world run.none_whole refl refl
    (took.all run.so_far.is_honest) (took.sent, took.given) same_down left took.cut in (
      record {
        is_honest = keeps run.so_far.is_honest;
        in_world = subst (λ m. InPairWorld mode up0 down0 new.up new.down (given_up n w)
            (new.ends.splitter.whole ++ awaited (given_up n w).up) (record (with_ends new.ends e) { down_there = m }))
            (sym took.down_there) all.0;
      },
      all.1,
    )

-- bytes came up, and their frames are answered
pub deliver_goes : {P : Type 0} {g : Ghosts P} {T : Type 0} (result : Result T Stop) (honest honest1 : Type 0) (mode : PairMode)
    (up0 down0 up down up1 down1 : Pipe) (w : PairRun) (n : ℕ) (e e1 : TwoFronts P g)
    → InPairRunWith mode honest up0 down0 up down (given_up n w) e × (e.ends.splitter.whole ≡ arriving n w.up)
    → PairAnswersAll (moment honest up down e) (moment honest1 up1 down1 e1) result
    → RoomTold result (RoomThroughout (pair_step pair_reads client_steps) PairRoom w.state (arriving n w.up))
    × OnOk result (InPairRun mode honest1 up0 down0 up1 down1 (delivered_up (pair_step pair_reads client_steps) n w) e1)
deliver_goes result honest honest1 mode up0 down0 up down up1 down1 w n e e1 run answers =
    subst (λ frames. RoomTold result (RoomThroughout (pair_step pair_reads client_steps) PairRoom w.state frames)
    × OnOk result (InPairRun mode honest1 up0 down0 up1 down1 (answered (pair_step pair_reads client_steps) frames (given_up n w)) e1))
    run.1
    (answers mode up0 down0 (given_up n w) run.0)

-- a stop before that
pub room-stop : (stop : Stop) (c : Counts) (Room : Type 0) → RoseFor c stop → RoomTold {T = Unit {0}} (Err stop) ⊤
    → RoomTold {T = Unit {0}} (Err stop) Room
room-stop stop c Room rose told = room-more stop c ⊤ Room rose (λ room. tt) told

-- ---- bytes come down

-- as `take_down` says
pub got-run : (honest honest1 : Type 0) (mode : PairMode) (up0 down0 up down up1 down1 : Pipe) (w : PairRun) (n : ℕ) (s s1 : LinkEnds)
    (e : held.PairEnds) (piece bytes : List ℕ) (fronts : FrontsState)
    → PlayWith mode honest up0 down0 up down w s e → (honest → honest1) → s1 ≡ record s { down_there = s1.down_there }
    → s1.down_there + length bytes ≡ s.down_there → (honest → bytes ≡ take (min n s.down_there) (waiting down))
    → (down1.sent ≡ down.sent) × (down1.given ≡ down.given ++ bytes) → up1 ≡ up
    → piece ≡ bytes → fronts ≡ after_taken e.fronts piece
    → PlayWith mode honest1 up0 down0 up1 down1 (delivered_down n w) s1 (record e { fronts = fronts })
got-run honest honest1 mode up0 down0 up down up1 down1 w n s s1 e piece bytes fronts run keeps ends count all moved same_up same_bytes
    fronts_is =
    let left : s1.down_there ≡ s.down_there - length bytes = omega (arith, count) in
    subst (λ x. PlayWith mode honest1 up0 down0 up1 down1 (delivered_down n w) x (record e { fronts = fronts })) (sym ends) (record {
      so_far = record {
        is_honest = keeps run.so_far.is_honest;
        in_world = delivered_in mode up0 down0 up down up1 down1 w (s.splitter.whole ++ awaited w.up) (with_ends s e) n s1.down_there
            (min n s.down_there) bytes fronts run.so_far.in_world refl (all run.so_far.is_honest) moved same_up left
            (fronts_is ∙ ap (after_taken e.fronts) same_bytes);
      };
      none_whole = run.none_whole;
    })
