-- What the calls on the link and on the two ends keep over every link.
use Rattle.std.proofs.Common.{◌≡◌, ◌+◌, ◌≤◌, ℕ, ◌<◌, ◌^◌, List, [], ◌∷◌, ◌++◌, length, drop, Option, Some, None, Bool, true}
use Rattle.std.proofs.Common.{false, refl, sym, ◌∙◌, ap, subst, arith, append_assoc, length-append, Result, Ok, Err}
use Rattle.std.specs.Prelude.{IfSome}
use Rattle.std.proofs.Math.Seq.{drop-append_seam}
use Rattle.std.specs.Result.{OnOk, IsOk}
use Rattle.std.specs.Option.{option_to_list}
use Rattle.front_mirror.specs.declared.panels.Panel.{Ghosts}
use Rattle.front_mirror.specs.declared.faults.FrontFault.{FrontFault}
use Rattle.front_mirror.specs.Front.{FrontState, after_ask, after_fetch}
use Rattle.pipe_frames.specs.Pipe.{Pipe, waiting, given_since, sent_since}
use Rattle.pipe_frames.specs.Frames.{IsText, Frames, framed, held_after, continued}
use Rattle.replay_script.specs.Forms.{AskForm}
use Rattle.replay_script.specs.Sound.{CanSend}
use Rattle.session_runs.specs.Pairs.{Second, attach, detach}
use Rattle.multi_replay.specs.States.{FrontsState, is_there, HaveRoom, ask_text, fetch_text, attach_text, detach_text, after_asked}
use Rattle.multi_replay.specs.States.{after_fetched, after_target, after_taken}
use Rattle.multi_replay.specs.Laws.{IsFoldOfBoth}
use Rattle.multi_replay.proofs.SendLemmas.{both-unasked}
use Rattle.back_end.specs.declared.mux.Mux.{Mux}
use Rattle.back_end.specs.declared.side.PageSide.{PageSide}
use Rattle.back_end.specs.Steps.{Turn}
use Rattle.back_end.specs.Laws.{IsTurn}
use Rattle.back_end.specs.Pairs.{Pair, pair_step, pair_turn}
use Rattle.back_end.specs.PairSeats.{PairStandsFor, PairHasRoomLeft}
use Rattle.back_end.proofs.PairLemmas.{pair-room}
use Rattle.inspect_world.specs.Fits.{IsBare}
use Rattle.pair_world.specs.PairHeld as held
use Rattle.pair_world.specs.PairHeld.{up_reads}
use Rattle.pair_world.specs.PairLinks.{PairStarted, one_pair_line_more, SecondFew, FollowsPair}
use Rattle.pair_world.proofs.SendLemmas.{bare-way}
use Rattle.replay_parts.specs.declared.stop.Stop.{Stop}
use Rattle.replay_parts.specs.declared.stop.Stop.TheVariants.{NoRoom}
use Rattle.replay_parts.specs.Stops.{GoesWell}
use Rattle.replay_parts.specs.Moments.{Moment, moment}
use Rattle.replay_parts.specs.LinkEnds.{LinkEnds, TookUp, EachAnswered}
use Rattle.replay_parts.proofs.SendLemmas.{SentUp, sent-up, unsent-up, SentDown, sent-down, unsent-down}
use Rattle.pair_replay.specs.declared.two_fronts.TwoFronts.{TwoFronts}
use Rattle.pair_replay.specs.Running.{with_ends, pair_ends_of}
use Rattle.pair_replay.specs.PairStarts.{may_ask_on}
use Rattle.replay_parts.specs.LinkFolds.{GivesNoMore, IsWell}
use Rattle.pair_replay.proofs.PairFollows.{stop-folds}
use Rattle.pair_replay.specs.PairAnswers.{PairPassed, pair_since, PairStopFolds}
use Rattle.pair_replay.specs.Following.{FollowsPairWith, FollowsPairRun, KeepsPairAnswer}
use Rattle.pair_replay.proofs.AnySends.{IsFolded, asked-folds, fetched-folds, attach-folds, detach-folds, second-there}
use Rattle.pair_replay.proofs.PairLinkLemmas.{few-more, few-one, follows-sent, follows-given_up, follows-answered}
use Rattle.pair_replay.proofs.PairLinkLemmas.{follows-turned}
use Rattle.pair_replay.proofs.PairLinkLemmas.{follows-delivered_down, follows-refused, follows-fold, follows-less, front-full, seat-full}

-- ---- stops

-- a run that follows goes well
pub follows-good : (start : PairStarted) (up0 down0 up down : Pipe) (waiting : List (List ℕ)) (e : held.PairEnds)
    → FollowsPair start up0 down0 up down waiting e
    → IsWell (pair_since up0 down0 up down)
follows-good start up0 down0 up down waiting e f =
    (subst IsOk (sym (follows-fold start up0 down0 up down waiting e f)) refl, follows-less start up0 down0 up down waiting e f)

pub run-good : {P : Type 0} {g : Ghosts P} (start : PairStarted) (up0 down0 up down : Pipe) (e : TwoFronts P g)
    → FollowsPairRun start up0 down0 up down e
    → IsWell (pair_since up0 down0 up down)
run-good start up0 down0 up down e run = follows-good start up0 down0 up down e.ends.splitter.whole (pair_ends_of e) run.so_far

-- ---- what a call keeps

-- the ends, with so much of the link, follow it, and every whole frame is answered
abbrev pub RunWith : PairStarted → (up0 down0 up down : Pipe) → LinkEnds → held.PairEnds → Type 0
RunWith start up0 down0 up down s e = EachAnswered (λ waiting. FollowsPair start up0 down0 up down waiting (with_ends s e)) s.splitter.whole

with-good : (start : PairStarted) (up0 down0 up down : Pipe) (s : LinkEnds) (e : held.PairEnds) → RunWith start up0 down0 up down s e
    → IsWell (pair_since up0 down0 up down)
with-good start up0 down0 up down s e run = follows-good start up0 down0 up down s.splitter.whole (with_ends s e) run.so_far

-- it has come through, or not
pub kept-with : {T : Type 0} (result : Result T Stop) (start : PairStarted) (up0 down0 up down : Pipe) (s : LinkEnds) (e : held.PairEnds)
    → GoesWell result → RunWith start up0 down0 up down s e
    → OnOk result (RunWith start up0 down0 up down s e) × PairStopFolds result (pair_since up0 down0 up down)
kept-with (Ok value) start up0 down0 up down s e never run = (run, with-good start up0 down0 up down s e run)
kept-with (Err stop) start up0 down0 up down s e never run =
    (tt, stop-folds stop (pair_since up0 down0 up down) never (with-good start up0 down0 up down s e run))

-- where the front ends have no id left, the call stops
pub front-stops : {P : Type 0} {g : Ghosts P} (start : PairStarted) (up0 down0 up down : Pipe) (e : TwoFronts P g)
    → FollowsPairRun start up0 down0 up down e
    → (HaveRoom e.fronts → false ≡ true)
    → PairStopFolds {T = Unit {0}} (Err NoRoom) (pair_since up0 down0 up down)
front-stops start up0 down0 up down e run none =
    let well = run-good start up0 down0 up down e run in
    ((well.0, front-full start up0 down0 up down e.ends.splitter.whole (pair_ends_of e) run.so_far none), well.1)

-- or the back end
pub seat-stops : (start : PairStarted) (up0 down0 up down : Pipe) (waiting : List (List ℕ)) (e : held.PairEnds)
    → FollowsPair start up0 down0 up down waiting e
    → (PairHasRoomLeft e.mux e.side → false ≡ true) → PairStopFolds {T = Unit {0}} (Err NoRoom) (pair_since up0 down0 up down)
seat-stops start up0 down0 up down waiting e f none =
    let well = follows-good start up0 down0 up down waiting e f in
    ((well.0, seat-full start up0 down0 up down waiting e f none), well.1)

-- ---- a frame goes up

pub sent-follows : (result : Result (Unit {0}) Stop) (start : PairStarted) (up0 down0 up down up1 down1 : Pipe) (s s1 : LinkEnds)
    (e : held.PairEnds) (bytes : List ℕ) → SentUp result up down up1 down1 s s1 bytes → s.splitter.whole ≡ []
    → s.up_there ≤ length (waiting up) → IsWell (pair_since up0 down0 up down)
    → ((there : ℕ) → up1.sent ≡ up.sent ++ bytes → up1.given ≡ up.given → there ≡ s.up_there + length bytes
    → FollowsPair start up0 down0 up1 down s.splitter.whole (record (with_ends s e) { up_there = there }))
    → OnOk result (RunWith start up0 down0 up1 down1 s1 e) × PairStopFolds result (pair_since up0 down0 up1 down1)
sent-follows (Ok u) start up0 down0 up down up1 down1 s s1 e bytes c none waits well goes =
    let run : RunWith start up0 down0 up1 down1 s1 e =
    sent-up (Ok u) up down up1 down1 s s1 bytes c (λ u1 d1 x. RunWith start up0 down0 u1 d1 x e) waits
    (λ there sent given left. record { so_far = goes there sent given left; none_whole = none }) in
    (run, with-good start up0 down0 up1 down1 s1 e run)
sent-follows (Err stop) start up0 down0 up down up1 down1 s s1 e bytes c none waits well goes = (
  tt,
  stop-folds stop (pair_since up0 down0 up1 down1) c.never
      (unsent-up stop up down up1 down1 s s1 bytes c (λ u1 d1. IsWell (pair_since up0 down0 u1 d1)) well),
)

-- the front ends have sent what is folded with them
folded-follows : (start : PairStarted) (up0 down0 up down up1 : Pipe) (waiting : List (List ℕ)) (e : held.PairEnds) (text : List ℕ)
    (fronts : FrontsState) (frame bytes : List ℕ) (there : ℕ)
    → (f : FollowsPair start up0 down0 up down waiting e)
    → IsFoldOfBoth up_reads (f.sent_up ++ framed text) f.given_down fronts
    → fronts.dead ≡ e.fronts.dead → fronts.pair.one.dead ≡ e.fronts.pair.one.dead → fronts.pair.one.panels ≡ e.fronts.pair.one.panels
    → fronts.pair.one.next + fronts.pair.one.fetches ≤ e.fronts.pair.one.next + e.fronts.pair.one.fetches + 1
    → ((n m : ℕ) → n + 1 ≤ m → SecondFew e.fronts.pair.two n → SecondFew fronts.pair.two m) → fronts.next ≤ e.fronts.next + 1
    → frame ≡ framed text → bytes ≡ frame
    → up1.sent ≡ up.sent ++ bytes → up1.given ≡ up.given → there ≡ e.up_there + length bytes
    → FollowsPair start up0 down0 up1 down waiting (record e { fronts = fronts; up_there = there })
folded-follows start up0 down0 up down up1 waiting e text fronts frame bytes there f folds dead first_dead panels one two targets frame_is
    same_bytes sent_is given_is left =
    let is : bytes ≡ framed text = same_bytes ∙ frame_is in
    follows-sent start up0 down0 up down up1 waiting e text fronts there f (left ∙ ap (λ bs. e.up_there + length bs) is) folds dead
    first_dead panels one two targets (sent_is ∙ ap (λ bs. up.sent ++ bs) is) given_is

-- the counts of the front ends after an ask or a fetch of one
ask-one : (method : List ℕ) (s : FrontState) → (after_ask s method).next + (after_ask s method).fetches ≤ s.next + s.fetches + 1
ask-one method s = omega arith

fetch-one : (sheet : ℕ) (s : FrontState) → (after_fetch s sheet).next + (after_fetch s sheet).fetches ≤ s.next + s.fetches + 1
fetch-one sheet s = omega arith

few-sent : (two : Option (Second FrontState (List ℕ))) (n m : ℕ) → n + 1 ≤ m → SecondFew two n → SecondFew two m
few-sent two n m more few = few-more two n m (omega (arith, more)) few

module _ (start : PairStarted) (up0 down0 up down up1 : Pipe) (waiting : List (List ℕ)) (e : held.PairEnds) (frame bytes : List ℕ)
    (there : ℕ) where
  -- an ask is sent
  pub asked-follows : (second : Bool) (a : AskForm) (fronts : FrontsState) → (f : FollowsPair start up0 down0 up down waiting e)
      → is_there second e.fronts.pair ≡ true → CanSend a → may_ask_on second a ≡ true → HaveRoom e.fronts
      → frame ≡ framed (ask_text second e.fronts.pair a.method a.params) → fronts ≡ after_asked e.fronts second a.method → bytes ≡ frame
      → up1.sent ≡ up.sent ++ bytes → up1.given ≡ up.given → there ≡ e.up_there + length bytes
      → FollowsPair start up0 down0 up1 down waiting (record e { fronts = fronts; up_there = there })
  asked-follows second a fronts f stands can may room frame_is fronts_is same sent_is given_is left =
      let s = e.fronts in
      let folded : IsFolded f.sent_up f.given_down (ask_text second s.pair a.method a.params) (after_asked s second a.method) =
      asked-folds second f.sent_up f.given_down s a f.fronts_are stands can may room in
      subst (λ x. FollowsPair start up0 down0 up1 down waiting (record e { fronts = x; up_there = there })) (sym fronts_is)
      (by second (ask_text second s.pair a.method a.params) folded.fold frame_is)
    where
      by : (second : Bool) (text : List ℕ)
          → IsFoldOfBoth up_reads (f.sent_up ++ framed text) f.given_down (after_asked e.fronts second a.method)
          → frame ≡ framed text
          → FollowsPair start up0 down0 up1 down waiting (record e { fronts = after_asked e.fronts second a.method; up_there = there })
      by false text folds frame_is =
          folded-follows start up0 down0 up down up1 waiting e text (after_asked e.fronts false a.method) frame bytes there f folds refl
          refl
          refl (ask-one a.method e.fronts.pair.one) (few-sent e.fronts.pair.two) (omega arith) frame_is same sent_is given_is left
      by true text folds frame_is =
          folded-follows start up0 down0 up down up1 waiting e text (after_asked e.fronts true a.method) frame bytes there f folds refl refl
          refl (omega arith)
          (λ n m more few. few-one e.fronts.pair.two (λ s. after_ask s a.method) n m more (ask-one a.method) few) (omega arith) frame_is
          same
          sent_is given_is left

  -- the text of a sheet is fetched
  pub fetched-follows : (second : Bool) (sheet : ℕ) (fronts : FrontsState) → (f : FollowsPair start up0 down0 up down waiting e)
      → is_there second e.fronts.pair ≡ true → sheet < 2 ^ 64 → HaveRoom e.fronts
      → frame ≡ framed (fetch_text second e.fronts.pair sheet) → fronts ≡ after_fetched e.fronts second sheet → bytes ≡ frame
      → up1.sent ≡ up.sent ++ bytes → up1.given ≡ up.given → there ≡ e.up_there + length bytes
      → FollowsPair start up0 down0 up1 down waiting (record e { fronts = fronts; up_there = there })
  fetched-follows second sheet fronts f stands fits room frame_is fronts_is same sent_is given_is left =
      let s = e.fronts in
      let folded : IsFolded f.sent_up f.given_down (fetch_text second s.pair sheet) (after_fetched s second sheet) =
      fetched-folds second f.sent_up f.given_down s sheet f.fronts_are stands fits room in
      subst (λ x. FollowsPair start up0 down0 up1 down waiting (record e { fronts = x; up_there = there })) (sym fronts_is)
      (by second (fetch_text second s.pair sheet) folded.fold frame_is)
    where
      by : (second : Bool) (text : List ℕ)
          → IsFoldOfBoth up_reads (f.sent_up ++ framed text) f.given_down (after_fetched e.fronts second sheet)
          → frame ≡ framed text
          → FollowsPair start up0 down0 up1 down waiting (record e { fronts = after_fetched e.fronts second sheet; up_there = there })
      by false text folds frame_is =
          folded-follows start up0 down0 up down up1 waiting e text (after_fetched e.fronts false sheet) frame bytes there f folds refl refl
          refl (fetch-one sheet e.fronts.pair.one) (few-sent e.fronts.pair.two) (omega arith) frame_is same sent_is given_is left
      by true text folds frame_is =
          folded-follows start up0 down0 up down up1 waiting e text (after_fetched e.fronts true sheet) frame bytes there f folds refl refl
          refl (omega arith)
          (λ n m more few. few-one e.fronts.pair.two (λ s. after_fetch s sheet) n m more (fetch-one sheet) few) (omega arith) frame_is same
          sent_is given_is left

  -- the command that attaches a session is sent
  pub attached-follows : (fronts : FrontsState) → (f : FollowsPair start up0 down0 up down waiting e) → HaveRoom e.fronts
      → frame ≡ framed (attach_text e.fronts.next) → fronts ≡ after_target e.fronts attach → bytes ≡ frame
      → up1.sent ≡ up.sent ++ bytes → up1.given ≡ up.given → there ≡ e.up_there + length bytes
      → FollowsPair start up0 down0 up1 down waiting (record e { fronts = fronts; up_there = there })
  attached-follows fronts f room frame_is fronts_is same sent_is given_is left =
      let folded = attach-folds f.sent_up f.given_down e.fronts f.fronts_are room.2 in
      subst (λ x. FollowsPair start up0 down0 up1 down waiting (record e { fronts = x; up_there = there })) (sym fronts_is)
      (folded-follows start up0 down0 up down up1 waiting e (attach_text e.fronts.next) (after_target e.fronts attach) frame bytes there f
      folded.fold refl refl refl (omega arith) (few-sent e.fronts.pair.two) (omega arith) frame_is same sent_is given_is left)

  -- the command that detaches it
  pub detached-follows : (fronts : FrontsState) → (f : FollowsPair start up0 down0 up down waiting e) → is_there true e.fronts.pair ≡ true
      → HaveRoom e.fronts
      → IfSome e.fronts.pair.two (λ v. frame ≡ framed (detach_text e.fronts.next v.text)) → fronts ≡ after_target e.fronts detach
      → bytes ≡ frame
      → up1.sent ≡ up.sent ++ bytes → up1.given ≡ up.given → there ≡ e.up_there + length bytes
      → FollowsPair start up0 down0 up1 down waiting (record e { fronts = fronts; up_there = there })
  detached-follows fronts f stands room frame_is fronts_is same sent_is given_is left =
      let w = second-there e.fronts.pair.two stands in
      let folded = detach-folds f.sent_up f.given_down e.fronts w.0 f.fronts_are w.1 room.2 in
      let framed_is : frame ≡ framed (detach_text e.fronts.next w.0.text) =
      subst (λ o. IfSome o (λ (v : Second FrontState (List ℕ)). frame ≡ framed (detach_text e.fronts.next v.text))) w.1 frame_is in
      subst (λ x. FollowsPair start up0 down0 up1 down waiting (record e { fronts = x; up_there = there })) (sym fronts_is)
      (folded-follows start up0 down0 up down up1 waiting e (detach_text e.fronts.next w.0.text) (after_target e.fronts detach) frame bytes
      there f folded.fold refl refl refl (omega arith) (few-sent e.fronts.pair.two) (omega arith) framed_is same sent_is given_is left)

  -- a frame is sent that names no ask
  pub raw-follows : (text : List ℕ) → (f : FollowsPair start up0 down0 up down waiting e) → IsText text → IsBare text
      → frame ≡ framed text → bytes ≡ frame
      → up1.sent ≡ up.sent ++ bytes → up1.given ≡ up.given → there ≡ e.up_there + length bytes
      → FollowsPair start up0 down0 up1 down waiting (record e { up_there = there })
  raw-follows text f letters bare frame_is same sent_is given_is left =
      let folds = both-unasked up_reads f.sent_up f.given_down text text e.fronts f.fronts_are letters (bare-way text bare)
      (ap option_to_list bare.no_ask) in
      folded-follows start up0 down0 up down up1 waiting e text e.fronts frame bytes there f folds refl refl refl (omega arith)
      (few-sent e.fronts.pair.two) (omega arith) frame_is same sent_is given_is left

-- ---- bytes go down

pub told-follows : (result : Result (Unit {0}) Stop) (start : PairStarted) (up0 down0 up down up1 down1 : Pipe) (s s1 : LinkEnds)
    (e : held.PairEnds) (bytes : List ℕ) → SentDown result up down up1 down1 s s1 bytes
    → s.down_there ≤ length (waiting down) → IsWell (pair_since up0 down0 up down)
    → ((there : ℕ) → down1.sent ≡ down.sent ++ bytes → there ≡ s.down_there + length bytes
    → FollowsPair start up0 down0 up1 down1 s.splitter.whole (record (with_ends s e) { down_there = there }))
    → OnOk result (FollowsPair start up0 down0 up1 down1 s1.splitter.whole (with_ends s1 e))
    × PairStopFolds result (pair_since up0 down0 up1 down1)
told-follows (Ok u) start up0 down0 up down up1 down1 s s1 e bytes c waits well goes =
    let all : FollowsPair start up0 down0 up1 down1 s1.splitter.whole (with_ends s1 e) =
    sent-down (Ok u) up down up1 down1 s s1 bytes c
    (λ u1 d1 x. FollowsPair start up0 down0 u1 d1 x.splitter.whole (with_ends x e)) waits (λ there sent given left. goes there sent left) in
    (all, follows-good start up0 down0 up1 down1 s1.splitter.whole (with_ends s1 e) all)
told-follows (Err stop) start up0 down0 up down up1 down1 s s1 e bytes c waits well goes = (
  tt,
  stop-folds stop (pair_since up0 down0 up1 down1) c.never
      (unsent-down stop up down up1 down1 s s1 bytes c (λ u1 d1. IsWell (pair_since up0 down0 u1 d1)) well),
)

-- with each frame answered
pub whole-follows : (result : Result (Unit {0}) Stop) (start : PairStarted) (up0 down0 up down : Pipe) (s : LinkEnds) (e : held.PairEnds)
    (passed : PairPassed) → s.splitter.whole ≡ []
    → OnOk result (FollowsPair start up0 down0 up down s.splitter.whole (with_ends s e)) × PairStopFolds result passed
    → OnOk result (RunWith start up0 down0 up down s e) × PairStopFolds result passed
whole-follows (Ok u) start up0 down0 up down s e passed none both = (record { so_far = both.0; none_whole = none }, both.1)
whole-follows (Err stop) start up0 down0 up down s e passed none both = (tt, both.1)

-- ---- bytes come up

-- they were cut into frames
given-follows : (start : PairStarted) (up0 down0 up down up1 down1 : Pipe) (e : held.PairEnds) (s s1 : Frames) (piece : List ℕ)
    (there : ℕ)
    → FollowsPair start up0 down0 up down s.whole (record e { back_rest = s.rest }) → there + length piece ≡ e.up_there
    → up1.sent ≡ up.sent → up1.given ≡ up.given ++ piece → down1 ≡ down → s1 ≡ continued s piece
    → FollowsPair start up0 down0 up1 down1 s1.whole (record e { back_rest = s1.rest; up_there = there })
given-follows start up0 down0 up down up1 down1 e s s1 piece there f left sent given same_down cut =
    let all : FollowsPair start up0 down0 up1 down (continued s piece).whole
    (record e { back_rest = (continued s piece).rest; up_there = there }) =
    follows-given_up start up0 down0 up down up1 s.whole (record e { back_rest = s.rest }) piece
    (held_after s.rest piece) there f left sent given refl in
    subst (λ pipe. FollowsPair start up0 down0 up1 pipe s1.whole (record e { back_rest = s1.rest; up_there = there })) (sym same_down)
    (subst (λ (x : Frames). FollowsPair start up0 down0 up1 down x.whole (record e { back_rest = x.rest; up_there = there })) (sym cut) all)

-- as `take_up` says
pub took-follows : (start : PairStarted) (up0 down0 : Pipe) (n : ℕ) (old new : Moment LinkEnds) (e : held.PairEnds) → TookUp n old new
    → new.down ≡ old.down → FollowsPair start up0 down0 old.up old.down old.ends.splitter.whole (with_ends old.ends e)
    → FollowsPair start up0 down0 new.up new.down new.ends.splitter.whole (with_ends new.ends e)
took-follows start up0 down0 n old new e took same_down f =
    subst (λ there. FollowsPair start up0 down0 new.up new.down new.ends.splitter.whole (record (with_ends new.ends e) {
      down_there = there;
    }))
    (sym took.down_there)
    (given-follows start up0 down0 old.up old.down new.up new.down (with_ends old.ends e) old.ends.splitter new.ends.splitter took.piece
    new.ends.up_there f took.count took.sent took.given same_down took.cut)

-- ---- steps of the back end

-- a frame was answered
pub answered-follows : (start : PairStarted) (up0 down0 up down up1 down1 : Pipe) (frame : List ℕ) (frames : List (List ℕ))
    (e : held.PairEnds) (mux : Mux) (side : PageSide) (old out bytes : List ℕ) (there : ℕ)
    → FollowsPair start up0 down0 up down (frame ∷ frames) e → there ≡ e.down_there + length out
    → PairHasRoomLeft e.mux e.side
    → ((p : Pair) → PairStandsFor e.mux e.side p → PairStandsFor mux side (pair_step false frame p).state)
    → ((p : Pair) → PairStandsFor e.mux e.side p → out ≡ old ++ (pair_step false frame p).sent)
    → old ≡ [] → bytes ≡ out → up1 ≡ up → (down1.sent ≡ down.sent ++ bytes) × (down1.given ≡ down.given)
    → FollowsPair start up0 down0 up1 down1 frames (record e { mux = mux; side = side; down_there = there })
answered-follows start up0 down0 up down up1 down1 frame frames e mux side old out bytes there f left room stood said empty
    same_out same_up sent =
    let all : FollowsPair start up0 down0 up down1 frames (record e { mux = mux; side = side; down_there = there }) =
    follows-answered start up0 down0 up down down1 frame frames e mux side out there f left
    (pair-room e.mux e.side f.pair f.stands room) (stood f.pair f.stands)
    (said f.pair f.stands ∙ ap (λ before. before ++ (pair_step false frame f.pair).sent) empty)
    (sent.0 ∙ ap (λ piece. down.sent ++ piece) same_out) sent.1 in
    subst (λ pipe. FollowsPair start up0 down0 pipe down1 frames (record e { mux = mux; side = side; down_there = there }))
    (sym same_up) all

-- the script made a step by itself
pub turned-follows : (start : PairStarted) (up0 down0 up down up1 down1 : Pipe) (x : Turn) (waiting : List (List ℕ))
    (e : held.PairEnds) (mux : Mux) (side : PageSide) (old out bytes : List ℕ) (there : ℕ)
    → FollowsPair (one_pair_line_more start) up0 down0 up down waiting e → there ≡ e.down_there + length out
    → PairHasRoomLeft e.mux e.side → IsTurn x
    → ((p : Pair) → PairStandsFor e.mux e.side p → PairStandsFor mux side (pair_turn x p).state)
    → ((p : Pair) → PairStandsFor e.mux e.side p → out ≡ old ++ (pair_turn x p).sent)
    → old ≡ [] → bytes ≡ out → up1 ≡ up → (down1.sent ≡ down.sent ++ bytes) × (down1.given ≡ down.given)
    → FollowsPair start up0 down0 up1 down1 waiting (record e { mux = mux; side = side; down_there = there })
turned-follows start up0 down0 up down up1 down1 x waiting e mux side old out bytes there f left room is_turn stood said
    empty same_out same_up sent =
    let all : FollowsPair start up0 down0 up down1 waiting (record e { mux = mux; side = side; down_there = there }) =
    follows-turned start up0 down0 up down down1 x waiting e mux side out there f left
    (pair-room e.mux e.side f.pair f.stands room) is_turn (stood f.pair f.stands)
    (said f.pair f.stands ∙ ap (λ before. before ++ (pair_turn x f.pair).sent) empty)
    (sent.0 ∙ ap (λ piece. down.sent ++ piece) same_out) sent.1 in
    subst (λ pipe. FollowsPair start up0 down0 pipe down1 waiting (record e { mux = mux; side = side; down_there = there }))
    (sym same_up) all

-- ---- bytes come down

-- the front ends refused none of the messages
pub delivered-follows : (start : PairStarted) (up0 down0 up down up1 down1 : Pipe) (waiting : List (List ℕ)) (e : held.PairEnds)
    (piece bytes : List ℕ) (there : ℕ) (fronts : FrontsState)
    → FollowsPair start up0 down0 up down waiting e → there + length bytes ≡ e.down_there
    → (down1.sent ≡ down.sent) × (down1.given ≡ down.given ++ bytes) → up1 ≡ up
    → piece ≡ bytes → fronts ≡ after_taken e.fronts piece → fronts.fault ≡ None
    → FollowsPair start up0 down0 up1 down1 waiting (record e { fronts = fronts; down_there = there })
delivered-follows start up0 down0 up down up1 down1 waiting e piece bytes there fronts f left moved same_up same_bytes fronts_is good =
    let now : fronts ≡ after_taken e.fronts bytes = fronts_is ∙ ap (after_taken e.fronts) same_bytes in
    let all : FollowsPair start up0 down0 up down1 waiting (record e { fronts = after_taken e.fronts bytes; down_there = there }) =
    follows-delivered_down start up0 down0 up down down1 waiting e bytes there f left moved.0 moved.1
    (sym (ap (λ (s : FrontsState). s.fault) now) ∙ good) in
    subst (λ pipe. FollowsPair start up0 down0 pipe down1 waiting (record e { fronts = fronts; down_there = there })) (sym same_up)
    (subst (λ s. FollowsPair start up0 down0 up down1 waiting (record e { fronts = s; down_there = there })) (sym now) all)

-- as `take_down` says
pub got-follows : (start : PairStarted) (up0 down0 up down up1 down1 : Pipe) (s s1 : LinkEnds) (e : held.PairEnds)
    (piece bytes : List ℕ) (fronts : FrontsState)
    → RunWith start up0 down0 up down s e → s1 ≡ record s { down_there = s1.down_there } → s1.down_there + length bytes ≡ s.down_there
    → (down1.sent ≡ down.sent) × (down1.given ≡ down.given ++ bytes) → up1 ≡ up
    → piece ≡ bytes → fronts ≡ after_taken e.fronts piece → fronts.fault ≡ None
    → RunWith start up0 down0 up1 down1 s1 (record e { fronts = fronts })
got-follows start up0 down0 up down up1 down1 s s1 e piece bytes fronts run ends left moved same_up same_bytes fronts_is good =
    subst (λ x. RunWith start up0 down0 up1 down1 x (record e { fronts = fronts })) (sym ends) (record {
      so_far = delivered-follows start up0 down0 up down up1 down1 s.splitter.whole (with_ends s e) piece bytes s1.down_there fronts
          run.so_far left moved same_up same_bytes fronts_is good;
      none_whole = run.none_whole;
    })

-- as many bytes came down as were there at most
less-down : (start : PairStarted) (up0 down0 up down down1 : Pipe) (waiting : List (List ℕ)) (e : held.PairEnds) (bytes : List ℕ)
    → FollowsPair start up0 down0 up down waiting e → length bytes ≤ e.down_there
    → down1.sent ≡ down.sent → down1.given ≡ down.given ++ bytes
    → GivesNoMore (pair_since up0 down0 up down1)
less-down start up0 down0 up down down1 waiting e bytes f most same given_is =
    let sent : length (sent_since down0 down1) ≡ length f.sent_down = ap (λ all. length (drop (length down0.sent) all))
    (same ∙ f.down_is.sent_is) ∙ ap length (drop-append_seam down0.sent f.sent_down) in
    let given : length (given_since down0 down1) ≡ length (f.given_down ++ bytes) = ap (λ all. length (drop (length down0.given) all))
    (given_is ∙ ap (λ all. all ++ bytes) f.down_is.given_is ∙ append_assoc down0.given f.given_down bytes)
    ∙ ap length (drop-append_seam down0.given (f.given_down ++ bytes)) in
    let both : length (f.given_down ++ bytes) ≡ length f.given_down + length bytes = length-append f.given_down bytes in
    let left : e.down_there + length f.given_down ≡ length f.sent_down = f.down_left in
    ((follows-less start up0 down0 up down waiting e f).0, omega (arith, sent, given, both, left, most))

-- or they refused one
pub refused-folds : (start : PairStarted) (up0 down0 up down up1 down1 : Pipe) (waiting : List (List ℕ)) (e : held.PairEnds)
    (piece bytes : List ℕ) (fronts : FrontsState) (fault : FrontFault)
    → FollowsPair start up0 down0 up down waiting e → length bytes ≤ e.down_there
    → (down1.sent ≡ down.sent) × (down1.given ≡ down.given ++ bytes) → up1 ≡ up
    → piece ≡ bytes → fronts ≡ after_taken e.fronts piece → fronts.fault ≡ Some fault
    → ((pair_since up0 down0 up1 down1).fold ≡ Err fault) × GivesNoMore (pair_since up0 down0 up1 down1)
refused-folds start up0 down0 up down up1 down1 waiting e piece bytes fronts fault f most moved same_up same_bytes fronts_is bad =
    let now : fronts ≡ after_taken e.fronts bytes = fronts_is ∙ ap (after_taken e.fronts) same_bytes in (
      ap (λ pipe. (pair_since up0 down0 pipe down1).fold) same_up
          ∙ follows-refused start up0 down0 up down down1 waiting e bytes fault f moved.0 moved.1
          (sym (ap (λ (s : FrontsState). s.fault) now) ∙ bad),
      subst (λ pipe. GivesNoMore (pair_since up0 down0 pipe down1)) (sym same_up)
          (less-down start up0 down0 up down down1 waiting e bytes f most moved.0 moved.1),
    )

-- ---- frames are answered one after the other

-- the next frame is answered, before those that the splitter holds
pub follow_turn : {P : Type 0} {g : Ghosts P} {T : Type 0} (result : Result T Stop) (start : PairStarted)
    (up0 down0 up down up1 down1 : Pipe) (e e1 : TwoFronts P g) (s : LinkEnds) (frame : List ℕ)
    → FollowsPairWith start up0 down0 up down e → e.ends.splitter.whole ≡ frame ∷ s.splitter.whole
    → s.splitter.rest ≡ e.ends.splitter.rest → s ≡ record e.ends { splitter = s.splitter }
    → KeepsPairAnswer frame (moment (Unit {0}) up down (record e { ends = s })) (moment (Unit {0}) up1 down1 e1) result
    → OnOk result (FollowsPairWith start up0 down0 up1 down1 e1) × PairStopFolds result (pair_since up0 down0 up1 down1)
follow_turn result start up0 down0 up down up1 down1 e e1 s frame f whole rest ends answers =
    answers start up0 down0
    (subst (λ x. FollowsPair start up0 down0 up down (frame ∷ s.splitter.whole) (with_ends x (pair_ends_of e))) (sym ends)
    (subst (λ r. FollowsPair start up0 down0 up down (frame ∷ s.splitter.whole) (record (pair_ends_of e) { back_rest = r })) (sym rest)
    (subst (λ frames. FollowsPair start up0 down0 up down frames (pair_ends_of e)) whole f)))

-- no frame is left
pub follow_end : {P : Type 0} {g : Ghosts P} (start : PairStarted) (up0 down0 up down : Pipe) (e : TwoFronts P g) (s : LinkEnds)
    → FollowsPairWith start up0 down0 up down e → s ≡ e.ends → s.splitter.whole ≡ []
    → FollowsPairRun start up0 down0 up down (record e { ends = s }) × IsWell (pair_since up0 down0 up down)
follow_end start up0 down0 up down e s f same none = (
  record {
    so_far = subst (λ x. FollowsPair start up0 down0 up down x.splitter.whole (with_ends x (pair_ends_of e))) (sym same) f;
    none_whole = none;
  },
  follows-good start up0 down0 up down e.ends.splitter.whole (pair_ends_of e) f,
)
