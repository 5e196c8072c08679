-- The ends follow a run with two front ends as bytes are sent and given.
use Rattle.std.proofs.Common.{◌≡◌, ℕ, ◌+◌, ◌-◌, ◌<◌, length, take, List, [], ◌∷◌, ◌++◌, Option, None, false, sym, ◌∙◌, ap, subst}
use Rattle.std.proofs.Common.{arith}
use Rattle.std.specs.Prelude.{All, IfSome}
use Rattle.std.proofs.lemmas.List.Elements.{All-nil, All-cons, All-append, All-head, All-tail}
use Rattle.pipe_frames.specs.Pipe.{Pipe}
use Rattle.pipe_frames.specs.Frames.{IsText, framed, held_after}
use Rattle.front_mirror.specs.Front.{FrontValue}
use Rattle.front_mirror.specs.declared.replies.Ask.{Ask}
use Rattle.session_runs.specs.Stream.{sent, passed, arriving, awaited}
use Rattle.session_runs.specs.World.{sent_up, answered, given_up, turned, delivered_down}
use Rattle.session_runs.specs.Fold.{Laws}
use Rattle.session_runs.specs.Pairs.{Second, pair_step, pair_act}
use Rattle.session_runs.specs.PairFit.{TwoFit, neither, both, is_calm, is_targeting}
use Rattle.session_runs.proofs.Frames.{sent-passed, awaited-passed}
use Rattle.session_runs.proofs.LinkRuns.{link-answered, link-given_up, link-turned, link-sent_up, link-delivered_down, awaited-framed}
use Rattle.session_runs.proofs.LinkRuns.{sent-framed}
use Rattle.session_runs.proofs.CalmLemmas.{step-keeps}
use Rattle.session_mux.specs.Laws.{AreInOrder}
use Rattle.multi_replay.specs.States.{StatePair, FrontsState, after_taken}
use Rattle.multi_replay.specs.Laws.{IsFoldOfBoth}
use Rattle.multi_replay.proofs.BothLemmas.{both-take}
use Rattle.back_end.specs.declared.mux.Mux.{Mux}
use Rattle.back_end.specs.declared.side.PageSide.{PageSide}
use Rattle.back_end.specs.States.{Side}
use Rattle.back_end.specs.Steps.{Turn}
use Rattle.back_end.specs.Laws.{IsTurn}
use Rattle.back_end.specs.Pairs as clients
use Rattle.back_end.specs.Pairs.{IsPair, PairHasRoom, pair_turn}
use Rattle.back_end.specs.PairSeats.{PairStandsFor, PairHasRoomLeft}
use Rattle.back_end.proofs.PairLemmas.{pair-room, pairs-have-room-left, pair-states}
use Rattle.pair_world.specs.Clients.{pair_reads, RunClient, client_steps}
use Rattle.pair_world.specs.Shown.{IsSessionNumber, MaySend, Shows}
use Rattle.pair_world.specs.PairFits.{PageSessions}
use Rattle.pair_world.specs.FrameLaws.{IsUsual, sessions_of}
use Rattle.pair_world.specs.SameSteps.{clients_of, AreSame}
use Rattle.pair_world.specs.PairRuns.{PairSpent, PairRun, none_more}
use Rattle.pair_world.specs.PairFresh.{FrontValues, pair_runner, no_fronts, PairRoom}
use Rattle.pair_world.specs.PairHeld.{PairEnds, PairMode, calm, targeted, fit_in, up_reads, NumberAsCounted, IsSecondOf, KnowSession}
use Rattle.pair_world.specs.PairHeld.{InPairWorld}
use Rattle.pair_world.proofs.FetchBoth.{NextOfPair}
use Rattle.pair_world.proofs.FetchRuns.{NextWhileCalm, fit_laws, still_laws}
use Rattle.pair_world.proofs.SameSteps.{frame-steps-are-same, turns-are-same}

-- ---- the laws, whether an attach or a detach is on its way or none

-- what may be sent next
abbrev pub next_in : PairMode → PairSpent → PageSessions → List (List ℕ) → List ℕ → PairSpent → Type 0
next_in calm = NextWhileCalm
next_in targeted = NextOfPair

pub laws_in : (mode : PairMode) → Laws pair_runner PairRoom (next_in mode) (λ n. IsTurn) (fit_in mode)
laws_in calm = still_laws
laws_in targeted = fit_laws

-- ---- what the seats stand for

two-order : (side : Side) (second : RunClient) (next : ℕ) (asks : List Ask) (two : Option (Second FrontValue (List ℕ)))
    (attached : Option ℕ)
    → TwoFit pair_reads client_steps IsSessionNumber Shows side second next asks two attached → IfSome attached (λ n. n < next)
two-order side second next asks _ _ neither = tt
two-order side second next asks _ _ (both k v is_number few shows) = few

in-order : (mode : PairMode) (n : PairSpent) (p : FrontValues) (s : PageSessions) (frames : List (List ℕ)) → fit_in mode n p s frames
    → AreInOrder (sessions_of s)
in-order calm n p s frames fit = two-order s.side s.second s.next _ p.two s.attached fit.two
in-order targeted n p s frames (is_calm c) = two-order s.side s.second s.next _ p.two s.attached c.two
in-order targeted n p s frames (is_targeting t) = two-order s.side s.second s.next _ p.two s.attached t.so_far.two

-- sessions are numbered from 1 on
next-some : (mode : PairMode) (n : PairSpent) (p : FrontValues) (s : PageSessions) (frames : List (List ℕ)) → fit_in mode n p s frames
    → 0 < s.next
next-some calm n p s frames fit = let top : p.top < s.next = fit.top in omega (arith, top)
next-some targeted n p s frames (is_calm c) = let top : p.top < s.next = c.top in omega (arith, top)
next-some targeted n p s frames (is_targeting t) = let top : p.top < s.next = t.so_far.top in omega (arith, top)

module _ (mode : PairMode) (up0 down0 up down : Pipe) (w : PairRun) (frames : List (List ℕ)) (e : PairEnds)
    (in_world : InPairWorld mode up0 down0 up down w frames e) where
  -- both clients are such as can be
  pub world-pair : IsPair (clients_of w.state)
  world-pair =
      let states = pair-states e.mux e.side (clients_of w.state) in_world.stands in
      record {
        root = states.0;
        second = states.1;
        fresh = in_world.stands.fresh;
        numbers = in-order mode w.spent in_world.on_link.fits.front w.state frames in_world.on_link.fits.fit;
      }

  -- where both seats have room, there is room for a step of the run
  pub world-has-room : PairHasRoomLeft e.mux e.side → PairRoom w.state
  world-has-room left =
      let room = pair-room e.mux e.side (clients_of w.state) in_world.stands left in (
        room.root,
        room.second,
        (next-some mode w.spent in_world.on_link.fits.front w.state frames in_world.on_link.fits.fit, room.number),
      )

  -- and where one has none, there is none
  pub world-no-room : PairRoom w.state → PairHasRoomLeft e.mux e.side
  world-no-room room =
      (pairs-have-room-left e.mux e.side (clients_of w.state) in_world.stands).1
      (record { root = room.0; second = room.1; number = room.2.1 })

-- room of the run is room of both clients
pub clients-room : (s : PageSessions) → PairRoom s → PairHasRoom (clients_of s)
clients-room s room = record { root = room.0; second = room.1; number = room.2.1 }

-- ---- the back end

-- a step keeps which session the front ends know
session-kept : (mode : PairMode) (n : PairSpent) (p : FrontValues) (s : PageSessions) (frame : List ℕ) (frames : List (List ℕ))
    (f : StatePair)
    → fit_in mode n p s (frame ∷ frames) → KnowSession mode f s.attached
    → KnowSession mode f (pair_step pair_reads client_steps s frame).state.attached
session-kept calm n p s frame frames f fit known =
    (known.0, subst (IsSecondOf f.two) (sym (step-keeps pair_reads client_steps MaySend s frame fit.calm.0)) known.1)
session-kept targeted n p s frame frames f fit known = tt

-- a frame that came up whole is answered
pub pair-answered : (mode : PairMode) (up0 down0 up down down1 : Pipe) (w : PairRun) (frame : List ℕ) (frames : List (List ℕ))
    (e : PairEnds)
    (mux : Mux) (side : PageSide) (out : List ℕ) (there : ℕ)
    → InPairWorld mode up0 down0 up down w (frame ∷ frames) e → PairRoom w.state
    → PairStandsFor mux side (clients.pair_step false frame (clients_of w.state)).state
    → out ≡ (clients.pair_step false frame (clients_of w.state)).sent
    → down1.sent ≡ down.sent ++ out → down1.given ≡ down.given → there ≡ e.down_there + length out
    → InPairWorld mode up0 down0 up down1 (answered (pair_step pair_reads client_steps) (frame ∷ []) w) frames
    (record e { mux = mux; side = side; down_there = there })
pair-answered mode up0 down0 up down down1 w frame frames e mux side out there in_world room stands out_is sent_is given_is left =
    let same : AreSame (pair_step pair_reads client_steps w.state frame) (clients.pair_step false frame (clients_of w.state)) =
    frame-steps-are-same frame w.state (All-head IsUsual frame frames in_world.usual)
    (world-pair mode up0 down0 up down w (frame ∷ frames) e in_world) (clients-room w.state room) in
    record {
      on_link = link-answered pair_runner PairRoom (next_in mode) (λ n. IsTurn) (fit_in mode) (laws_in mode) no_fronts
          (record { up = up0; down = down0 }) (record { up = up; down = down }) down1 w frame frames
          (record { back_rest = e.back_rest; up_there = e.up_there; down_there = e.down_there }) out there in_world.on_link room
          (out_is ∙ sym same.sent) sent_is given_is left;
      usual = All-tail IsUsual frame frames in_world.usual;
      stands = subst (PairStandsFor mux side) (sym same.state) stands;
      fronts_are = in_world.fronts_are;
      numbered = in_world.numbered;
      session = session-kept mode w.spent in_world.on_link.fits.front w.state frame frames e.fronts.pair in_world.on_link.fits.fit
          in_world.session;
      alive = in_world.alive;
      first_alive = in_world.first_alive;
      panels = in_world.panels;
      first_told = in_world.first_told;
      second_told = in_world.second_told;
    }

-- the script makes a step by itself
pub pair-turned : (mode : PairMode) (up0 down0 up down down1 : Pipe) (w : PairRun) (x : Turn) (e : PairEnds) (mux : Mux) (side : PageSide)
    (out : List ℕ) (there : ℕ)
    → InPairWorld mode up0 down0 up down w (awaited w.up) e → PairRoom w.state → IsTurn x
    → PairStandsFor mux side (pair_turn x (clients_of w.state)).state → out ≡ (pair_turn x (clients_of w.state)).sent
    → down1.sent ≡ down.sent ++ out → down1.given ≡ down.given → there ≡ e.down_there + length out
    → InPairWorld mode up0 down0 up down1 (turned none_more (pair_act pair_reads client_steps) x w) (awaited w.up)
    (record e { mux = mux; side = side; down_there = there })
pair-turned mode up0 down0 up down down1 w x e mux side out there in_world room is_turn stands out_is sent_is given_is left =
    let same : AreSame (pair_act pair_reads client_steps x w.state) (pair_turn x (clients_of w.state)) =
    turns-are-same x w.state is_turn (world-pair mode up0 down0 up down w (awaited w.up) e in_world) (clients-room w.state room) in
    record {
      on_link = link-turned pair_runner PairRoom (next_in mode) (λ n. IsTurn) (fit_in mode) (laws_in mode) no_fronts
          (record { up = up0; down = down0 }) (record { up = up; down = down }) down1 w x
          (record { back_rest = e.back_rest; up_there = e.up_there; down_there = e.down_there }) out there in_world.on_link room is_turn
          (out_is ∙ sym same.sent) sent_is given_is left;
      usual = in_world.usual;
      stands = subst (PairStandsFor mux side) (sym same.state) stands;
      fronts_are = in_world.fronts_are;
      numbered = in_world.numbered;
      session = in_world.session;
      alive = in_world.alive;
      first_alive = in_world.first_alive;
      panels = in_world.panels;
      first_told = in_world.first_told;
      second_told = in_world.second_told;
    }

-- bytes come up
pub pair-given_up : (mode : PairMode) (up0 down0 up down up1 : Pipe) (w : PairRun) (e : PairEnds) (n there : ℕ) (piece rest : List ℕ)
    → InPairWorld mode up0 down0 up down w (awaited w.up) e → piece ≡ take n w.up.flying
    → up1.sent ≡ up.sent → up1.given ≡ up.given ++ piece → there ≡ e.up_there - length piece → rest ≡ held_after e.back_rest piece
    → InPairWorld mode up0 down0 up1 down (given_up n w) (arriving n w.up ++ awaited (passed n w.up))
    (record e { back_rest = rest; up_there = there })
pair-given_up mode up0 down0 up down up1 w e n there piece rest in_world front_part sent_is given_is left rest_is = record {
  on_link = link-given_up pair_runner PairRoom (next_in mode) (λ n. IsTurn) (fit_in mode) (laws_in mode) no_fronts
      (record { up = up0; down = down0 }) (record { up = up; down = down }) up1 w
      (record { back_rest = e.back_rest; up_there = e.up_there; down_there = e.down_there }) n there piece rest in_world.on_link front_part
      sent_is given_is left rest_is;
  usual = subst (All IsUsual) (awaited-passed n w.up) in_world.usual;
  stands = in_world.stands;
  fronts_are = subst (λ bytes. IsFoldOfBoth up_reads bytes w.down.given e.fronts) (sym (sent-passed n w.up)) in_world.fronts_are;
  numbered = in_world.numbered;
  session = in_world.session;
  alive = in_world.alive;
  first_alive = in_world.first_alive;
  panels = in_world.panels;
  first_told = in_world.first_told;
  second_told = in_world.second_told;
}

-- ---- the front ends

-- A frame is sent: the front ends are the fold with it, and number what they send as the run counts it.
pub pair-sent : (mode : PairMode) (up0 down0 up down up1 : Pipe) (w : PairRun) (e : PairEnds) (text : List ℕ) (more : PairSpent → PairSpent)
    (fronts : FrontsState) (there : ℕ)
    → InPairWorld mode up0 down0 up down w (awaited w.up) e → IsText text → IsUsual text
    → next_in mode w.spent w.state (awaited w.up) text (more w.spent)
    → IsFoldOfBoth up_reads (sent w.up ++ framed text) w.down.given fronts → NumberAsCounted (more w.spent) fronts
    → KnowSession mode fronts.pair w.state.attached
    → fronts.dead ≡ e.fronts.dead → fronts.pair.one.dead ≡ e.fronts.pair.one.dead → fronts.pair.one.panels ≡ e.fronts.pair.one.panels
    → up1.sent ≡ up.sent ++ framed text → up1.given ≡ up.given → there ≡ e.up_there + length (framed text)
    → InPairWorld mode up0 down0 up1 down (sent_up text more w) (awaited (sent_up text more w).up)
    (record e { fronts = fronts; up_there = there })
pair-sent mode up0 down0 up down up1 w e text more fronts there in_world letters is_usual next fold numbered session alive first_alive
    panels
    sent_is given_is left = record {
      on_link = link-sent_up pair_runner PairRoom (next_in mode) (λ n. IsTurn) (fit_in mode) (laws_in mode) no_fronts
          (record { up = up0; down = down0 }) (record { up = up; down = down }) up1 w
          (record { back_rest = e.back_rest; up_there = e.up_there; down_there = e.down_there }) text more there in_world.on_link letters
          next sent_is given_is left;
      usual = subst (All IsUsual) (sym (awaited-framed text w.up letters in_world.on_link.fits.up_whole))
          (All-append IsUsual (awaited w.up) (text ∷ []) in_world.usual (All-cons IsUsual text [] is_usual (All-nil IsUsual)));
      stands = in_world.stands;
      fronts_are = subst (λ bytes. IsFoldOfBoth up_reads bytes w.down.given fronts) (sym (sent-framed text w.up)) fold;
      numbered = numbered;
      session = session;
      alive = alive ∙ in_world.alive;
      first_alive = first_alive ∙ in_world.first_alive;
      panels = panels ∙ in_world.panels;
      first_told = in_world.first_told;
      second_told = in_world.second_told;
    }

-- Bytes come down: the front ends take them, and meet no fault.
pub pair-delivered_down : (mode : PairMode) (up0 down0 up down down1 : Pipe) (w : PairRun) (frames : List (List ℕ)) (e : PairEnds)
    (n there : ℕ)
    (piece : List ℕ) (fronts : FrontsState)
    → InPairWorld mode up0 down0 up down w frames e → piece ≡ take n w.down.flying
    → fronts ≡ after_taken e.fronts piece → fronts.fault ≡ None → NumberAsCounted w.spent fronts
    → KnowSession mode fronts.pair w.state.attached
    → fronts.dead ≡ e.fronts.dead → fronts.pair.one.dead ≡ e.fronts.pair.one.dead → fronts.pair.one.panels ≡ e.fronts.pair.one.panels
    → down1.sent ≡ down.sent → down1.given ≡ down.given ++ piece → there ≡ e.down_there - length piece
    → InPairWorld mode up0 down0 up down1 (delivered_down n w) frames (record e { fronts = fronts; down_there = there })
pair-delivered_down mode up0 down0 up down down1 w frames e n there piece fronts in_world front_part fronts_is well numbered session alive
    first_alive panels sent_is given_is left = record {
      on_link = link-delivered_down pair_runner PairRoom (next_in mode) (λ n. IsTurn) (fit_in mode) (laws_in mode) no_fronts
          (record { up = up0; down = down0 }) (record { up = up; down = down }) down1 w frames
          (record { back_rest = e.back_rest; up_there = e.up_there; down_there = e.down_there }) n there piece in_world.on_link front_part
          sent_is given_is left;
      usual = in_world.usual;
      stands = in_world.stands;
      fronts_are =
          let took : IsFoldOfBoth up_reads (sent w.up) (w.down.given ++ piece) (after_taken e.fronts piece) =
          both-take up_reads (sent w.up) w.down.given piece e.fronts in_world.fronts_are
          (ap (λ (s : FrontsState). s.fault) (sym fronts_is) ∙ well) in
          subst (λ s. IsFoldOfBoth up_reads (sent w.up) (w.down.given ++ take n w.down.flying) s) (sym fronts_is)
          (subst (λ bytes. IsFoldOfBoth up_reads (sent w.up) (w.down.given ++ bytes) (after_taken e.fronts piece)) front_part took);
      numbered = numbered;
      session = session;
      alive = alive ∙ in_world.alive;
      first_alive = first_alive ∙ in_world.first_alive;
      panels = panels ∙ in_world.panels;
      first_told = in_world.first_told;
      second_told = in_world.second_told;
    }
