-- Bytes that come down to two front ends over an honest link: they meet no fault, and change nothing of the ends but what was taken.
use Rattle.std.proofs.Common.{◌≡◌, ℕ, ◌+◌, ◌-◌, ◌++◌, Bool, true, false, cond, length, take, List, [], ◌∷◌, Option, Some, None, is_none}
use Rattle.std.proofs.Common.{refl, sym, ◌∙◌, ap, subst, Result, Ok, Err, ◌&&◌, nat_lt}
use Rattle.std.specs.Prelude.{bytes_eq}
use Rattle.cdp_json.specs.Lookups.{then_ok}
use Rattle.pipe_frames.specs.Pipe.{Pipe}
use Rattle.pipe_frames.specs.Frames.{frames_of, frames_from}
use Rattle.front_mirror.specs.declared.faults.FrontKind.{FrontKind}
use Rattle.front_mirror.specs.declared.faults.FrontFault.{FrontFault}
use Rattle.front_mirror.specs.Front.{FrontValue, FrontState, take_frame}
use Rattle.back_end.specs.Laws.{IsTurn}
use Rattle.session_runs.specs.Stream.{sent, passed}
use Rattle.session_runs.specs.World.{delivered_down}
use Rattle.session_runs.specs.Fold.{asks_joined}
use Rattle.session_runs.specs.Pairs.{Down, bare, of_session, Second, TargetKind, TargetOutcome, nothing_done, session_made, session_dropped}
use Rattle.session_runs.specs.Pairs.{front_pair, kind_waiting, without_id, asks_of_session, with_one, take_two, take_target, take_down}
use Rattle.session_runs.specs.Pairs.{target_done, take_pair, join_pair, first_pair}
use Rattle.session_runs.proofs.LinkRuns.{TakesMore, link-takes}
use Rattle.multi_replay.specs.Incoming.{frame_down, is_target_id, target_says}
use Rattle.multi_replay.specs.Folds.{value_reads, fold_both, after_down, pair_folded, take_whole, state_reads}
use Rattle.multi_replay.specs.States.{StatePair, FrontsState, after_taken, after_down_bytes, unless_faulty}
use Rattle.multi_replay.specs.Laws.{pair_value}
use Rattle.multi_replay.proofs.PlaceLemmas.{from-folded}
use Rattle.multi_replay.proofs.BothLemmas.{faults-are-of-fold}
use Rattle.pair_world.specs.PairRuns.{PairRun}
use Rattle.pair_world.specs.PairFresh.{FrontValues, pair_runner, PairRoom, no_fronts}
use Rattle.pair_world.specs.PairHeld.{up_reads, PairEnds, PairMode, calm, targeted, fit_in, KnowSession, InPairWorld}
use Rattle.pair_world.proofs.PairEndLemmas.{next_in, laws_in, pair-delivered_down}
use Rattle.pair_world.proofs.PairNumbers.{pairs-same, numbered-taken}
use Rattle.pair_world.proofs.PairSends.{session-taken}
use Rattle.pair_world.proofs.PairKnown.{world-fronts}

-- ---- what the first front end keeps

-- a front end that takes a frame is as before but for its value
abbrev OnlyValue : FrontState → FrontState → Type 0
OnlyValue s t = t ≡ record s { value = t.value }

value-next : (s t u : FrontState) → OnlyValue s t → OnlyValue t u → OnlyValue s u
value-next s t u first second = second ∙ ap (λ (x : FrontState). record x { value = u.value }) first

whole-value : (s t : FrontState) (frame : List ℕ) → take_whole s frame ≡ Ok t → OnlyValue s t
whole-value s t frame e = by (take_frame s.value frame) e where
  by : (result : Result FrontValue FrontKind) → then_ok result (λ v. Ok (record s { value = v })) ≡ Ok t → OnlyValue s t
  by (Ok v) e = let same : record s { value = v } ≡ t = cc in subst (OnlyValue s) same refl
  by (Err kind) e = let no : ◌≡◌ {A = Result FrontState FrontKind} (Err kind) (Ok t) = e in absurd cc

-- so is the first of two
abbrev OneKept : StatePair → StatePair → Type 0
OneKept p q = OnlyValue p.one q.one

-- whatever a reply to an attach or a detach does
target-one : (o : TargetOutcome (List ℕ)) (p q : StatePair) → target_done state_reads o p ≡ Ok q → OneKept p q
target-one nothing_done p q e = subst (OneKept p) (pairs-same p q e) refl
target-one (session_made t k) p q e = by (is_none p.two && nat_lt p.top k) e where
  fresh : StatePair
  fresh = front_pair p.one (Some (record {
    text = t;
    value = state_reads.join state_reads.begin (asks_of_session state_reads t p.asked);
  })) p.waiting p.asked k

  by : (b : Bool) → cond b (Ok fresh) (Err state_reads.strange) ≡ Ok q → OneKept p q
  by true e = subst (OneKept p) (pairs-same fresh q e) refl
  by false e = let no : ◌≡◌ {A = Result StatePair FrontKind} (Err state_reads.strange) (Ok q) = e in absurd cc
target-one session_dropped p q e = subst (OneKept p) (pairs-same (record p { two = None }) q e) refl

-- whatever frame comes
frame-one : (p q : StatePair) (frame : List ℕ) → take_pair state_reads p frame ≡ Ok q → OneKept p q
frame-one p q frame e = by (frame_down frame) e where
  first : (result : Result FrontState FrontKind) → take_whole p.one frame ≡ result → with_one state_reads result p ≡ Ok q → OneKept p q
  first (Ok t) is e = subst (OneKept p) (pairs-same (record p { one = t }) q e) (whole-value p.one t frame is)
  first (Err kind) is e = let no : ◌≡◌ {A = Result StatePair FrontKind} (Err kind) (Ok q) = e in absurd cc

  with_second : (w : Second FrontState (List ℕ)) (result : Result FrontState FrontKind)
      → then_ok result (λ v. Ok (record p { two = Some (record { text = w.text; value = v }) })) ≡ Ok q → OneKept p q
  with_second w (Ok t) e =
      subst (OneKept p) (pairs-same (record p { two = Some (record { text = w.text; value = t }) }) q e) refl
  with_second w (Err kind) e = let no : ◌≡◌ {A = Result StatePair FrontKind} (Err kind) (Ok q) = e in absurd cc

  second : (t text : List ℕ) (two : Option (Second FrontState (List ℕ))) → take_two state_reads t text two p ≡ Ok q → OneKept p q
  second t text None e = let no : ◌≡◌ {A = Result StatePair FrontKind} (Err state_reads.strange) (Ok q) = e in absurd cc
  second t text (Some w) e =
      (elim (bytes_eq w.text t) as (λ (b : Bool).
      cond b (then_ok (take_whole w.value text) (λ v. Ok (record p { two = Some (record { text = w.text; value = v }) })))
      (Err state_reads.strange) ≡ Ok q → OneKept p q) [
        | true ↦ λ h. with_second w (take_whole w.value text) h
        | false ↦ λ h. let no : ◌≡◌ {A = Result StatePair FrontKind} (Err state_reads.strange) (Ok q) = h in absurd cc
      ]) e

  answered : (id : ℕ) (result : Result (TargetOutcome (List ℕ)) FrontKind)
      → then_ok result (λ outcome. target_done state_reads outcome (record p { waiting = without_id id p.waiting })) ≡ Ok q → OneKept p q
  answered id (Ok outcome) e = target-one outcome (record p { waiting = without_id id p.waiting }) q e
  answered id (Err fault) e = let no : ◌≡◌ {A = Result StatePair FrontKind} (Err fault) (Ok q) = e in absurd cc

  target : (id : ℕ) (kind : Option TargetKind) → take_target state_reads id frame kind p ≡ Ok q → OneKept p q
  target id None e = let no : ◌≡◌ {A = Result StatePair FrontKind} (Err state_reads.unasked) (Ok q) = e in absurd cc
  target id (Some kind) e = answered id (target_says kind frame) e

  by : (d : Down (List ℕ)) → take_down state_reads d frame p ≡ Ok q → OneKept p q
  by (of_session t text) e = second t text p.two e
  by (bare None) e = first (take_whole p.one frame) refl e
  by (bare (Some id)) e =
      (elim (is_target_id id) as (λ (b : Bool).
      cond b (take_target state_reads id frame (kind_waiting id p.waiting) p) (with_one state_reads (take_whole p.one frame) p) ≡ Ok q
      → OneKept p q) [
        | true ↦ λ h. target id (kind_waiting id p.waiting) h
        | false ↦ λ h. first (take_whole p.one frame) refl h
      ]) e

folded-one : (frames : List (List ℕ)) (p : StatePair) (taken : ℕ) → OneKept p (pair_folded state_reads p taken frames).pair
folded-one [] p taken = refl
folded-one (frame ∷ frames) p taken =
    by (take_pair state_reads p frame) refl
    (λ q is. value-next p.one q.one (pair_folded state_reads q (taken + 1) frames).pair.one (frame-one p q frame is)
    (folded-one frames q (taken + 1)))
  where
    by : (result : Result StatePair FrontKind) → take_pair state_reads p frame ≡ result
        → ((q : StatePair) → take_pair state_reads p frame ≡ Ok q → OneKept p (pair_folded state_reads q (taken + 1) frames).pair)
        → OneKept p (after_down p taken (λ q. pair_folded state_reads q (taken + 1) frames) result).pair
    by (Ok q) is next = next q is
    by (Err kind) is next = refl

-- after bytes that come down the front ends are as dead as before, and the first is as before but for its value
pub one-taken : (s : FrontsState) (bytes : List ℕ)
    → ((after_taken s bytes).dead ≡ s.dead) × OnlyValue s.pair.one (after_taken s bytes).pair.one
one-taken s bytes = by s.fault where
  by : (fault : Option FrontFault)
      → ((unless_faulty fault s (after_down_bytes s bytes)).dead ≡ s.dead)
      × OnlyValue s.pair.one (unless_faulty fault s (after_down_bytes s bytes)).pair.one
  by None = (refl, folded-one (frames_from s.rest bytes) s.pair s.taken)
  by (Some f) = (refl, refl)

-- ---- no fault is met

-- what comes down over an honest link is never refused
pub never-refused : (mode : PairMode) (up0 down0 up down : Pipe) (w : PairRun) (frames : List (List ℕ)) (e : PairEnds) (n : ℕ)
    (piece : List ℕ)
    → InPairWorld mode up0 down0 up down w frames e → piece ≡ take n w.down.flying → (after_taken e.fronts piece).fault ≡ None
never-refused mode up0 down0 up down w frames e n piece in_world front_part = by (after_taken e.fronts piece).fault refl where
  begin : FrontValues
  begin = asks_joined (join_pair (value_reads up_reads)) (first_pair (value_reads up_reads)) (frames_of (sent w.up)).whole

  more : TakesMore pair_runner PairRoom (next_in mode) (λ n. IsTurn) (fit_in mode) (laws_in mode) no_fronts w
      (pair_value in_world.fronts_are.asked e.fronts.pair) n
  more =
      link-takes pair_runner PairRoom (next_in mode) (λ n. IsTurn) (fit_in mode) (laws_in mode) no_fronts
      (record { up = up0; down = down0 }) (record { up = up; down = down }) w frames
      (record { back_rest = e.back_rest; up_there = e.up_there; down_there = e.down_there })
      (pair_value in_world.fronts_are.asked e.fronts.pair) n in_world.on_link
      (world-fronts mode up0 down0 up down w frames e in_world)

  well : fold_both up_reads (sent w.up) (w.down.given ++ piece) ≡ Ok more.after
  well =
      ap (λ bytes. fold_both up_reads (sent w.up) (w.down.given ++ bytes)) front_part
      ∙ from-folded (value_reads up_reads) (frames_of (passed n w.down).given).whole begin more.after 0 more.is_fold

  by : (fault : Option FrontFault) → (after_taken e.fronts piece).fault ≡ fault → (after_taken e.fronts piece).fault ≡ None
  by None is = is
  by (Some f) is =
      let no : ◌≡◌ {A = Result FrontValues FrontFault} (Err f) (Ok more.after) =
      sym (faults-are-of-fold up_reads (sent w.up) w.down.given piece e.fronts f in_world.fronts_are is) ∙ well in absurd cc

-- ---- bytes come down

known-taken : (mode : PairMode) (s : FrontsState) (bytes : List ℕ) (attached : Option ℕ) → KnowSession mode s.pair attached
    → KnowSession mode (after_taken s bytes).pair attached
known-taken calm s bytes attached known = session-taken s bytes attached known
known-taken targeted s bytes attached known = tt

-- the front ends take them
pub pair-down : (mode : PairMode) (up0 down0 up down down1 : Pipe) (w : PairRun) (frames : List (List ℕ)) (e : PairEnds) (n there : ℕ)
    (piece : List ℕ)
    → InPairWorld mode up0 down0 up down w frames e → piece ≡ take n w.down.flying
    → down1.sent ≡ down.sent → down1.given ≡ down.given ++ piece → there ≡ e.down_there - length piece
    → InPairWorld mode up0 down0 up down1 (delivered_down n w) frames (record e { fronts = after_taken e.fronts piece; down_there = there })
pair-down mode up0 down0 up down down1 w frames e n there piece in_world front_part sent_is given_is left =
    let kept = one-taken e.fronts piece in
    pair-delivered_down mode up0 down0 up down down1 w frames e n there piece (after_taken e.fronts piece) in_world front_part refl
    (never-refused mode up0 down0 up down w frames e n piece in_world front_part)
    (numbered-taken w.spent e.fronts piece in_world.numbered)
    (known-taken mode e.fronts piece w.state.attached in_world.session)
    kept.0 (ap (λ (x : FrontState). x.dead) kept.1) (ap (λ (x : FrontState). x.panels) kept.1) sent_is given_is left
