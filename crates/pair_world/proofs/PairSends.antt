-- The ends after what a line sends, and after bytes that come down.
use Rattle.std.proofs.Common.{◌≡◌, ℕ, ◌+◌, ◌<◌, ◌^◌, Bool, true, false, cond, length, List, [], ◌∷◌, ◌++◌, Option, Some, None}
use Rattle.std.proofs.Common.{refl, sym, ◌∙◌, ap, subst, arith, Result, Ok, Err}
use Rattle.std.specs.Prelude.{⊤, bytes_eq}
use Rattle.std.specs.Option.{option_to_list}
use Rattle.cdp_json.specs.Lookups.{then_ok}
use Rattle.pipe_frames.specs.Pipe.{Pipe}
use Rattle.pipe_frames.specs.Frames.{framed, frames_from}
use Rattle.cdp_messages.specs.Asked.{command_text}
use Rattle.front_mirror.specs.declared.faults.FrontKind.{FrontKind}
use Rattle.front_mirror.specs.declared.faults.FrontFault.{FrontFault}
use Rattle.front_mirror.specs.Front.{FrontState}
use Rattle.replay_script.specs.Forms.{AskForm}
use Rattle.replay_script.specs.Sound.{CanSend}
use Rattle.replay_script.specs.PairLines.{may_ask}
use Rattle.session_runs.specs.Stream.{awaited}
use Rattle.session_runs.specs.World.{sent_up}
use Rattle.session_runs.specs.Pairs.{Down, bare, of_session, Second, TargetKind, kind_waiting, take_down, take_pair, take_two, take_target}
use Rattle.session_runs.specs.Pairs.{with_one}
use Rattle.multi_replay.specs.Incoming.{frame_down, is_target_id}
use Rattle.multi_replay.specs.Folds.{after_down, pair_folded, take_whole, state_reads}
use Rattle.multi_replay.specs.States.{StatePair, FrontsState, after_asked, after_taken, after_down_bytes, unless_faulty}
use Rattle.multi_replay.proofs.SendLemmas.{first-asks}
use Rattle.inspect_world.proofs.Messages.{ask_in-sent}
use Rattle.inspect_world.specs.Fits.{ask_of_frame, ask_with}
use Rattle.pair_world.specs.PairRuns.{PairRun, one_ask_on}
use Rattle.pair_world.specs.PairHeld.{PairEnds, calm, up_reads, IsSecondOf, KnowSession, InPairWorld}
use Rattle.pair_world.proofs.WayLemmas.{asks-are-the-roots, roots-are-usual}
use Rattle.pair_world.proofs.SendLemmas.{asks-may-be-sent}
use Rattle.pair_world.proofs.DeedLemmas.{ask-id, ask-command, ask-alone, ask-of-no-target}
use Rattle.pair_world.proofs.PairNumbers.{pairs-same, numbered-asked}
use Rattle.pair_world.proofs.PairEndLemmas.{pair-sent}

-- ---- an ask of the first front end

pub pair-asked-first : (up0 down0 up down up1 : Pipe) (w : PairRun) (e : PairEnds) (a : AskForm) (there : ℕ)
    → InPairWorld calm up0 down0 up down w (awaited w.up) e → CanSend a → may_ask a ≡ true → w.spent.asks + 1 < 2 ^ 30
    → up1.sent ≡ up.sent ++ framed (command_text (w.spent.asks + 1) a.method a.params None) → up1.given ≡ up.given
    → there ≡ e.up_there + length (framed (command_text (w.spent.asks + 1) a.method a.params None))
    → InPairWorld calm up0 down0 up1 down (sent_up (command_text (w.spent.asks + 1) a.method a.params None) (one_ask_on false) w)
    (awaited (sent_up (command_text (w.spent.asks + 1) a.method a.params None) (one_ask_on false) w).up)
    (record e { fronts = after_asked e.fronts false a.method; up_there = there })
pair-asked-first up0 down0 up down up1 w e a there in_world can may small sent_is given_is left =
    let id = w.spent.asks + 1 in
    let text = command_text id a.method a.params None in
    let ids = ask-id id (omega (arith, small)) in
    let c = ask-command a id ids.0 can (ask-alone a may) in
    let other = ask-of-no-target a may in
    let sent = asks-may-be-sent id a.method a.params w.state.attached c ids.1 other in
    let way = asks-are-the-roots id a.method a.params c other in
    let is : ask_of_frame text ≡ Some (ask_with a.method id) =
    subst (λ session. ask_of_frame (command_text id a.method a.params session) ≡ Some (ask_with a.method id)) (ask-alone a may)
    (ask_in-sent id a can small) in
    let next : e.fronts.pair.one.next ≡ id = in_world.numbered.asks in
    let fold = first-asks up_reads _ w.down.given text a.method e.fronts in_world.fronts_are (record {
      letters = sent.0;
      text = text;
      way = way;
      asks = ap option_to_list is ∙ ap (λ n. ask_with a.method n ∷ []) (sym next);
    }) in
    pair-sent calm up0 down0 up down up1 w e text (one_ask_on false) (after_asked e.fronts false a.method) there in_world sent.0
    (roots-are-usual text text way) sent.1 fold
    (numbered-asked false w.spent e.fronts a.method refl (λ (no : false ≡ true). absurd cc) in_world.numbered) in_world.session refl refl
    refl
    sent_is given_is left

-- ---- bytes that come down, while no attach and no detach is on its way

-- two second front ends have one session
abbrev SameSecond : Option (Second FrontState (List ℕ)) → Option (Second FrontState (List ℕ)) → Type 0
SameSecond None None = ⊤
SameSecond None (Some v) = ⊥
SameSecond (Some w) None = ⊥
SameSecond (Some w) (Some v) = v.text ≡ w.text

same-itself : (two : Option (Second FrontState (List ℕ))) → SameSecond two two
same-itself None = tt
same-itself (Some w) = refl

same-next : (a b c : Option (Second FrontState (List ℕ))) → SameSecond a b → SameSecond b c → SameSecond a c
same-next None None None f g = tt
same-next None None (Some w) f g = g
same-next None (Some v) c f g = absurd f
same-next (Some w) None c f g = absurd f
same-next (Some w) (Some v) None f g = g
same-next (Some w) (Some v) (Some u) f g = g ∙ f

-- nothing waits then either, and the second front end is the same
record IsKept (p q : StatePair) : Type 0 where
  pub waiting : q.waiting ≡ p.waiting
  pub two : SameSecond p.two q.two

frame-keeps : (p q : StatePair) (frame : List ℕ) → p.waiting ≡ [] → take_pair state_reads p frame ≡ Ok q → IsKept p q
frame-keeps p q frame none e = by (frame_down frame) e where
  first : (result : Result FrontState FrontKind) → with_one state_reads result p ≡ Ok q → IsKept p q
  first (Ok t) e =
      subst (IsKept p) (pairs-same (record p { one = t }) q e) (record { waiting = refl; two = same-itself p.two })
  first (Err kind) e = let no : ◌≡◌ {A = Result StatePair FrontKind} (Err kind) (Ok q) = e in absurd cc

  with_second : (w : Second FrontState (List ℕ)) → Some w ≡ p.two → (result : Result FrontState FrontKind)
      → then_ok result (λ v. Ok (record p { two = Some (record { text = w.text; value = v }) })) ≡ Ok q → IsKept p q
  with_second w is (Ok t) e =
      subst (IsKept p) (pairs-same (record p { two = Some (record { text = w.text; value = t }) }) q e)
      (record { waiting = refl; two = subst (λ two. SameSecond two (Some (record { text = w.text; value = t }))) is refl })
  with_second w is (Err kind) e = let no : ◌≡◌ {A = Result StatePair FrontKind} (Err kind) (Ok q) = e in absurd cc

  second : (t text : List ℕ) (two : Option (Second FrontState (List ℕ))) → two ≡ p.two → take_two state_reads t text two p ≡ Ok q
      → IsKept p q
  second t text None is e = let no : ◌≡◌ {A = Result StatePair FrontKind} (Err state_reads.strange) (Ok q) = e in absurd cc
  second t text (Some w) is e =
      (elim (bytes_eq w.text t) as (λ (b : Bool).
      cond b (then_ok (take_whole w.value text) (λ v. Ok (record p { two = Some (record { text = w.text; value = v }) })))
      (Err state_reads.strange) ≡ Ok q → IsKept p q) [
        | true ↦ λ h. with_second w is (take_whole w.value text) h
        | false ↦ λ h. let no : ◌≡◌ {A = Result StatePair FrontKind} (Err state_reads.strange) (Ok q) = h in absurd cc
      ]) e

  target : (id : ℕ) (kind : Option TargetKind) → kind_waiting id [] ≡ kind → take_target state_reads id frame kind p ≡ Ok q → IsKept p q
  target id None is e = let no : ◌≡◌ {A = Result StatePair FrontKind} (Err state_reads.unasked) (Ok q) = e in absurd cc
  target id (Some kind) is e = absurd cc

  by : (d : Down (List ℕ)) → take_down state_reads d frame p ≡ Ok q → IsKept p q
  by (of_session t text) e = second t text p.two refl e
  by (bare None) e = first (take_whole p.one frame) e
  by (bare (Some id)) e =
      (elim (is_target_id id) as (λ (b : Bool).
      cond b (take_target state_reads id frame (kind_waiting id p.waiting) p) (with_one state_reads (take_whole p.one frame) p) ≡ Ok q
      → IsKept p q) [
        | true ↦ λ h. target id (kind_waiting id p.waiting) (ap (kind_waiting id) (sym none)) h
        | false ↦ λ h. first (take_whole p.one frame) h
      ]) e

folded-keeps : (frames : List (List ℕ)) (p : StatePair) (taken : ℕ) → p.waiting ≡ []
    → IsKept p (pair_folded state_reads p taken frames).pair
folded-keeps [] p taken none = record { waiting = refl; two = same-itself p.two }
folded-keeps (frame ∷ frames) p taken none =
    by (take_pair state_reads p frame) refl
    (λ q is. let kept = frame-keeps p q frame none is in
    let later = folded-keeps frames q (taken + 1) (kept.waiting ∙ none) in
    record {
      waiting = later.waiting ∙ kept.waiting;
      two = same-next p.two q.two (pair_folded state_reads q (taken + 1) frames).pair.two kept.two later.two;
    })
  where
    by : (result : Result StatePair FrontKind) → take_pair state_reads p frame ≡ result
        → ((q : StatePair) → take_pair state_reads p frame ≡ Ok q → IsKept p (pair_folded state_reads q (taken + 1) frames).pair)
        → IsKept p (after_down p taken (λ q. pair_folded state_reads q (taken + 1) frames) result).pair
    by (Ok q) is next = next q is
    by (Err kind) is next = record { waiting = refl; two = same-itself p.two }

second-of : (attached : Option ℕ) (a b : Option (Second FrontState (List ℕ))) → IsSecondOf a attached → SameSecond a b
    → IsSecondOf b attached
second-of None None None is same = tt
second-of None None (Some v) is same = absurd same
second-of None (Some w) b is same = absurd is
second-of (Some k) None b is same = absurd is
second-of (Some k) (Some w) None is same = absurd same
second-of (Some k) (Some w) (Some v) is same = same ∙ is

-- the front ends know the same session after bytes that come down
pub session-taken : (s : FrontsState) (bytes : List ℕ) (attached : Option ℕ) → KnowSession calm s.pair attached
    → KnowSession calm (after_taken s bytes).pair attached
session-taken s bytes attached known = by s.fault where
  kept : IsKept s.pair (pair_folded state_reads s.pair s.taken (frames_from s.rest bytes)).pair
  kept = folded-keeps (frames_from s.rest bytes) s.pair s.taken known.0

  by : (fault : Option FrontFault) → KnowSession calm (unless_faulty fault s (after_down_bytes s bytes)).pair attached
  by None = (kept.waiting ∙ known.0, second-of attached s.pair.two _ known.1 kept.two)
  by (Some f) = known
