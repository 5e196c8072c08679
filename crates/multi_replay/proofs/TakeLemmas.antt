-- What code does with a frame is what the fold does.
use Rattle.std.proofs.Common.{◌≡◌, ℕ, ◌==◌, Bool, true, false, cond, ◌&&◌, nat_lt, List, [], ◌∷◌, map, Option, Some, None, refl}
use Rattle.std.proofs.Common.{sym, ◌∙◌, ap, subst, Result, Ok, Err, is_none, is_some, ◌<◌, lt-ltb}
use Rattle.std.specs.Prelude.{option_map}
use Rattle.cdp_json.specs.Lookups.{then_ok}
use Rattle.front_mirror.specs.declared.faults.FrontKind.{FrontKind}
use Rattle.front_mirror.specs.declared.faults.FrontKind.TheVariants.{NotMessage}
use Rattle.front_mirror.specs.Front.{FrontValue, take_frame, FrontState, first_state}
use Rattle.session_runs.specs.Pairs.{TargetKind, TargetOutcome, nothing_done, session_made, session_dropped}
use Rattle.session_runs.specs.Pairs.{WaitingTarget, front_pair, asks_of_session, kind_waiting, without_id, target_done, take_target}
use Rattle.front_mirror.specs.declared.faults.FrameErr.{FrameErr}
use Rattle.front_mirror.specs.declared.faults.FrameErr.TheVariants.{Refused, Memory}
use Rattle.multi_replay.specs.declared.targets.Waiting.{Waiting}
use Rattle.multi_replay.specs.declared.pair.SecondFront.{SecondFront}
use Rattle.multi_replay.specs.Incoming.{target_says}
use Rattle.multi_replay.specs.Folds.{take_whole, waits_more, state_reads}
use Rattle.multi_replay.specs.States.{StatePair, at_rest}
use Rattle.multi_replay.specs.Held.{command_kind, waiting_seen, command_among, without_command, second_seen, AreCounted, Takes, Says}
use Rattle.multi_replay.specs.Held.{UnlessMemory}

-- ---- commands that wait

pub kind-among : (id : ℕ) (ws : List Waiting) → kind_waiting id (map waiting_seen ws) ≡ option_map command_kind (command_among id ws)
kind-among id [] = refl
kind-among id (w ∷ ws) =
    elim (w.id == id) as (λ (b : Bool). cond b (Some (command_kind w.command)) (kind_waiting id (map waiting_seen ws))
    ≡ option_map command_kind (cond b (Some w.command) (command_among id ws))) [
      | true ↦ refl
      | false ↦ kind-among id ws
    ]

pub without-among : (id : ℕ) (ws : List Waiting) → map waiting_seen (without_command id ws) ≡ without_id id (map waiting_seen ws)
without-among id [] = refl
without-among id (w ∷ ws) =
    elim (w.id == id) as (λ (b : Bool). map waiting_seen (cond b ws (w ∷ without_command id ws))
    ≡ cond b (map waiting_seen ws) (waiting_seen w ∷ without_id id (map waiting_seen ws))) [
      | true ↦ refl
      | false ↦ ap (λ xs. waiting_seen w ∷ xs) (without-among id ws)
    ]

-- ---- the second front

kept-by : (s t : FrontState) (result : Result FrontValue FrontKind)
    → then_ok {E = FrontKind} result (λ v. Ok (record (at_rest s) { value = v })) ≡ Ok (at_rest t) → t.fetches ≡ s.fetches
kept-by s t (Ok v) e = let same : record (at_rest s) { value = v } ≡ at_rest t = cc in ap (λ (x : FrontState). x.fetches) (sym same)
kept-by s t (Err kind) e = let no : ◌≡◌ {A = Result FrontState FrontKind} (Err kind) (Ok (at_rest t)) = e in absurd cc

-- a frame leaves the count of fetches as it is
pub counted-kept : {P : Type 0} (o : Option (SecondFront P)) (w : SecondFront P) (t : FrontState) (frame : List ℕ)
    (result : Result (Unit {0}) FrameErr) → o ≡ Some w → AreCounted o
    → Takes (at_rest w.front) (at_rest t) result (take_whole (at_rest w.front) frame) → UnlessMemory result (w.fetches ≡ t.fetches)
counted-kept o w t frame (Ok done) is counted takes =
    let were : AreCounted (Some w) = subst AreCounted is counted in
    were ∙ sym (kept-by w.front t (take_frame w.front.value frame) takes)
counted-kept o w t frame (Err (Refused kind)) is counted takes =
    let were : AreCounted (Some w) = subst AreCounted is counted in were ∙ sym (ap (λ (x : FrontState). x.fetches) takes.1)
counted-kept o w t frame (Err Memory) is counted takes = tt

-- a second front is made where none stands and the number is greater than all before
pub second-made : {P : Type 0} (o : Option (SecondFront P)) (top n : ℕ) (made new : StatePair) → is_some o ≡ false → top < n → made ≡ new
    → cond {A = Result StatePair FrontKind} (is_none (option_map second_seen o) && nat_lt top n) (Ok made) (Err NotMessage) ≡ Ok new
second-made None top n made new none up same =
    ap (λ b. cond {A = Result StatePair FrontKind} b (Ok made) (Err NotMessage)) (lt-ltb top n up) ∙ ap (λ q. Ok q) same
second-made (Some w) top n made new none up same = absurd cc

-- ---- replies to commands

-- no command waits under that id
pub target-none : (p : StatePair) (id : ℕ) (frame : List ℕ) → kind_waiting id p.waiting ≡ None
    → take_target state_reads id frame (kind_waiting id p.waiting) p ≡ Err NotMessage
target-none p id frame none = ap (λ o. take_target state_reads id frame o p) none

-- a result, with these commands that wait
abbrev waiting_then : List WaitingTarget → Result StatePair FrontKind → Result StatePair FrontKind
waiting_then ws result = then_ok result (λ q. Ok (record q { waiting = ws }))

made-waiting : (p : StatePair) (ws : List WaitingTarget) (q : StatePair) (b : Bool)
    → cond {A = Result StatePair FrontKind} b (Ok (record q { waiting = ws })) (Err NotMessage)
    ≡ waiting_then ws (cond {A = Result StatePair FrontKind} b (Ok q) (Err NotMessage))
made-waiting p ws q true = refl
made-waiting p ws q false = refl

-- what is done does not turn on the commands that wait
done-waiting : (o : TargetOutcome (List ℕ)) (p : StatePair) (ws : List WaitingTarget)
    → target_done state_reads o (record p { waiting = ws }) ≡ waiting_then ws (target_done state_reads o p)
done-waiting nothing_done p ws = refl
done-waiting (session_made t n) p ws =
    made-waiting p ws
    (front_pair p.one
    (Some (record { text = t; value = waits_more (first_state []) (asks_of_session state_reads t p.asked) })) p.waiting p.asked n)
    (is_none p.two && nat_lt p.top n)
done-waiting session_dropped p ws = refl

module _ (p : StatePair) (id : ℕ) (frame : List ℕ) (kind : TargetKind) (waits : kind_waiting id p.waiting ≡ Some kind) where
  -- the reply is refused
  pub target-refused : (error : FrameErr) → Says (Err error) (target_says kind frame)
      → Takes p p (Err error) (take_target state_reads id frame (kind_waiting id p.waiting) p)
  target-refused (Refused why) says = (
    ap (λ o. take_target state_reads id frame o p) waits
        ∙ ap (λ said. then_ok said (λ outcome. target_done state_reads outcome (record p { waiting = without_id id p.waiting }))) says,
    refl,
  )
  target-refused Memory says = tt

  -- it says this, of which that comes
  target-comes : (o : TargetOutcome (List ℕ)) (r : Result StatePair FrontKind) → target_says kind frame ≡ Ok o
      → target_done state_reads o p ≡ r
      → take_target state_reads id frame (kind_waiting id p.waiting) p ≡ waiting_then (without_id id p.waiting) r
  target-comes o r says done =
      ap (λ x. take_target state_reads id frame x p) waits
      ∙ ap (λ said. then_ok said (λ outcome. target_done state_reads outcome (record p { waiting = without_id id p.waiting }))) says
      ∙ done-waiting o p (without_id id p.waiting)
      ∙ ap (waiting_then (without_id id p.waiting)) done

  -- what it says is refused
  pub target-undone : (o : TargetOutcome (List ℕ)) (q : StatePair) (error : FrameErr) → target_says kind frame ≡ Ok o
      → Takes p q (Err error) (target_done state_reads o p)
      → Takes p q (Err error) (take_target state_reads id frame (kind_waiting id p.waiting) p)
  target-undone o q (Refused why) says takes = (target-comes o (Err why) says takes.0, takes.1)
  target-undone o q Memory says takes = tt

  -- what it says is done, and the command waits no longer
  pub target-carried : (o : TargetOutcome (List ℕ)) (q : StatePair) (ws : List WaitingTarget) → target_says kind frame ≡ Ok o
      → target_done state_reads o p ≡ Ok q → ws ≡ without_id id p.waiting
      → take_target state_reads id frame (kind_waiting id p.waiting) p ≡ Ok (record q { waiting = ws })
  target-carried o q ws says done left = target-comes o (Ok q) says done ∙ ap (λ xs. Ok (record q { waiting = xs })) (sym left)
