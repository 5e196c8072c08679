-- The commands that attach and detach a session are the next steps of the run, once all has come.
use Rattle.std.proofs.Common.{◌≡◌, ℕ, ◌+◌, ◌<◌, ◌^◌, true, false, length, ◌++◌, Some}
use Rattle.std.proofs.Common.{refl, sym, ◌∙◌, ap, subst, arith}
use Rattle.pipe_frames.specs.Pipe.{Pipe}
use Rattle.pipe_frames.specs.Frames.{framed}
use Rattle.session_mux.specs.Sessions.{session_text}
use Rattle.session_runs.specs.Stream.{awaited}
use Rattle.session_runs.specs.World.{sent_up}
use Rattle.session_runs.specs.Agreement.{IsAtRest}
use Rattle.session_runs.specs.Pairs.{attaches, detaches, attach, detach}
use Rattle.session_runs.specs.PairFit.{MayTarget, next_target}
use Rattle.session_runs.proofs.Frames.{awaited-none}
use Rattle.multi_replay.specs.States.{is_there, attach_text, detach_text, after_target}
use Rattle.multi_replay.proofs.SendLemmas.{both-attach, both-detach}
use Rattle.pair_world.specs.Clients.{pair_reads, client_steps}
use Rattle.pair_world.specs.SessionWays.{frame_way}
use Rattle.pair_world.specs.Shown.{IsSessionNumber}
use Rattle.pair_world.specs.PairRuns as runs
use Rattle.pair_world.specs.PairRuns.{PairRun, one_attach, one_detach}
use Rattle.pair_world.specs.PairHeld.{PairEnds, calm, targeted, up_reads, InPairWorld}
use Rattle.pair_world.proofs.TargetTexts.{target-counted}
use Rattle.pair_world.proofs.WayLemmas.{targets-are-known, targets-are-usual}
use Rattle.pair_world.proofs.SendLemmas.{targets-may-be-sent}
use Rattle.pair_world.proofs.DeedLemmas.{target-id}
use Rattle.pair_world.proofs.PairNumbers.{numbered-attach, numbered-detach}
use Rattle.pair_world.proofs.PairEndLemmas.{pair-sent}
use Rattle.pair_world.proofs.PairKnown.{second-is, none-attached, world-targeted}

-- ---- attach and detach

-- an attach is sent, once all has come and while no second front end stands
pub pair-attached : (up0 down0 up down up1 : Pipe) (w : PairRun) (e : PairEnds) (there : ℕ)
    → InPairWorld calm up0 down0 up down w (awaited w.up) e → IsAtRest w → is_there true e.fronts.pair ≡ false
    → w.spent.targets < 2 ^ 52
    → up1.sent ≡ up.sent ++ framed (attach_text (runs.next_target w.spent)) → up1.given ≡ up.given
    → there ≡ e.up_there + length (framed (attach_text (runs.next_target w.spent)))
    → InPairWorld targeted up0 down0 up1 down (sent_up (attach_text (runs.next_target w.spent)) one_attach w)
    (awaited (sent_up (attach_text (runs.next_target w.spent)) one_attach w).up)
    (record e { fronts = after_target e.fronts attach; up_there = there })
pair-attached up0 down0 up down up1 w e there in_world rest alone small sent_is given_is left =
    let id = runs.next_target w.spent in
    let text = attach_text id in
    let target = target-id w.spent.targets small in
    let counted = target-counted id target in
    let none = none-attached up0 down0 up down w (awaited w.up) e in_world alone in
    let sent = (targets-may-be-sent id 1 target (omega arith, omega arith)).0 in
    let way = (targets-are-known id 1 counted (omega arith, omega arith)).0 in
    let fold = both-attach up_reads _ w.down.given text e.fronts in_world.fronts_are sent.0
    (way ∙ ap attaches (sym in_world.numbered.targets)) in
    pair-sent targeted up0 down0 up down up1 w e text one_attach (after_target e.fronts attach) there
    (world-targeted up0 down0 up down w (awaited w.up) e in_world) sent.0
    (targets-are-usual id 1 counted (omega arith, omega arith)).0
    (next_target (record { id = id; kind = attach }) (awaited-none w.up rest.up.flying rest.up.held)
    (subst (λ o. MayTarget pair_reads client_steps o (frame_way text) (record { id = id; kind = attach })) (sym none) sent.1))
    fold (numbered-attach w.spent e.fronts alone in_world.numbered) tt refl refl refl sent_is given_is left

-- a detach is sent, once all has come and while a session of that number is attached
pub pair-detached : (up0 down0 up down up1 : Pipe) (w : PairRun) (e : PairEnds) (k there : ℕ)
    → InPairWorld calm up0 down0 up down w (awaited w.up) e → IsAtRest w → is_there true e.fronts.pair ≡ true → w.state.attached ≡ Some k
    → w.spent.targets < 2 ^ 52
    → up1.sent ≡ up.sent ++ framed (detach_text (runs.next_target w.spent) (session_text k)) → up1.given ≡ up.given
    → there ≡ e.up_there + length (framed (detach_text (runs.next_target w.spent) (session_text k)))
    → InPairWorld targeted up0 down0 up1 down (sent_up (detach_text (runs.next_target w.spent) (session_text k)) one_detach w)
    (awaited (sent_up (detach_text (runs.next_target w.spent) (session_text k)) one_detach w).up)
    (record e { fronts = after_target e.fronts detach; up_there = there })
pair-detached up0 down0 up down up1 w e k there in_world rest stands attached_is small sent_is given_is left =
    let id = runs.next_target w.spent in
    let text = detach_text id (session_text k) in
    let s = second-is up0 down0 up down w (awaited w.up) e in_world stands in
    let low = subst IsSessionNumber (some-same s.number k (sym s.attached_is ∙ attached_is)) s.is_number in
    let target = target-id w.spent.targets small in
    let counted = target-counted id target in
    let sent = (targets-may-be-sent id k target low).1 in
    let way = (targets-are-known id k counted low).1 in
    let fold = both-detach up_reads _ w.down.given text (session_text k) e.fronts in_world.fronts_are sent.0
    (way ∙ ap (λ n. detaches n (session_text k)) (sym in_world.numbered.targets)) in
    pair-sent targeted up0 down0 up down up1 w e text one_detach (after_target e.fronts detach) there
    (world-targeted up0 down0 up down w (awaited w.up) e in_world) sent.0
    (targets-are-usual id k counted low).1
    (next_target (record { id = id; kind = detach }) (awaited-none w.up rest.up.flying rest.up.held)
    (subst (λ o. MayTarget pair_reads client_steps o (frame_way text) (record { id = id; kind = detach })) (sym attached_is) sent.1))
    fold (numbered-detach w.spent e.fronts in_world.numbered) tt refl refl refl sent_is given_is left
  where
    some-same : (j k : ℕ) → Some j ≡ Some k → j ≡ k
    some-same j k e = cc
