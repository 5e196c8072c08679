-- The step of two clients by texts is that by messages.
use Rattle.std.proofs.Common.{◌≡◌, ℕ, List, ◌++◌, false, Option, Some, None, Result, refl, sym, ap, subst, ◌∙◌}
use Rattle.cdp_messages.specs.declared.command.Asked.{Asked}
use Rattle.cdp_messages.specs.declared.command.Refused.{Refused}
use Rattle.cdp_messages.specs.Asked.{json_of, asked}
use Rattle.cdp_messages.specs.SessionFrames.{session_asked}
use Rattle.client_views.specs.Views.{View}
use Rattle.client_views.specs.Moves.{Move, Course, frames_of_moves}
use Rattle.session_mux.specs.declared.router.Routed.{Routed}
use Rattle.session_mux.specs.declared.router.Routed.TheVariants.{Root, Attached, Answered}
use Rattle.session_mux.specs.Sessions.{Sessions}
use Rattle.session_mux.specs.Routes.{routing}
use Rattle.session_mux.proofs.RouteLemmas.{attached-by-name}
use Rattle.back_end.specs.States.{Side, Client, view_of, new_client}
use Rattle.back_end.specs.Steps.{asked_step, turn_step}
use Rattle.back_end.specs.Outside.{asked_outward, outside_step}
use Rattle.back_end.specs.Pairs as clients
use Rattle.back_end.specs.Pairs.{Pair, root_state, second_state, IsPair, PairHasRoom, attached_frames, attached_step, answered_step}
use Rattle.back_end.specs.Pairs.{routed_step}
use Rattle.back_end.proofs.OwnTexts.{frame-texts}
use Rattle.back_end.proofs.FrameLemmas.{frame-steps-well}
use Rattle.back_end.proofs.StepLemmas.{turn-steps-well}
use Rattle.back_end.proofs.OutsideSteps.{asked-outside}
use Rattle.session_runs.specs.World.{Stepped}
use Rattle.session_runs.specs.Pairs.{second_sent, second_client, root_step, second_step, pair_step}
use Rattle.pair_world.specs.SessionWays.{text_without_session}
use Rattle.pair_world.specs.Clients.{pair_reads, RunClient, client_steps}
use Rattle.pair_world.specs.FrameLaws.{sessions_of, IsUsual, second_after, AnswersAtOnce, StepsBy}
use Rattle.pair_world.specs.PairFits.{PageSessions}
use Rattle.pair_world.specs.SameSteps.{clients_of, AreSame, StartsAreSame, FrameStepsAreSame, TurnsAreSame}
use Rattle.pair_world.proofs.WayLemmas.{sessions-are-tagged, steps-are-routed}

pub starts-are-same : StartsAreSame
starts-are-same page = refl

-- ---- what the second client is, and what it is sent

second-same : (attached : Option ℕ) (c : RunClient)
    → (second_client pair_reads client_steps attached c).client ≡ clients.second_client attached c.client
second-same None c = refl
second-same (Some k) c = refl

sent-same : (attached : Option ℕ) (ms : List Move) (u w : View) → Course ms u w
    → second_sent pair_reads client_steps attached (frames_of_moves ms) ≡ attached_frames attached ms
sent-same None ms u w course = refl
sent-same (Some k) ms u w course = sessions-are-tagged k ms u w course

-- two clients of equal parts
parts-same : {side side1 : Side} {root root1 second second1 : Client} {sessions sessions1 : Sessions} → side ≡ side1 → root ≡ root1
    → second ≡ second1 → sessions ≡ sessions1
    → ◌≡◌ {A = Pair} (record { side = side; root = root; second = second; sessions = sessions })
    (record { side = side1; root = root1; second = second1; sessions = sessions1 })
parts-same a b c d = λ i. record { side = a i; root = b i; second = c i; sessions = d i }

-- ---- a frame of the root

root-same : (frame : List ℕ) (s : PageSessions) → IsPair (clients_of s) → PairHasRoom (clients_of s)
    → AreSame (root_step pair_reads client_steps frame s) (clients.root_step (asked frame false) (clients_of s))
root-same frame s is room =
    let p = clients_of s in
    let r = asked frame false in
    let own = asked_step r (root_state p) in
    let other = outside_step (asked_outward r (root_state p)) (second_state p) in
    let out = asked-outside r (root_state p) (second_state p) (frame-texts false frame) is.root room.root is.second room.second refl in
    record {
      state = parts-same refl refl (second-same s.attached (record { client = other.state.client; styles = s.second.styles })) refl;
      sent = ap (λ (bs : List ℕ). bs ++ frames_of_moves own.moves)
          (sent-same s.attached other.moves (view_of (second_state p)) (view_of other.state) out.course);
    }

-- ---- a frame of the attached session

session-same : (k : ℕ) (text : List ℕ) (s : PageSessions) → s.attached ≡ Some k → IsPair (clients_of s) → PairHasRoom (clients_of s)
    → AreSame (second_step pair_reads client_steps k text s) (attached_step (asked text false) (clients_of s))
session-same k text s attached is room =
    let p = clients_of s in
    let r = asked text false in
    let own = asked_step r (second_state p) in
    let other = outside_step (asked_outward r (second_state p)) (root_state p) in
    let well = (frame-steps-well false (second_state p) text is.second room.second).0 in
    record {
      state = refl;
      sent = ap (λ (bs : List ℕ). frames_of_moves other.moves ++ bs)
          (sent-same (Some k) own.moves (view_of (second_state p)) (view_of own.state) well.course
          ∙ ap (λ (o : Option ℕ). attached_frames o own.moves) (sym attached));
    }

-- without its session it asks the same
asks-same : (frame : List ℕ) (s : Sessions) → IsUsual frame → (routing frame s).routed ≡ Attached
    → asked (text_without_session (json_of frame)) false ≡ session_asked frame
asks-same frame s usual routed =
    let by = (attached-by-name frame s).0 routed in
    usual.same_ask by.request by.is (λ missing. let no = sym by.names ∙ missing in absurd cc)

-- ---- a frame that is answered at once

second-at-once : (before after : Option ℕ) (c : RunClient) → (before ≡ None → c.client ≡ new_client)
    → (second_after before after c).client ≡ clients.second_client after c.client
second-at-once None None c fresh = fresh refl
second-at-once None (Some k) c fresh = sym (fresh refl)
second-at-once (Some k) None c fresh = refl
second-at-once (Some k) (Some j) c fresh = refl

answered-same : (frame : List ℕ) (s : PageSessions) (done : Stepped PageSessions) → IsPair (clients_of s)
    → AnswersAtOnce s done (routing frame (sessions_of s)) → sessions_of done.state ≡ (routing frame (sessions_of s)).sessions
    → AreSame done (answered_step (routing frame (sessions_of s)) (clients_of s))
answered-same frame s done is at_once sessions = record {
  state = parts-same at_once.side (ap (λ (c : RunClient). c.client) at_once.root)
      (ap (λ (c : RunClient). c.client) at_once.second
      ∙ second-at-once s.attached (routing frame (sessions_of s)).sessions.attached s.second is.fresh) sessions;
  sent = at_once.sent;
}

-- ---- any frame

step-same : (routed : Routed) (frame : List ℕ) (s : PageSessions) (done : Stepped PageSessions)
    → (routing frame (sessions_of s)).routed ≡ routed → StepsBy routed frame s done (routing frame (sessions_of s))
    → sessions_of done.state ≡ (routing frame (sessions_of s)).sessions → IsUsual frame → IsPair (clients_of s)
    → PairHasRoom (clients_of s) → AreSame done (routed_step routed false frame (clients_of s))
step-same Root frame s done routed by sessions usual is room =
    subst (λ (x : Stepped PageSessions). AreSame x (clients.root_step (asked frame false) (clients_of s))) (sym by)
    (root-same frame s is room)
step-same Attached frame s done routed by sessions usual is room =
    let text = text_without_session (json_of frame) in
    subst (λ (x : Stepped PageSessions). AreSame x (attached_step (session_asked frame) (clients_of s))) (sym by.2)
    (subst (λ (r : Result Asked Refused). AreSame (second_step pair_reads client_steps by.0 text s) (attached_step r (clients_of s)))
    (asks-same frame (sessions_of s) usual routed) (session-same by.0 text s by.1 is room))
step-same Answered frame s done routed by sessions usual is room = answered-same frame s done is by sessions

pub frame-steps-are-same : FrameStepsAreSame
frame-steps-are-same frame s usual is room =
    let by = steps-are-routed frame s usual in
    step-same (routing frame (sessions_of s)).routed frame s (pair_step pair_reads client_steps s frame) refl by.0 by.1 usual is room

-- ---- a script

pub turns-are-same : TurnsAreSame
turns-are-same x s turn is room =
    let p = clients_of s in
    let own = turn_step x (root_state p) in
    let other = turn_step x (second_state p) in
    let well = (turn-steps-well (second_state p) x is.second room.second turn).0 in
    record {
      state = parts-same refl refl (second-same s.attached (record { client = other.state.client; styles = s.second.styles })) refl;
      sent = ap (λ (bs : List ℕ). frames_of_moves own.moves ++ bs)
          (sent-same s.attached other.moves (view_of (second_state p)) (view_of other.state) well.course);
    }
