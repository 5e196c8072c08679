-- The laws of two clients of one page: their states are kept by each step, and each goes on by its own state and by what comes to it.
use Rattle.std.proofs.Common.{◌≡◌, ◌≢◌, ℕ, Bool, List, [], ◌∷◌, ◌++◌, Option, Some, None, Result, refl, sym, ap, subst}
use Rattle.std.proofs.Common.{◌∙◌, inl, inr, append-nil, append_assoc}
use Rattle.cdp_messages.specs.declared.command.Asked.{Asked}
use Rattle.cdp_messages.specs.declared.command.Refused.{Refused}
use Rattle.cdp_messages.specs.Asked.{asked}
use Rattle.cdp_messages.specs.SessionFrames.{session_asked}
use Rattle.cdp_messages.specs.Replies.{Message, message_frames}
use Rattle.client_views.specs.Moves.{Move, frames_of_moves}
use Rattle.session_mux.specs.declared.router.Routed.{Routed}
use Rattle.session_mux.specs.declared.router.Routed.TheVariants.{Root, Attached, Answered}
use Rattle.session_mux.specs.Routes.{routing}
use Rattle.session_mux.proofs.RouteLemmas.{attached-by-name, others-left, numbers-go-on}
use Rattle.back_end.specs.States.{Side, Client, State, IsState, new_client}
use Rattle.back_end.specs.Steps.{Step, asked_step, Turn, turn_step}
use Rattle.back_end.specs.Outside.{asked_outward, outside_step}
use Rattle.back_end.specs.Laws.{IsTurn}
use Rattle.back_end.specs.Pairs.{Pair, root_state, second_state, second_client, IsPair, PairHasRoom, attached_frames, root_done}
use Rattle.back_end.specs.Pairs.{root_step, attached_step, answered_step, routed_step, pair_turn}
use Rattle.back_end.specs.PairLaws.{StartIsPair, Incoming, arrives, happens, incoming_step, StepsKeepPairs, Coming, coming_step}
use Rattle.back_end.specs.PairLaws.{coming_steps, frame_to_root, frame_to_second, to_root, to_second, second_moves}
use Rattle.back_end.specs.PairLaws.{AreBoth, EachGoesAlone, StaysAttached, all_to_second, SessionsAreToldAlone}
use Rattle.back_end.specs.PairLaws.{SessionsBeginAnew, EqualSessionsAreToldAlike, root_moves, all_to_root}
use Rattle.back_end.specs.PairLaws.{RootsAreToldAlone, EqualRootsAreToldAlike}
use Rattle.back_end.proofs.AskedLemmas.{AskedFits, frame-fits, session-fits}
use Rattle.back_end.proofs.OwnTexts.{AskedTexts, frame-texts, session-texts}
use Rattle.back_end.proofs.FrameLemmas.{asked-steps-well}
use Rattle.back_end.proofs.StepLemmas.{turn-steps-well}
use Rattle.back_end.proofs.OutsideSteps.{asked-outside, turn-sides}
use Rattle.back_end.proofs.PairLemmas.{fresh-state}
use Rattle.back_end.proofs.UnheardSteps.{heard-step}
use Rattle.back_end.proofs.StartLemmas.{IsState-first}

-- ---- states that can be

pub start-is-pair : StartIsPair
start-is-pair page can texts = record {
  root = IsState-first page can texts;
  second = IsState-first page can texts;
  fresh = λ none. refl;
  numbers = tt;
}

-- the second client at the side of the root's, or one that has asked for nothing
second-is : (attached : Option ℕ) (first other : State) → IsState first → IsState other → other.side ≡ first.side
    → IsState (record { side = first.side; client = second_client attached other.client })
second-is None first other is is2 same = fresh-state first is
second-is (Some session) first other is is2 same =
    subst (λ (side : Side). IsState (record { side = side; client = other.client })) same is2

root-done-is : (p : Pair) (own other : Step) → IsPair p → IsState own.state → IsState other.state → other.state.side ≡ own.state.side
    → IsPair (root_done own other p)
root-done-is p own other is one two same = record {
  root = one;
  second = second-is p.sessions.attached own.state other.state one two same;
  fresh = λ none. ap (λ (o : Option ℕ). second_client o other.state.client) none;
  numbers = is.numbers;
}

root-is : (r : Result Asked Refused) (p : Pair) → AskedFits r → AskedTexts r → IsPair p → PairHasRoom p → IsPair (root_step r p).state
root-is r p fits texts is room =
    let own = asked-steps-well r (root_state p) fits texts is.root room.root in
    let other = asked-outside r (root_state p) (second_state p) texts is.root room.root is.second room.second refl in
    root-done-is p (asked_step r (root_state p)) (outside_step (asked_outward r (root_state p)) (second_state p)) is own.0.is_state
    other.is_state other.side_is

attached-is : (r : Result Asked Refused) (p : Pair) (session : ℕ) → p.sessions.attached ≡ Some session → AskedFits r → AskedTexts r
    → IsPair p → PairHasRoom p → IsPair (attached_step r p).state
attached-is r p session attached fits texts is room =
    let own = asked-steps-well r (second_state p) fits texts is.second room.second in
    let other = asked-outside r (second_state p) (root_state p) texts is.second room.second is.root room.root refl in
    let done = outside_step (asked_outward r (second_state p)) (root_state p) in
    record {
      root = subst (λ (side : Side). IsState (record { side = side; client = done.state.client })) other.side_is other.is_state;
      second = own.0.is_state;
      fresh = λ none. let no : ◌≡◌ {A = Option ℕ} (Some session) None = sym attached ∙ none in absurd cc;
      numbers = is.numbers;
    }

answered-is : (own : Bool) (frame : List ℕ) (p : Pair) → IsPair p → IsPair (answered_step (routing frame p.sessions) p).state
answered-is own frame p is =
    let after = (routing frame p.sessions).sessions in
    record {
      root = is.root;
      second = second-is after.attached (root_state p) (second_state p) is.root is.second refl;
      fresh = λ none. ap (λ (o : Option ℕ). second_client o p.second) none;
      numbers = (numbers-go-on frame p.sessions is.numbers).0;
    }

-- the attached session's frames come while it is attached
pub attached-there : (frame : List ℕ) (p : Pair) → (routing frame p.sessions).routed ≡ Attached
    → (session : ℕ) × (p.sessions.attached ≡ Some session)
attached-there frame p is = let by = (attached-by-name frame p.sessions).0 is in (by.number, by.attached)

frame-is : (routed : Routed) (own : Bool) (frame : List ℕ) (p : Pair) → (routing frame p.sessions).routed ≡ routed → IsPair p
    → PairHasRoom p → IsPair (routed_step routed own frame p).state
frame-is Root own frame p routed is room = root-is (asked frame own) p (frame-fits own frame) (frame-texts own frame) is room
frame-is Attached own frame p routed is room =
    let there = attached-there frame p routed in
    attached-is (session_asked frame) p there.0 there.1 (session-fits frame) (session-texts frame) is room
frame-is Answered own frame p routed is room = answered-is own frame p is

turn-is : (x : Turn) (p : Pair) → IsTurn x → IsPair p → PairHasRoom p → IsPair (pair_turn x p).state
turn-is x p can is room =
    let one = turn-steps-well (root_state p) x is.root room.root can in
    let two = turn-steps-well (second_state p) x is.second room.second can in
    root-done-is p (turn_step x (root_state p)) (turn_step x (second_state p)) is one.0.is_state two.0.is_state
    (turn-sides x (root_state p) (second_state p) refl)

pub steps-keep-pairs : StepsKeepPairs
steps-keep-pairs (arrives own frame) p can is room = frame-is (routing frame p.sessions).routed own frame p refl is room
steps-keep-pairs (happens x) p can is room = turn-is x p can is room

-- ---- each goes alone

-- while the session is attached, its client is the second
second-same : (attached : Option ℕ) (session : ℕ) (side : Side) (other : State) → attached ≡ Some session → other.side ≡ side
    → ◌≡◌ {A = State} (record { side = side; client = second_client attached other.client }) other
second-same attached session side other is same =
    ap (λ (o : Option ℕ). record { side = side; client = second_client o other.client }) is
    ∙ ap (λ (s : Side). record { side = s; client = other.client }) (sym same)

-- a frame that is left to one of both is not answered at once
left-unsaid : (frame : List ℕ) (p : Pair) → (routing frame p.sessions).routed ≢ Answered → (routing frame p.sessions).said ≡ []
left-unsaid frame p left = (others-left frame p.sessions left).0

frame-root : (routed : Routed) (own : Bool) (frame : List ℕ) (p : Pair) → IsPair p → PairHasRoom p
    → root_state (routed_step routed own frame p).state ≡ (coming_steps (frame_to_root routed own frame p) (root_state p)).state
frame-root Root own frame p is room = refl
frame-root Attached own frame p is room =
    let r = session_asked frame in
    let other = outside_step (asked_outward r (second_state p)) (root_state p) in
    let out = asked-outside r (second_state p) (root_state p) (session-texts frame) is.second room.second is.root room.root refl in
    ap (λ (side : Side). record { side = side; client = other.state.client }) (sym out.side_is)
    ∙ sym (ap (λ (done : Step). done.state) (heard-step r (second_state p) (root_state p) refl))
frame-root Answered own frame p is room = refl

frame-second : (routed : Routed) (own : Bool) (frame : List ℕ) (p : Pair) → IsPair p → PairHasRoom p
    → (session : ℕ) → (routed_step routed own frame p).state.sessions.attached ≡ Some session
    → second_state (routed_step routed own frame p).state ≡ (coming_steps (frame_to_second routed own frame p) (second_state p)).state
frame-second Root own frame p is room session attached =
    let r = asked frame own in
    let other = outside_step (asked_outward r (root_state p)) (second_state p) in
    let out = asked-outside r (root_state p) (second_state p) (frame-texts own frame) is.root room.root is.second room.second refl in
    second-same p.sessions.attached session (asked_step r (root_state p)).state.side other.state attached out.side_is
    ∙ sym (ap (λ (done : Step). done.state) (heard-step r (root_state p) (second_state p) refl))
frame-second Attached own frame p is room session attached = refl
frame-second Answered own frame p is room session attached =
    second-same (routing frame p.sessions).sessions.attached session p.side (second_state p) attached refl

-- what is sent of one step, and of all of it
sent-one : (ms : List Move) → frames_of_moves ms ≡ frames_of_moves (ms ++ [])
sent-one ms = ap frames_of_moves (sym (append-nil ms))

attached-one : (attached : Option ℕ) (ms : List Move) → attached_frames attached ms ≡ attached_frames attached (ms ++ [])
attached-one attached ms = ap (attached_frames attached) (sym (append-nil ms))

none-sent : (attached : Option ℕ) → attached_frames attached [] ≡ []
none-sent None = refl
none-sent (Some session) = refl

-- nothing is said at once
said-none : (said : List Message) (bytes : List ℕ) → said ≡ [] → bytes ≡ message_frames said ++ bytes
said-none said bytes none = ap (λ (ms : List Message). message_frames ms ++ bytes) (sym none)

frame-sent : (routed : Routed) (own : Bool) (frame : List ℕ) (p : Pair) → (routing frame p.sessions).routed ≡ routed
    → AreBoth (routed_step routed own frame p).sent
    (message_frames (routing frame p.sessions).said
    ++ frames_of_moves (coming_steps (frame_to_root routed own frame p) (root_state p)).moves)
    (attached_frames p.sessions.attached (coming_steps (frame_to_second routed own frame p) (second_state p)).moves)
frame-sent Root own frame p routed =
    let r = asked frame own in
    let mine = asked_step r (root_state p) in
    let other = outside_step (asked_outward r (root_state p)) (second_state p) in
    let said = left-unsaid frame p (λ e. let no : ◌≡◌ {A = Routed} Root Answered = sym routed ∙ e in absurd cc) in
    let attached = attached_frames p.sessions.attached in
    let heard = heard-step r (root_state p) (second_state p) refl in
    inr (ap (λ (bs : List ℕ). bs ++ frames_of_moves mine.moves)
    (attached-one p.sessions.attached other.moves ∙ sym (ap (λ (done : Step). attached done.moves) heard))
    ∙ ap (λ (bs : List ℕ). attached (coming_steps (frame_to_second Root own frame p) (second_state p)).moves ++ bs)
    (sent-one mine.moves ∙ said-none (routing frame p.sessions).said (frames_of_moves (mine.moves ++ [])) said))
frame-sent Attached own frame p routed =
    let r = session_asked frame in
    let mine = asked_step r (second_state p) in
    let other = outside_step (asked_outward r (second_state p)) (root_state p) in
    let said = left-unsaid frame p (λ e. let no : ◌≡◌ {A = Routed} Attached Answered = sym routed ∙ e in absurd cc) in
    let heard = heard-step r (second_state p) (root_state p) refl in
    let told = (coming_steps (frame_to_root Attached own frame p) (root_state p)).moves in
    inl (ap (λ (bs : List ℕ). bs ++ attached_frames p.sessions.attached mine.moves)
    (sent-one other.moves ∙ sym (ap (λ (done : Step). frames_of_moves done.moves) heard)
    ∙ said-none (routing frame p.sessions).said (frames_of_moves told) said)
    ∙ ap (λ (bs : List ℕ). (message_frames (routing frame p.sessions).said ++ frames_of_moves told) ++ bs)
    (attached-one p.sessions.attached mine.moves))
frame-sent Answered own frame p routed =
    let said = message_frames (routing frame p.sessions).said in
    inl (sym (ap (λ (bs : List ℕ). (said ++ []) ++ bs) (none-sent p.sessions.attached) ∙ append-nil (said ++ []) ∙ append-nil said))

pub each-goes-alone : EachGoesAlone
each-goes-alone (arrives own frame) p can is room = record {
  root = frame-root (routing frame p.sessions).routed own frame p is room;
  second = frame-second (routing frame p.sessions).routed own frame p is room;
  sent = frame-sent (routing frame p.sessions).routed own frame p refl;
}
each-goes-alone (happens x) p can is room =
    let one = turn_step x (root_state p) in
    let two = turn_step x (second_state p) in
    record {
      root = refl;
      second = λ session attached.
          second-same p.sessions.attached session one.state.side two.state attached (turn-sides x (root_state p) (second_state p) refl);
      sent = inl (ap (λ (bs : List ℕ). bs ++ attached_frames p.sessions.attached two.moves) (sent-one one.moves)
          ∙ ap (λ (bs : List ℕ). frames_of_moves (one.moves ++ []) ++ bs) (attached-one p.sessions.attached two.moves));
    }

-- ---- from a session's beginning

-- a frame that attaches a session is answered at once
begins : (routed : Routed) (own : Bool) (frame : List ℕ) (p : Pair) (session : ℕ) → IsPair p → p.sessions.attached ≡ None
    → (routed_step routed own frame p).state.sessions.attached ≡ Some session
    → second_state (routed_step routed own frame p).state ≡ record { side = p.side; client = new_client }
begins Root own frame p session is none attached =
    let no : ◌≡◌ {A = Option ℕ} None (Some session) = sym none ∙ attached in absurd cc
begins Attached own frame p session is none attached =
    let no : ◌≡◌ {A = Option ℕ} None (Some session) = sym none ∙ attached in absurd cc
begins Answered own frame p session is none attached =
    second-same (routing frame p.sessions).sessions.attached session p.side (second_state p) attached refl
    ∙ ap (λ (c : Client). record { side = p.side; client = c }) (is.fresh none)

pub sessions-begin-anew : SessionsBeginAnew
sessions-begin-anew own frame p session is none attached =
    begins (routing frame p.sessions).routed own frame p session is none attached

coming-append : (cs ds : List Coming) (state : State)
    → (coming_steps (cs ++ ds) state).moves ≡ (coming_steps cs state).moves ++ (coming_steps ds (coming_steps cs state).state).moves
coming-append [] ds state = refl
coming-append (c ∷ cs) ds state =
    let first = coming_step c state in
    ap (λ (ms : List Move). first.moves ++ ms) (coming-append cs ds first.state)
    ∙ sym (append_assoc first.moves (coming_steps cs first.state).moves (coming_steps ds (coming_steps cs first.state).state).moves)

-- it is attached at the beginning
stays-now : (session : ℕ) (is : List Incoming) (p : Pair) → StaysAttached session is p → p.sessions.attached ≡ Some session
stays-now session [] p stays = stays
stays-now session (i ∷ is) p stays = stays.0

pub sessions-are-told-alone : SessionsAreToldAlone
sessions-are-told-alone session [] p pair stays = refl
sessions-are-told-alone session (i ∷ is) p pair stays =
    let after = (incoming_step i p).state in
    let alone = each-goes-alone i p stays.1 pair stays.2 in
    let later = sessions-are-told-alone session is after (steps-keep-pairs i p stays.1 pair stays.2) stays.3 in
    ap (λ (ms : List Move). second_moves i p ++ ms)
    (later ∙ ap (λ (s : State). (coming_steps (all_to_second is after) s).moves)
    (alone.second session (stays-now session is after stays.3)))
    ∙ sym (coming-append (to_second i p) (all_to_second is after) (second_state p))

pub equal-sessions-are-told-alike : EqualSessionsAreToldAlike
equal-sessions-are-told-alike one two is js p q pair stays pair2 stays2 begin come =
    sessions-are-told-alone one is p pair stays
    ∙ ap (λ (s : State). (coming_steps (all_to_second is p) s).moves) begin
    ∙ ap (λ (cs : List Coming). (coming_steps cs (second_state q)).moves) come
    ∙ sym (sessions-are-told-alone two js q pair2 stays2)

-- ---- the root

pub roots-are-told-alone : RootsAreToldAlone
roots-are-told-alone [] p pair come = refl
roots-are-told-alone (i ∷ is) p pair come =
    let after = (incoming_step i p).state in
    let later = roots-are-told-alone is after (steps-keep-pairs i p come.0 pair come.1) come.2 in
    ap (λ (ms : List Move). root_moves i p ++ ms)
    (later ∙ ap (λ (s : State). (coming_steps (all_to_root is after) s).moves) (each-goes-alone i p come.0 pair come.1).root)
    ∙ sym (coming-append (to_root i p) (all_to_root is after) (root_state p))

pub equal-roots-are-told-alike : EqualRootsAreToldAlike
equal-roots-are-told-alike is js p q pair come pair2 come2 begin same =
    roots-are-told-alone is p pair come
    ∙ ap (λ (s : State). (coming_steps (all_to_root is p) s).moves) begin
    ∙ ap (λ (cs : List Coming). (coming_steps cs (root_state q)).moves) same
    ∙ sym (roots-are-told-alone js q pair2 come2)
