-- Two seats stand for two clients of one page after each step of both.
use Rattle.std.proofs.Common.{◌≡◌, ◌≢◌, ℕ, ◌+◌, ◌*◌, ◌^◌, ◌<◌, ◌≤◌, Bool, List, [], ◌∷◌, ◌++◌, map, Option, Some, None, refl, sym, ap}
use Rattle.std.proofs.Common.{subst, ◌∙◌, arith, append-nil, append_assoc}
use Rattle.std.specs.Prelude.{All, IfSome, IfOk, OnOk, Result, Ok, Err}
use Rattle.std.proofs.Math.Logic.{∥∥₁_map}
use Rattle.std.proofs.lemmas.List.Elements.{All-nil, All-cons}
use Rattle.node_binding.specs.Bindings.{BindingValue, Stands}
use Rattle.node_binding.specs.Sessions.{begun}
use Rattle.node_binding.proofs.SessionLemmas.{IsSession-begun}
use Rattle.node_binding.proofs.StandsLemmas.{Stands-begun}
use Rattle.pipe_frames.specs.Frames.{IsText, framed}
use Rattle.cdp_messages.specs.declared.command.Asked.{Asked}
use Rattle.cdp_messages.specs.declared.command.ReadErr.{ReadErr}
use Rattle.cdp_messages.specs.declared.command.Refused.{Refused}
use Rattle.cdp_messages.specs.Answers.{ReadsAsked}
use Rattle.cdp_messages.specs.Asked.{asked}
use Rattle.cdp_messages.specs.SessionFrames.{session_asked}
use Rattle.cdp_messages.specs.Replies.{Message, message_text, message_frames}
use Rattle.client_views.specs.Views.{View}
use Rattle.client_views.specs.Moves.{Move, message_of, move_text, frames_of_moves, Course}
use Rattle.client_views.proofs.MoveTexts.{AreTexts, course-texts}
use Rattle.session_mux.specs.declared.router.Routed.{Routed}
use Rattle.session_mux.specs.declared.router.Routed.TheVariants.{Root, Attached, Answered}
use Rattle.session_mux.specs.Sessions.{Sessions}
use Rattle.session_mux.specs.Tags.{AreMessages, session_frames}
use Rattle.session_mux.specs.Routes.{routing}
use Rattle.session_mux.proofs.RouteLemmas.{others-left}
use Rattle.back_end.specs.States.{Side, Client, State, HoldsNow, IsState, new_client, nodes_shown, view_of}
use Rattle.back_end.specs.Steps.{Step, asked_step, Turn, turn_step}
use Rattle.back_end.specs.Laws.{IsTurn}
use Rattle.back_end.specs.Texts.{HasServedTexts}
use Rattle.back_end.specs.Outside.{Outward, asked_outward, outside_step, IsOutside}
use Rattle.back_end.specs.Seats.{StandsFor, HasRoomLeft}
use Rattle.back_end.specs.Guests.{GuestStands, Hears, CanHear, heard_step}
use Rattle.back_end.specs.Pairs.{Pair, root_state, second_state, second_client, root_done, attached_done, sent_to, attached_frames}
use Rattle.back_end.specs.Pairs.{answered_step, routed_step, pair_step, PairHasRoom}
use Rattle.back_end.specs.PairSeats.{PairHasRoomLeft, SeatsStandFor, PairStandsFor, PairsHaveRoomLeft, NewPairsStand, IsUnused}
use Rattle.back_end.specs.PairSeats.{IsGuestAt, IsGuestOf, seat_again, WasToldOf, IsRenewed}
use Rattle.back_end.specs.declared.guest.Guest.{Guest}
use Rattle.back_end.specs.declared.mux.Mux.{Mux}
use Rattle.back_end.specs.declared.seat.Seat.{Seat}
use Rattle.back_end.specs.declared.side.PageSide.{PageSide}
use Rattle.back_end.proofs.OwnTexts.{AskedTexts, frame-texts, session-texts}
use Rattle.back_end.proofs.AskedLemmas.{session-fits}
use Rattle.back_end.proofs.FrameLemmas.{asked-steps-well}
use Rattle.back_end.proofs.OutsideSteps.{asked-outside}
use Rattle.back_end.proofs.HeardLemmas.{outside-is-heard}
use Rattle.back_end.proofs.StepLemmas.{turn-steps-well}
use Rattle.back_end.proofs.SeatRoom.{has-room-left, room-of, seated-state}
use Rattle.back_end.proofs.StartLemmas.{stands-first}
use Rattle.back_end.proofs.WatchedLemmas.{none-set}

-- ---- a client that has asked for nothing

-- another client of the same page may be one that has asked for nothing
fresh-holds : (state : State) → HoldsNow state → HoldsNow (record { side = state.side; client = new_client })
fresh-holds state is = record {
  page = is.page;
  texts = is.texts;
  sheets = is.sheets;
  session = IsSession-begun (nodes_shown (record { side = state.side; client = new_client }));
  off = λ off. refl;
  css_off = λ off. refl;
  all_shown = λ off. refl;
  watched = λ kind serial here. none-set kind serial here;
  none_watched = λ none. refl;
}

pub fresh-state : (state : State) → IsState state → IsState (record { side = state.side; client = new_client })
fresh-state state is = record {
  now = fresh-holds state is.now;
  history = record { past = tt; future = tt; going = λ going. absurd cc };
}

-- and a new seat stands for it
pub fresh-stands : (seat unused : Seat) (side : PageSide) (state : State) → StandsFor seat side state → IsUnused unused
    → StandsFor unused side (record { side = state.side; client = new_client })
fresh-stands seat unused side state both new =
    let fresh : State = record { side = state.side; client = new_client } in
    let stands = both.stands in
    record {
      stands = record {
        now = fresh-holds state stands.now;
        page_is = stands.page_is;
        sheets_are = stands.sheets_are;
        next_is = stands.next_is;
        medium_is = stands.medium_is;
        on_is = new.off;
        css_is = new.css;
        mode_is = ap (λ (b : BindingValue). b.mode) new.agent_is;
        watches_are = new.watches_are;
        searches_are = new.searches_are;
        stands = subst (λ (b : BindingValue). Stands (nodes_shown fresh) begun b) (sym new.agent_is) (Stands-begun (nodes_shown fresh));
      };
      kept = record { edits = new.history_is; history = record { past = tt; future = tt; going = λ going. absurd cc } };
    }

-- ---- one side for both

-- what was an outside step of the other client stands at the side of the first
beside : (seat : Seat) (side : PageSide) (first : Side) (other : Step) → other.state.side ≡ first → StandsFor seat side other.state
    → StandsFor seat side (record { side = first; client = other.state.client })
beside seat side first other same stands =
    subst (λ (x : Side). StandsFor seat side (record { side = x; client = other.state.client })) same stands

-- ---- the second client as a guest of the root

-- its seat after what the guest heard, or the new one in its place, stands for what the step was for it
pub again-stands : (attached : Option ℕ) (seat root unused : Seat) (before after : PageSide) (old new : Option Guest) (first other : State)
    (done : Step) → IsGuestOf attached seat old → IsUnused unused → StandsFor seat before other
    → (GuestStands old before other → Hears old new after done) → StandsFor root after first → done.state.side ≡ first.side
    → StandsFor (seat_again new unused) after (record { side = first.side; client = second_client attached done.state.client })
again-stands None seat root unused before after None None first other done of unused_is stands told here same =
    fresh-stands root unused after first here unused_is
again-stands None seat root unused before after None (Some h) first other done of unused_is stands told here same = absurd (told tt)
again-stands None seat root unused before after (Some g) new first other done of unused_is stands told here same =
    let no : ◌≡◌ {A = Option Guest} (Some g) None = of in absurd cc
again-stands (Some session) seat root unused before after None new first other done of unused_is stands told here same = absurd of
again-stands (Some session) seat root unused before after (Some g) None first other done of unused_is stands told here same =
    absurd (told (subst (λ (s : Seat). StandsFor s before other) (sym of.0) stands))
again-stands (Some session) seat root unused before after (Some g) (Some h) first other done of unused_is stands told here same =
    beside h.seat after first.side done same (told (subst (λ (s : Seat). StandsFor s before other) (sym of.0) stands)).0

-- ids are left for what it hears
pub guest-can-hear : (edits : ℕ) (attached : Option ℕ) (seat : Seat) (side : PageSide) (guest : Option Guest) → edits ≤ 2 ^ 30
    → IsGuestOf attached seat guest → ∥ ((state : State) × StandsFor seat side state) ∥₁ → HasRoomLeft seat side → CanHear edits guest side
guest-can-hear edits attached seat side None few of stands room = tt
guest-can-hear edits None seat side (Some g) few of stands room = let no : ◌≡◌ {A = Option Guest} (Some g) None = of in absurd cc
guest-can-hear edits (Some session) seat side (Some g) few of stands room =
    let ids : seat.desk.agent.next < 2 ^ 50 = room.numbers.ids in
    let left : seat.desk.agent.next + 200001 * edits < 2 ^ 51 = omega (arith, ids, few) in
    subst (λ (s : Seat). CanHear edits (Some (record g { seat = s })) side) (sym of.0) (stands, left)

-- ---- what it is told

-- the frames of moves are those of their messages
pub moves-are-messages : (ms : List Move) → frames_of_moves ms ≡ message_frames (map message_of ms)
moves-are-messages [] = refl
moves-are-messages (m ∷ ms) = ap (λ (rest : List ℕ). framed (move_text m) ++ rest) (moves-are-messages ms)

-- the texts of moves have no zero byte
pub all-texts : (ms : List Move) → AreTexts ms → All (λ m. IsText (message_text m)) (map message_of ms)
all-texts [] texts = All-nil (λ m. IsText (message_text m))
all-texts (m ∷ ms) texts =
    All-cons (λ n. IsText (message_text n)) (message_of m) (map message_of ms) texts.0 (all-texts ms texts.1)

moves-are-texts : (ms : List Move) (v w : View) → Course ms v w → All (λ m. IsText (message_text m)) (map message_of ms)
moves-are-texts ms v w course = all-texts ms (course-texts ms v w course)

-- a message for each move
pub moves-told : (ms : List Move) (v w : View) (bytes : List ℕ) → Course ms v w → bytes ≡ frames_of_moves ms → AreMessages bytes
moves-told ms v w bytes course is = record {
  messages = map message_of ms;
  texts = moves-are-texts ms v w course;
  is = is ∙ moves-are-messages ms;
}

-- what is told of moves is sent to a session as their messages
pub moves-tagged : (ms : List Move) (v w : View) (session : ℕ) (bytes out new : List ℕ) → Course ms v w → bytes ≡ frames_of_moves ms
    → ((told : AreMessages bytes) → new ≡ out ++ session_frames session told.messages)
    → new ≡ out ++ session_frames session (map message_of ms)
moves-tagged ms v w session bytes out new course is tagged =
    tagged (record {
      messages = map message_of ms;
      texts = moves-are-texts ms v w course;
      is = is ∙ moves-are-messages ms;
    })

-- a guest that heard a step was told its messages
pub guest-told : (attached : Option ℕ) (seat : Seat) (before after : PageSide) (old new : Option Guest) (other : State) (done : Step)
    (v w : View) → IsGuestOf attached seat old → StandsFor seat before other → (GuestStands old before other → Hears old new after done)
    → Course done.moves v w → WasToldOf attached new (map message_of done.moves)
guest-told None seat before after None None other done v w of stands told course = refl
guest-told None seat before after None (Some h) other done v w of stands told course = absurd (told tt)
guest-told None seat before after (Some g) new other done v w of stands told course =
    let no : ◌≡◌ {A = Option Guest} (Some g) None = of in absurd cc
guest-told (Some session) seat before after None new other done v w of stands told course = absurd of
guest-told (Some session) seat before after (Some g) None other done v w of stands told course =
    absurd (told (subst (λ (s : Seat). StandsFor s before other) (sym of.0) stands))
guest-told (Some session) seat before after (Some g) (Some h) other done v w of stands told course =
    let heard = told (subst (λ (s : Seat). StandsFor s before other) (sym of.0) stands) in (
      moves-are-texts done.moves v w course,
      heard.1 ∙ ap (λ (bs : List ℕ). bs ++ frames_of_moves done.moves) of.1 ∙ moves-are-messages done.moves,
    )

-- these can be tagged
pub told-messages : {P : Type 0} (attached : Option ℕ) (guest : Option Guest) (messages : P → List Message) → ∥ P ∥₁
    → ((p : P) → WasToldOf attached guest (messages p)) → IfSome guest (λ g. ∥ AreMessages g.out.items ∥₁)
told-messages attached None messages some told = tt
told-messages None (Some g) messages some told =
    ∥∥₁_map some (λ p. let no : ◌≡◌ {A = Option Guest} (Some g) None = told p in absurd cc)
told-messages (Some session) (Some g) messages some told =
    ∥∥₁_map some (λ p. record { messages = messages p; texts = (told p).0; is = (told p).1 })

-- a guest that hears heard the outside step
pub hears-outside : (old new : Option Guest) (before after : PageSide) (other : State) (d : Outward)
    → (GuestStands old before other → Hears old new after (heard_step d other))
    → GuestStands old before other → Hears old new after (outside_step d other)
hears-outside old new before after other d told here = subst (Hears old new after) (outside-is-heard d other) (told here)

-- some state is there for each seat
pub root-some : (mux : Mux) (side : PageSide) → ∥ ((p : Pair) × PairStandsFor mux side p) ∥₁
    → ∥ ((state : State) × StandsFor mux.root side state) ∥₁
root-some mux side some = ∥∥₁_map some (λ (x : ((p : Pair) × PairStandsFor mux side p)). (root_state x.0, x.1.root_stands))

pub second-some : (mux : Mux) (side : PageSide) → ∥ ((p : Pair) × PairStandsFor mux side p) ∥₁
    → ∥ ((state : State) × StandsFor mux.second side state) ∥₁
second-some mux side some = ∥∥₁_map some (λ (x : ((p : Pair) × PairStandsFor mux side p)). (second_state x.0, x.1.second_stands))

-- the seats have the room that the clients have
pub pair-room : (mux : Mux) (side : PageSide) (p : Pair) → PairStandsFor mux side p → PairHasRoomLeft mux side → PairHasRoom p
pair-room mux side p stands left = record {
  root = room-of mux.root side (root_state p) stands.root_stands left.0;
  second = room-of mux.second side (second_state p) stands.second_stands left.1;
  number = subst (λ (s : Sessions). s.next < 2 ^ 50) stands.sessions_are left.2;
}

-- and the other way round
pub pairs-have-room-left : PairsHaveRoomLeft
pairs-have-room-left mux side p stands = (
  λ left. pair-room mux side p stands left,
  λ room. (
    has-room-left mux.root side (root_state p) stands.root_stands room.root,
    has-room-left mux.second side (second_state p) stands.second_stands room.second,
    subst (λ (s : Sessions). s.next < 2 ^ 50) (sym stands.sessions_are) room.number,
  ),
)

-- and the states are such that can be
pub pair-states : (mux : Mux) (side : PageSide) (p : Pair) → PairStandsFor mux side p → IsState (root_state p) × IsState (second_state p)
pair-states mux side p stands =
    (seated-state mux.root side (root_state p) stands.root_stands, seated-state mux.second side (second_state p) stands.second_stands)

-- ---- a step of the root's

-- both stand after it
pub root-stands : (p : Pair) (before after : PageSide) (seat unused : Seat) (old new : Option Guest) (own other : Step) (mux : Mux)
    → IsGuestOf p.sessions.attached seat old → IsUnused unused → StandsFor seat before (second_state p)
    → (GuestStands old before (second_state p) → Hears old new after other) → StandsFor mux.root after own.state
    → other.state.side ≡ own.state.side → mux.second ≡ seat_again new unused → mux.router ≡ p.sessions
    → PairStandsFor mux after (root_done own other p)
root-stands p before after seat unused old new own other mux of unused_is stands told here same second router = record {
  root_stands = here;
  second_stands = subst (λ (s : Seat). StandsFor s after (second_state (root_done own other p))) (sym second)
      (again-stands p.sessions.attached seat mux.root unused before after old new own.state (second_state p) other of unused_is stands told
      here same);
  sessions_are = router;
  fresh = λ none. ap (λ (o : Option ℕ). second_client o other.state.client) none;
}

-- the second's messages were sent, and then its own
pub root-sent : {router sessions : Sessions} (own other : List Move) (none said out middle new : List ℕ) → router ≡ sessions → none ≡ []
    → said ≡ none ++ frames_of_moves own → middle ≡ out ++ sent_to router.attached (map message_of other) → new ≡ middle ++ said
    → new ≡ out ++ (attached_frames sessions.attached other ++ frames_of_moves own)
root-sent {sessions = sessions} own other none said out middle new same empty said_is middle_is new_is =
    let second = attached_frames sessions.attached other in
    new_is ∙ ap (λ (bs : List ℕ). bs ++ said) (middle_is ∙ ap (λ (s : Sessions). out ++ attached_frames s.attached other) same)
    ∙ ap (λ (bs : List ℕ). (out ++ second) ++ bs) (said_is ∙ ap (λ (bs : List ℕ). bs ++ frames_of_moves own) empty)
    ∙ append_assoc out second (frames_of_moves own)

-- ---- a step of the attached session's

-- the root was a guest: both stand after it
pub attached-stands : (p : Pair) (session : ℕ) (before after : PageSide) (seat unused : Seat) (old new : Option Guest) (own other : Step)
    (mux : Mux) → p.sessions.attached ≡ Some session → IsGuestAt seat old → StandsFor seat before (root_state p)
    → (GuestStands old before (root_state p) → Hears old new after other) → StandsFor mux.second after own.state
    → other.state.side ≡ own.state.side → mux.root ≡ seat_again new unused → mux.router ≡ p.sessions
    → PairStandsFor mux after (attached_done own other p)
attached-stands p session before after seat unused None new own other mux attached at stands told here same root router = absurd at
attached-stands p session before after seat unused (Some g) None own other mux attached at stands told here same root router =
    absurd (told (subst (λ (s : Seat). StandsFor s before (root_state p)) (sym at.0) stands))
attached-stands p session before after seat unused (Some g) (Some h) own other mux attached at stands told here same root router = record {
  root_stands = subst (λ (s : Seat). StandsFor s after (root_state (attached_done own other p))) (sym root)
      (beside h.seat after own.state.side other same (told (subst (λ (s : Seat). StandsFor s before (root_state p)) (sym at.0) stands)).0);
  second_stands = here;
  sessions_are = router;
  fresh = λ none. let no : ◌≡◌ {A = Option ℕ} (Some session) None = sym attached ∙ none in absurd cc;
}

-- a guest that heard a step is one, and was told its frames
pub guest-heard : (seat : Seat) (before after : PageSide) (old new : Option Guest) (other : State) (done : Step) → IsGuestAt seat old
    → StandsFor seat before other → (GuestStands old before other → Hears old new after done)
    → (h : Guest) × (new ≡ Some h) × (h.out.items ≡ frames_of_moves done.moves)
guest-heard seat before after None new other done at stands told = absurd at
guest-heard seat before after (Some g) None other done at stands told =
    absurd (told (subst (λ (s : Seat). StandsFor s before other) (sym at.0) stands))
guest-heard seat before after (Some g) (Some h) other done at stands told =
    let heard = told (subst (λ (s : Seat). StandsFor s before other) (sym at.0) stands) in
    (h, refl, heard.1 ∙ ap (λ (bs : List ℕ). bs ++ frames_of_moves done.moves) at.1)

-- ids are left for what it hears
pub root-can-hear : (edits : ℕ) (seat : Seat) (side : PageSide) (guest : Option Guest) → edits ≤ 2 ^ 30 → IsGuestAt seat guest
    → ∥ ((state : State) × StandsFor seat side state) ∥₁ → HasRoomLeft seat side → CanHear edits guest side
root-can-hear edits seat side guest few at stands room = guest-can-hear edits (Some 0) seat side guest few at stands room

-- the root's messages were sent, and then its own with their session
pub attached-sent : (attached : Option ℕ) (session : ℕ) (own other : List Move) (told out middle new : List ℕ)
    → attached ≡ Some session → told ≡ frames_of_moves other → middle ≡ out ++ told
    → new ≡ middle ++ session_frames session (map message_of own)
    → new ≡ out ++ (frames_of_moves other ++ attached_frames attached own)
attached-sent attached session own other told out middle new is told_is middle_is new_is =
    new_is
    ∙ ap (λ (bs : List ℕ). bs ++ attached_frames (Some session) own) (middle_is ∙ ap (λ (bs : List ℕ). out ++ bs) told_is)
    ∙ ap (λ (o : Option ℕ). (out ++ frames_of_moves other) ++ attached_frames o own) (sym is)
    ∙ append_assoc out (frames_of_moves other) (attached_frames attached own)

-- ---- a step of a script

-- the root's messages were sent, and then the second's
pub turn-sent : {router sessions : Sessions} (own other : List Move) (out middle new : List ℕ) → router ≡ sessions
    → middle ≡ out ++ frames_of_moves own → new ≡ middle ++ sent_to router.attached (map message_of other)
    → new ≡ out ++ (frames_of_moves own ++ attached_frames sessions.attached other)
turn-sent {sessions = sessions} own other out middle new same middle_is new_is =
    new_is ∙ ap (λ (s : Sessions). middle ++ attached_frames s.attached other) same
    ∙ ap (λ (bs : List ℕ). bs ++ attached_frames sessions.attached other) middle_is
    ∙ append_assoc out (frames_of_moves own) (attached_frames sessions.attached other)

-- ---- a frame that is answered at once

renewed-stands : (attached : Option ℕ) (root second : Seat) (mux : Mux) (side : PageSide) (first : State) (client : Client)
    → IsRenewed attached second mux.second → StandsFor root side first
    → StandsFor second side (record { side = first.side; client = client })
    → StandsFor mux.second side (record { side = first.side; client = second_client attached client })
renewed-stands None root second mux side first client new here there = fresh-stands root mux.second side first here new
renewed-stands (Some session) root second mux side first client same here there =
    subst (λ (s : Seat). StandsFor s side (record { side = first.side; client = client })) (sym same) there

-- both stand after it
pub answered-stands : (p : Pair) (frame : List ℕ) (side : PageSide) (root second : Seat) (before after : Sessions) (mux : Mux)
    → SeatsStandFor root second before side p → after ≡ (routing frame before).sessions → mux.root ≡ root
    → IsRenewed after.attached second mux.second → mux.router ≡ after
    → PairStandsFor mux side (answered_step (routing frame p.sessions) p).state
answered-stands p frame side root second before after mux stands is same renewed router =
    let sessions = (routing frame p.sessions).sessions in
    let now : after ≡ sessions = is ∙ ap (λ (s : Sessions). (routing frame s).sessions) stands.sessions_are in
    let new : IsRenewed sessions.attached second mux.second =
    subst (λ (s : Sessions). IsRenewed s.attached second mux.second) now renewed in
    record {
      root_stands = subst (λ (s : Seat). StandsFor s side (root_state p)) (sym same) stands.root_stands;
      second_stands = renewed-stands sessions.attached root second mux side (root_state p) p.second new stands.root_stands
          stands.second_stands;
      sessions_are = router ∙ now;
      fresh = λ none. ap (λ (o : Option ℕ). second_client o p.second) none;
    }

-- the step is the one by whose the frame is
pub step-by : (routed : Routed) (own : Bool) (frame : List ℕ) (p : Pair) (router : Sessions) → routed ≡ (routing frame router).routed
    → router ≡ p.sessions → routed_step routed own frame p ≡ pair_step own frame p
step-by routed own frame p router is same =
    ap (λ (r : Routed). routed_step r own frame p) (is ∙ ap (λ (s : Sessions). (routing frame s).routed) same)

-- a frame that is left to one of both
pub root-left : ◌≢◌ {A = Routed} Root Answered
root-left e = absurd cc

pub attached-left : ◌≢◌ {A = Routed} Attached Answered
attached-left e = absurd cc

-- changes no session
pub left-same : {router after : Sessions} (routed : Routed) (frame : List ℕ) → routed ≢ Answered → routed ≡ (routing frame router).routed
    → after ≡ (routing frame router).sessions → after ≡ router
left-same {router = router} routed frame left is after_is = after_is ∙ (others-left frame router (λ e. left (is ∙ e))).1

-- and nothing is said at once
pub left-out : {middle : List ℕ} (routed : Routed) (frame : List ℕ) (router : Sessions) (out : List ℕ) → routed ≢ Answered
    → routed ≡ (routing frame router).routed → middle ≡ out ++ message_frames (routing frame router).said → middle ≡ out
left-out routed frame router out left is said =
    said ∙ ap (λ (ms : List Message). out ++ message_frames ms) (others-left frame router (λ e. left (is ∙ e))).0 ∙ append-nil out

-- ---- at first

-- two new seats stand at a new side
pub new-pairs-stand : NewPairsStand
new-pairs-stand mux side page can texts new = record {
  root_stands = stands-first mux.root side page can texts new.root;
  second_stands = stands-first mux.second side page can texts new.second;
  sessions_are = new.sessions_are;
  fresh = λ none. refl;
}

-- what the root asks is for the second client
pub command-outside : (r : Result Asked Refused) (mux : Mux) (side : PageSide) (p : Pair) → AskedTexts r → PairStandsFor mux side p
    → PairHasRoomLeft mux side
    → IsOutside (asked_step r (root_state p)).state.side (second_state p) (outside_step (asked_outward r (root_state p)) (second_state p))
command-outside r mux side p texts stands left =
    let are = pair-states mux side p stands in
    let room = pair-room mux side p stands left in
    asked-outside r (root_state p) (second_state p) texts are.0 room.root are.1 room.second refl

-- what its frame is
pub root-asked-outside : (own : Bool) (frame : List ℕ) (mux : Mux) (side : PageSide) (p : Pair) → PairStandsFor mux side p
    → PairHasRoomLeft mux side
    → IsOutside (asked_step (asked frame own) (root_state p)).state.side (second_state p)
    (outside_step (asked_outward (asked frame own) (root_state p)) (second_state p))
root-asked-outside own frame mux side p stands left = command-outside (asked frame own) mux side p (frame-texts own frame) stands left

-- and that of the attached session for the root
pub second-asked-outside : (frame : List ℕ) (mux : Mux) (side : PageSide) (p : Pair) → PairStandsFor mux side p
    → PairHasRoomLeft mux side
    → IsOutside (asked_step (session_asked frame) (second_state p)).state.side (root_state p)
    (outside_step (asked_outward (session_asked frame) (second_state p)) (root_state p))
second-asked-outside frame mux side p stands left =
    let are = pair-states mux side p stands in
    let room = pair-room mux side p stands left in
    asked-outside (session_asked frame) (second_state p) (root_state p) (session-texts frame) are.1 room.second are.0 room.root refl

-- the guest is that of the router's sessions
pub guest-of : {router sessions : Sessions} (seat : Seat) (guest : Option Guest) → router ≡ sessions
    → IsGuestOf router.attached seat guest → IsGuestOf sessions.attached seat guest
guest-of seat guest same of = subst (λ (s : Sessions). IsGuestOf s.attached seat guest) same of

-- what a script does tells the second client what it sees then
pub turn-course : (x : Turn) (mux : Mux) (side : PageSide) (p : Pair) → PairStandsFor mux side p → PairHasRoomLeft mux side → IsTurn x
    → Course (turn_step x (second_state p)).moves (view_of (second_state p)) (view_of (turn_step x (second_state p)).state)
turn-course x mux side p stands left can =
    (turn-steps-well (second_state p) x (pair-states mux side p stands).1 (pair-room mux side p stands left).second can).0.course

-- the root's seat, which is kept, stands for its client
pub root-kept : {before after : Seat} (side : PageSide) (p : Pair) → after ≡ before → StandsFor before side (root_state p)
    → StandsFor after side (root_state p)
root-kept side p same stands = subst (λ (s : Seat). StandsFor s side (root_state p)) (sym same) stands

pub second-kept : {before after : Seat} (side : PageSide) (p : Pair) → after ≡ before → StandsFor before side (second_state p)
    → StandsFor after side (second_state p)
second-kept side p same stands = subst (λ (s : Seat). StandsFor s side (second_state p)) (sym same) stands

-- the texts of what a frame of the attached session asks are UTF-8
pub session-texts-of : (frame : List ℕ) (r : Result Asked ReadErr) → ReadsAsked r (session_asked frame)
    → IfOk r (λ a. HasServedTexts a.command)
session-texts-of frame (Ok a) reads = subst AskedTexts reads (session-texts frame)
session-texts-of frame (Err e) reads = tt

-- what it asks tells it what it sees then
pub second-course : (frame : List ℕ) (mux : Mux) (side : PageSide) (p : Pair) → PairStandsFor mux side p → PairHasRoomLeft mux side
    → Course (asked_step (session_asked frame) (second_state p)).moves (view_of (second_state p))
    (view_of (asked_step (session_asked frame) (second_state p)).state)
second-course frame mux side p stands left =
    (asked-steps-well (session_asked frame) (second_state p) (session-fits frame) (session-texts frame)
    (pair-states mux side p stands).1 (pair-room mux side p stands left).second).0.course

-- what a guest was told is sent to its session
pub tell-session : {T E : Type 0} (result : Result T E) (attached : Option ℕ) (session : ℕ) (guest : Option Guest) (g : Guest)
    (messages : List Message) (bytes out new : List ℕ) → attached ≡ Some session → guest ≡ Some g → bytes ≡ g.out.items
    → WasToldOf attached guest messages
    → ((told : AreMessages bytes) → OnOk result (new ≡ out ++ session_frames session told.messages))
    → OnOk result (new ≡ out ++ sent_to attached messages)
tell-session result None session guest g messages bytes out new is there same told tagged =
    let no : ◌≡◌ {A = Option ℕ} None (Some session) = is in absurd cc
tell-session result (Some k) session None g messages bytes out new is there same told tagged = absurd told
tell-session result (Some k) session (Some h) g messages bytes out new is there same told tagged =
    let number : k ≡ session = cc in
    let seat : h ≡ g = cc in
    subst (λ (n : ℕ). OnOk result (new ≡ out ++ session_frames n messages)) (sym number)
    (tagged (record {
      messages = messages;
      texts = told.0;
      is = same ∙ ap (λ (x : Guest). x.out.items) (sym seat) ∙ told.1;
    }))
