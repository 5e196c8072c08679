-- What holds of two clients of one page, and of what each of them is told.
use Rattle.std.specs.Prelude.{◌≡◌, ◌⊎◌, ℕ, Bool, List, [], ◌∷◌, ◌++◌, ⊤, Some, None, Result}
use Rattle.page_forms.specs.Pages.{LoadedPage, CanLoadPage}
use Rattle.page_forms.specs.Texts.{PageHasTexts}
use Rattle.cdp_messages.specs.declared.command.Asked.{Asked}
use Rattle.cdp_messages.specs.declared.command.Refused.{Refused}
use Rattle.cdp_messages.specs.Asked.{asked}
use Rattle.cdp_messages.specs.SessionFrames.{session_asked}
use Rattle.cdp_messages.specs.Replies.{Message, message_frames}
use Rattle.client_views.specs.Moves.{Move, frames_of_moves}
use Rattle.session_runs.specs.World.{Stepped}
use Rattle.session_mux.specs.declared.router.Routed.{Routed}
use Rattle.session_mux.specs.declared.router.Routed.TheVariants.{Root, Attached, Answered}
use Rattle.session_mux.specs.Routes.{routing}
use Rattle.back_end.specs.States.{State, new_client}
use Rattle.back_end.specs.Steps.{Step, idle, followed_by, asked_step, Turn, turn_step}
use Rattle.back_end.specs.Outside.{Outward, made, turned, asked_outward, outside_step}
use Rattle.back_end.specs.Laws.{IsTurn}
use Rattle.back_end.specs.Pairs.{Pair, root_state, second_state, loaded_pair, IsPair, PairHasRoom, attached_frames, pair_step, pair_turn}

-- ---- states that can be

-- a page that was just loaded is one of two clients, of which neither has asked for anything
abbrev pub StartIsPair : Type 0
StartIsPair = (page : LoadedPage) → CanLoadPage page → PageHasTexts page → IsPair (loaded_pair page)

-- ---- all that comes

-- What comes to both: a frame by the pipe, where our own two methods are known to the root or not; or a step of a script.
pub data Incoming : Type 0 where
  arrives : Bool → List ℕ → Incoming
  happens : Turn → Incoming

-- the step of both on it
abbrev pub incoming_step : Incoming → Pair → Stepped Pair
incoming_step (arrives own frame) p = pair_step own frame p
incoming_step (happens x) p = pair_turn x p

-- any frame may come, and of a script what it may do
abbrev pub CanCome : Incoming → Type 0
CanCome (arrives own frame) = ⊤
CanCome (happens x) = IsTurn x

-- each step leads from a state that can be to one that can be
abbrev pub StepsKeepPairs : Type 0
StepsKeepPairs = (i : Incoming) (p : Pair) → CanCome i → IsPair p → PairHasRoom p → IsPair (incoming_step i p).state

-- ---- what comes to one client

-- What one client's step turns on: a frame of its own, as it was asked; the edits of a frame of the other client; a step of a script.
pub data Coming : Type 0 where
  asks : Result Asked Refused → Coming
  hears : Outward → Coming
  meets : Turn → Coming

-- the client's step on it
abbrev pub coming_step : Coming → State → Step
coming_step (asks r) state = asked_step r state
coming_step (hears d) state = outside_step d state
coming_step (meets x) state = turn_step x state

-- its steps on all of these, one after the other
abbrev pub coming_steps : List Coming → State → Step
coming_steps [] state = idle state
coming_steps (c ∷ cs) state = followed_by (coming_step c state) (coming_steps cs)

-- a frame of the other client is heard of where it edits, or makes what a script does
abbrev pub heard : Outward → List Coming
heard (made page []) = []
heard (made page (e ∷ es)) = hears (made page (e ∷ es)) ∷ []
heard (turned x) = hears (turned x) ∷ []

-- what a frame is to the root, by whose it is
abbrev pub frame_to_root : Routed → Bool → List ℕ → Pair → List Coming
frame_to_root Root own frame p = asks (asked frame own) ∷ []
frame_to_root Attached own frame p = heard (asked_outward (session_asked frame) (second_state p))
frame_to_root Answered own frame p = []

-- and to the second client
abbrev pub frame_to_second : Routed → Bool → List ℕ → Pair → List Coming
frame_to_second Root own frame p = heard (asked_outward (asked frame own) (root_state p))
frame_to_second Attached own frame p = asks (session_asked frame) ∷ []
frame_to_second Answered own frame p = []

-- what all that comes is to the root
abbrev pub to_root : Incoming → Pair → List Coming
to_root (arrives own frame) p = frame_to_root (routing frame p.sessions).routed own frame p
to_root (happens x) p = meets x ∷ []

-- and to the second client
abbrev pub to_second : Incoming → Pair → List Coming
to_second (arrives own frame) p = frame_to_second (routing frame p.sessions).routed own frame p
to_second (happens x) p = meets x ∷ []

-- the messages that answer a frame at once; they are sent to the root
abbrev pub said_at_once : Incoming → Pair → List Message
said_at_once (arrives own frame) p = (routing frame p.sessions).said
said_at_once (happens x) p = []

-- what the root is told by a step, but for that
abbrev pub root_moves : Incoming → Pair → List Move
root_moves i p = (coming_steps (to_root i p) (root_state p)).moves

-- what the root is sent by it
abbrev pub root_sent : Incoming → Pair → List ℕ
root_sent i p = message_frames (said_at_once i p) ++ frames_of_moves (root_moves i p)

-- what the second client is told by it
abbrev pub second_moves : Incoming → Pair → List Move
second_moves i p = (coming_steps (to_second i p) (second_state p)).moves

-- what the attached session is sent by it
abbrev pub second_sent : Incoming → Pair → List ℕ
second_sent i p = attached_frames p.sessions.attached (second_moves i p)

-- the bytes are these two, one behind the other
abbrev pub AreBoth : List ℕ → List ℕ → List ℕ → Type 0
AreBoth sent one two = (sent ≡ one ++ two) ⊎ (sent ≡ two ++ one)

-- Each client goes on by its own state and by what comes to it alone, the second while its session is attached; and what is sent is what
-- either is told, one behind the other.
pub record GoAlone (i : Incoming) (p : Pair) : Type 0 where
  pub root : root_state (incoming_step i p).state ≡ (coming_steps (to_root i p) (root_state p)).state
  pub second : (session : ℕ) → (incoming_step i p).state.sessions.attached ≡ Some session
      → second_state (incoming_step i p).state ≡ (coming_steps (to_second i p) (second_state p)).state
  pub sent : AreBoth (incoming_step i p).sent (root_sent i p) (second_sent i p)

abbrev pub EachGoesAlone : Type 0
EachGoesAlone = (i : Incoming) (p : Pair) → CanCome i → IsPair p → PairHasRoom p → GoAlone i p

-- ---- a session from its beginning

-- A session that is attached begins with a client that has asked for nothing, over the page as it is then.
abbrev pub SessionsBeginAnew : Type 0
SessionsBeginAnew =
    (own : Bool) (frame : List ℕ) (p : Pair) (session : ℕ) → IsPair p → p.sessions.attached ≡ None
    → (pair_step own frame p).state.sessions.attached ≡ Some session
    → second_state (pair_step own frame p).state ≡ record { side = p.side; client = new_client }

-- Over all of this, each of which can come, there is room before each step, and the session of that number is attached before and after
-- each.
abbrev pub StaysAttached : ℕ → List Incoming → Pair → Type 0
StaysAttached session [] p = p.sessions.attached ≡ Some session
StaysAttached session (i ∷ is) p =
    (p.sessions.attached ≡ Some session) × CanCome i × PairHasRoom p × StaysAttached session is (incoming_step i p).state

-- all that comes to the second client
abbrev pub all_to_second : List Incoming → Pair → List Coming
all_to_second [] p = []
all_to_second (i ∷ is) p = to_second i p ++ all_to_second is (incoming_step i p).state

-- all that it is told
abbrev pub all_second_moves : List Incoming → Pair → List Move
all_second_moves [] p = []
all_second_moves (i ∷ is) p = second_moves i p ++ all_second_moves is (incoming_step i p).state

-- A session that stays attached is told just what its own state at the beginning and what comes to it from then on make.
abbrev pub SessionsAreToldAlone : Type 0
SessionsAreToldAlone =
    (session : ℕ) (is : List Incoming) (p : Pair) → IsPair p → StaysAttached session is p
    → all_second_moves is p ≡ (coming_steps (all_to_second is p) (second_state p)).moves

-- So two sessions, of any numbers, that begin alike and to which the same comes are told the same, whatever else comes to the two roots:
-- frames that edit nothing are none of what comes.
abbrev pub EqualSessionsAreToldAlike : Type 0
EqualSessionsAreToldAlike =
    (one two : ℕ) (is js : List Incoming) (p q : Pair) → IsPair p → StaysAttached one is p → IsPair q → StaysAttached two js q
    → second_state p ≡ second_state q → all_to_second is p ≡ all_to_second js q
    → all_second_moves is p ≡ all_second_moves js q

-- ---- the root from any moment on

-- each of this can come, and there is room before each step
abbrev pub AllCome : List Incoming → Pair → Type 0
AllCome [] p = ⊤
AllCome (i ∷ is) p = CanCome i × PairHasRoom p × AllCome is (incoming_step i p).state

-- all that comes to the root
abbrev pub all_to_root : List Incoming → Pair → List Coming
all_to_root [] p = []
all_to_root (i ∷ is) p = to_root i p ++ all_to_root is (incoming_step i p).state

-- all that it is told, but for what is answered at once
abbrev pub all_root_moves : List Incoming → Pair → List Move
all_root_moves [] p = []
all_root_moves (i ∷ is) p = root_moves i p ++ all_root_moves is (incoming_step i p).state

-- The root too is told just what its own state and what comes to it make.
abbrev pub RootsAreToldAlone : Type 0
RootsAreToldAlone =
    (is : List Incoming) (p : Pair) → IsPair p → AllCome is p
    → all_root_moves is p ≡ (coming_steps (all_to_root is p) (root_state p)).moves

-- So two roots that begin alike and to which the same comes are told the same, whatever else comes to the attached sessions.
abbrev pub EqualRootsAreToldAlike : Type 0
EqualRootsAreToldAlike =
    (is js : List Incoming) (p q : Pair) → IsPair p → AllCome is p → IsPair q → AllCome js q
    → root_state p ≡ root_state q → all_to_root is p ≡ all_to_root js q
    → all_root_moves is p ≡ all_root_moves js q
