-- Two clients of one page on one pipe: the root's, and that of the session that is attached, if one is; and the steps of both. A step
-- gives the state of both after it, and the bytes sent down.
use Rattle.std.specs.Prelude.{◌≡◌, ◌<◌, ℕ, Bool, List, [], ◌++◌, map, Option, Some, None, Result}
use Rattle.node_tree.specs.Numbers.{drawn_before_step}
use Rattle.page_forms.specs.Pages.{LoadedPage}
use Rattle.cdp_messages.specs.declared.command.Asked.{Asked}
use Rattle.cdp_messages.specs.declared.command.Refused.{Refused}
use Rattle.cdp_messages.specs.Asked.{asked}
use Rattle.cdp_messages.specs.SessionFrames.{session_asked}
use Rattle.cdp_messages.specs.Replies.{Message, message_frames}
use Rattle.client_views.specs.Moves.{Move, message_of, frames_of_moves}
use Rattle.session_runs.specs.World.{Stepped}
use Rattle.session_mux.specs.declared.router.Routed.{Routed}
use Rattle.session_mux.specs.declared.router.Routed.TheVariants.{Root, Attached, Answered}
use Rattle.session_mux.specs.Sessions.{Sessions, no_sessions}
use Rattle.session_mux.specs.Laws.{AreInOrder}
use Rattle.session_mux.specs.Tags.{session_frames}
use Rattle.session_mux.specs.Routes.{Routing, routing}
use Rattle.back_end.specs.States.{Side, Client, State, new_client, loaded_side, IsState}
use Rattle.back_end.specs.Steps.{Step, asked_step, Turn, turn_step}
use Rattle.back_end.specs.Outside.{asked_outward, outside_step}
use Rattle.back_end.specs.Laws.{HasRoom}

-- ---- states

-- The page's side, the two clients, and which session is attached. While none is, the second client has asked for nothing.
pub record Pair : Type 0 where
  pub side : Side
  pub root : Client
  pub second : Client
  pub sessions : Sessions

-- the page as the root's client has it
abbrev pub root_state : Pair → State
root_state p = record { side = p.side; client = p.root }

-- the page as the second client has it
abbrev pub second_state : Pair → State
second_state p = record { side = p.side; client = p.second }

-- a page that was just loaded, with serials and numbers of sheets from 1 on; nothing is known of it, and no session is attached
abbrev pub loaded_pair : LoadedPage → Pair
loaded_pair page = record { side = loaded_side 1 1 page; root = new_client; second = new_client; sessions = no_sessions }

-- the second client while that session is attached; while none is, it has asked for nothing
abbrev pub second_client : Option ℕ → Client → Client
second_client None client = new_client
second_client (Some session) client = client

-- What always holds of it: each client's state is one that can be, while no session is attached the second has asked for nothing, and
-- the attached session's number is below the next.
pub record IsPair (p : Pair) : Type 0 where
  pub root : IsState (root_state p)
  pub second : IsState (second_state p)
  pub fresh : p.sessions.attached ≡ None → p.second ≡ new_client
  pub numbers : AreInOrder p.sessions

-- for both clients there is room, and a number for another session
pub record PairHasRoom (p : Pair) : Type 0 where
  pub root : HasRoom (root_state p)
  pub second : HasRoom (second_state p)
  pub number : p.sessions.next < drawn_before_step

-- ---- steps

-- messages as they are sent to the attached session: each with the session as its last property; while none is attached, none is sent
abbrev pub sent_to : Option ℕ → List Message → List ℕ
sent_to None messages = []
sent_to (Some session) messages = session_frames session messages

-- what the attached session is told
abbrev pub attached_frames : Option ℕ → List Move → List ℕ
attached_frames attached moves = sent_to attached (map message_of moves)

-- both after a step of the root's client, and what the same was for the second
abbrev pub root_done : Step → Step → Pair → Pair
root_done own other p = record {
  side = own.state.side;
  root = own.state.client;
  second = second_client p.sessions.attached other.state.client;
  sessions = p.sessions;
}

-- What the root's client asks is its own step; what becomes of the page by it is an outside step of the second, whose messages come
-- first.
abbrev pub root_step : Result Asked Refused → Pair → Stepped Pair
root_step r p =
    let own = asked_step r (root_state p) in
    let other = outside_step (asked_outward r (root_state p)) (second_state p) in
    record {
      state = root_done own other p;
      sent = attached_frames p.sessions.attached other.moves ++ frames_of_moves own.moves;
    }

-- both after a step of the attached session's client, and what the same was for the root's
abbrev pub attached_done : Step → Step → Pair → Pair
attached_done own other p = record {
  side = own.state.side;
  root = other.state.client;
  second = own.state.client;
  sessions = p.sessions;
}

-- The same of what the attached session asks: the messages of the root's client come first.
abbrev pub attached_step : Result Asked Refused → Pair → Stepped Pair
attached_step r p =
    let own = asked_step r (second_state p) in
    let other = outside_step (asked_outward r (second_state p)) (root_state p) in
    record {
      state = attached_done own other p;
      sent = frames_of_moves other.moves ++ attached_frames p.sessions.attached own.moves;
    }

-- What is answered at once changes no client, but that a session which is attached or detached begins anew.
abbrev pub answered_step : Routing → Pair → Stepped Pair
answered_step r p = record {
  state = record p { second = second_client r.sessions.attached p.second; sessions = r.sessions };
  sent = message_frames r.said;
}

-- the step on a frame, by whose it is; `own` says whether our own two methods are known to the root's client
abbrev pub routed_step : Routed → Bool → List ℕ → Pair → Stepped Pair
routed_step Root own frame p = root_step (asked frame own) p
routed_step Attached own frame p = attached_step (session_asked frame) p
routed_step Answered own frame p = answered_step (routing frame p.sessions) p

-- the step on a frame
abbrev pub pair_step : Bool → List ℕ → Pair → Stepped Pair
pair_step own frame p = routed_step (routing frame p.sessions).routed own frame p

-- what a script does by itself is a step of both clients; the messages of the root's come first
abbrev pub pair_turn : Turn → Pair → Stepped Pair
pair_turn x p =
    let one = turn_step x (root_state p) in
    let two = turn_step x (second_state p) in
    record {
      state = root_done one two p;
      sent = frames_of_moves one.moves ++ attached_frames p.sessions.attached two.moves;
    }
