-- What the two front ends read, and how the back end goes on for one of two clients.
use Rattle.std.specs.Prelude.{ℕ, false, List, [], ◌∷◌, ◌++◌, Some, option_map}
use Rattle.std.specs.Option.{option_to_list}
use Rattle.json.specs.Print.{quoted}
use Rattle.serde_json.specs.Data.{object, no_members}
use Rattle.cdp_messages.specs.declared.command.Why.TheVariants.{NoSession, SessionTaken, NoTargetSession}
use Rattle.cdp_messages.specs.Asked.{refusal}
use Rattle.cdp_messages.specs.Replies.{reply, message_text, refused_text}
use Rattle.cdp_messages.specs.SessionFrames.{session_name}
use Rattle.client_views.specs.Moves.{frames_of_moves}
use Rattle.front_mirror.specs.declared.replies.Ask.{Ask}
use Rattle.front_mirror.specs.declared.faults.FrontKind.{FrontKind}
use Rattle.front_mirror.specs.Front.{FrontValue}
use Rattle.back_end.specs.States.{Side, Client, State, new_client}
use Rattle.back_end.specs.Steps.{Turn, frame_step, turn_step}
use Rattle.back_end.specs.Outside.{Outward, turned, frame_outward, outside_step}
use Rattle.inspect_world.specs.RunStates.{ToldStyles, styles_answered}
use Rattle.inspect_world.specs.Fits.{ask_of_frame}
use Rattle.session_mux.specs.Sessions.{session_text}
use Rattle.session_mux.specs.Targets.{attached_result}
use Rattle.session_mux.specs.TaggedTexts.{tagged_frame}
use Rattle.session_mux.specs.Routes.{Request, request_of}
use Rattle.session_runs.specs.Pairs.{FrontReads, ClientSteps}
use Rattle.multi_replay.specs.Folds.{value_reads}
use Rattle.pair_world.specs.SessionWays.{frame_way}

-- ---- the front ends

-- two front ends by their values, where these are the asks of frames that go up
abbrev pub pair_reads : FrontReads FrontValue FrontKind Ask (List ℕ)
pair_reads = value_reads (record { way = frame_way; asks = λ text. option_to_list (ask_of_frame text) })

-- ---- the back end

-- a client of the page, and the matched styles that it was told
pub record RunClient : Type 0 where
  pub client : Client
  pub styles : List ToldStyles

-- the state of the back end with that client
abbrev pub state_of : Side → RunClient → State
state_of side c = record { side = side; client = c.client }

-- a client that has asked for nothing yet, and was told nothing
abbrev pub fresh_client : RunClient
fresh_client = record { client = new_client; styles = [] }

-- what stands in the place of a message's closing brace: the session of that text as a property behind others, and the brace
abbrev pub session_tail : List ℕ → List ℕ
session_tail t = 44 ∷ (quoted session_name ++ 58 ∷ (quoted t ++ 125 ∷ []))

-- the refusal of a session's frame that is none of the attached session's
abbrev pub unknown_reply : List ℕ → List ℕ
unknown_reply text = refused_text (refusal (option_map (λ (r : Request). r.id) (request_of text)) NoSession)

-- How the back end goes on: our own two methods are unknown, and each client's frame is a step of the other as the edits that it made.
abbrev pub client_steps : ClientSteps Side RunClient Outward Turn (List ℕ)
client_steps = record {
  own = λ text side c.
      let state = state_of side c in
      let done = frame_step false text state in
      record {
        side = done.state.side;
        client = record { client = done.state.client; styles = c.styles ++ styles_answered text state };
        sent = frames_of_moves done.moves;
        outward = frame_outward false text state;
      };
  outside = λ d side c.
      let done = outside_step d (state_of side c) in
      record { client = record { client = done.state.client; styles = c.styles }; sent = frames_of_moves done.moves };
  act = λ x side c.
      let done = turn_step x (state_of side c) in
      record {
        side = done.state.side;
        client = record { client = done.state.client; styles = c.styles };
        sent = frames_of_moves done.moves;
        outward = turned x;
      };
  fresh = fresh_client;
  text_of = session_text;
  tag = λ t text. tagged_frame (session_tail t) text;
  attach_reply = λ id number. message_text (reply id (attached_result number));
  detach_reply = λ id. message_text (reply id (object no_members));
  taken_reply = λ id. refused_text (refusal (Some id) SessionTaken);
  none_reply = λ id. refused_text (refusal (Some id) NoTargetSession);
  unknown_reply = unknown_reply;
}
