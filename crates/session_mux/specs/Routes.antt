-- Whose a frame is, and what it changes of the sessions.
use Rattle.std.specs.Prelude.{◌≡◌, ℕ, List, [], ◌∷◌, ◌++◌, codes, Bool, true, false, Option, Some, None, option_map, option_and_then}
use Rattle.std.specs.Prelude.{Result, Ok, Err}
use Rattle.std.specs.declared.alloc.AllocError.{AllocError}
use Rattle.serde_json.specs.Data.{Members, no_members}
use Rattle.serde_json.specs.Find.{as_str, as_object}
use Rattle.cdp_json.specs.declared.fields.Field.{Field}
use Rattle.cdp_json.specs.declared.fields.Field.TheVariants.{Is, Missing, WrongKind}
use Rattle.cdp_json.specs.Fields.{field_of}
use Rattle.cdp_json.specs.Kinds.{as_whole}
use Rattle.cdp_messages.specs.declared.command.Why.{Why}
use Rattle.cdp_messages.specs.declared.command.Why.TheVariants.{NoSession}
use Rattle.cdp_messages.specs.Asked.{json_of, refusal}
use Rattle.cdp_messages.specs.Replies.{Message, reply, refusal_message, message_frames}
use Rattle.cdp_messages.specs.SessionFrames.{session_name}
use Rattle.session_mux.specs.declared.router.Routed.{Routed}
use Rattle.session_mux.specs.declared.router.Routed.TheVariants.{Root, Attached, Answered}
use Rattle.session_mux.specs.declared.targets.Target.{Target}
use Rattle.session_mux.specs.Sessions.{Sessions, is_attached}
use Rattle.session_mux.specs.Targets.{target_named, target_refusal, target_result, target_after}

-- ---- requests

-- A frame that any session could serve: a usable id, a method, and parameters that are an object, the empty one where it has none. It
-- names a session where it has that property: one of no session where this is no text.
pub record Request : Type 0 where
  pub id : ℕ
  pub method : List ℕ
  pub params : Members
  pub session : Field (List ℕ)

-- what follows of a field that is there and is of the kind
abbrev pub if_is : {A B : Type 0} → Field A → (A → Option B) → Option B
if_is Missing f = None
if_is WrongKind f = None
if_is (Is x) f = f x

-- parameters are an object, where there are some
abbrev pub params_in : Field Members → Option Members
params_in Missing = Some no_members
params_in WrongKind = None
params_in (Is params) = Some params

-- the request that an object is
abbrev pub request_in : Members → Option Request
request_in frame =
    if_is (field_of as_whole (codes "id") frame) (λ id.
    if_is (field_of as_str (codes "method") frame) (λ method.
    option_map (λ params. record { id = id; method = method; params = params; session = field_of as_str session_name frame })
    (params_in (field_of as_object (codes "params") frame))))

-- the request that these bytes are
abbrev pub request_of : List ℕ → Option Request
request_of bytes = option_and_then request_in (option_and_then as_object (json_of bytes))

-- ---- steps

-- whose a frame is, the messages that answer it at once, and the sessions after it
pub record Routing : Type 0 where
  pub routed : Routed
  pub said : List Message
  pub sessions : Sessions

-- a frame that a session has to serve
abbrev pub left_to : Routed → Sessions → Routing
left_to routed s = record { routed = routed; said = []; sessions = s }

-- a frame that is answered at once
abbrev pub answered : Message → Sessions → Routing
answered message s = record { routed = Answered; said = message ∷ []; sessions = s }

-- a frame that is refused at once
abbrev pub refused : ℕ → Why → Sessions → Routing
refused id why s = answered (refusal_message (refusal (Some id) why)) s

-- a method of the two is refused, or answered by its result
abbrev pub by_refusal : Option Why → ℕ → Target → Sessions → Routing
by_refusal (Some why) id target s = refused id why s
by_refusal None id target s = answered (reply id (target_result target s)) (target_after target s)

-- without a session a frame is the root's, unless its method is one of the two
abbrev pub by_method : Option Target → ℕ → Members → Sessions → Routing
by_method None id params s = left_to Root s
by_method (Some target) id params s = by_refusal (target_refusal target params s.attached) id target s

-- a frame that names the attached session is that session's; one that names any other is refused
abbrev pub by_name : Bool → ℕ → Sessions → Routing
by_name true id s = left_to Attached s
by_name false id s = refused id NoSession s

-- a request is routed by the session that it names, or else by its method
abbrev pub by_session : Field (List ℕ) → ℕ → List ℕ → Members → Sessions → Routing
by_session Missing id method params s = by_method (target_named method) id params s
by_session WrongKind id method params s = refused id NoSession s
by_session (Is text) id method params s = by_name (is_attached s.attached text) id s

-- a frame that is no request is the root's, which refuses it
abbrev pub routing_by : Option Request → Sessions → Routing
routing_by None s = left_to Root s
routing_by (Some r) s = by_session r.session r.id r.method r.params s

-- the step of the router on these bytes
abbrev pub routing : List ℕ → Sessions → Routing
routing bytes s = routing_by (request_of bytes) s

-- ---- as code makes the step

-- what a part of the step leaves: the step itself, or, after want of memory, all as it was
abbrev pub Routes : Result Routed AllocError → Sessions → Sessions → List ℕ → List ℕ → Routing → Type 0
Routes (Ok routed) old new before after r =
    (routed ≡ r.routed) × (new ≡ r.sessions) × (after ≡ before ++ message_frames r.said)
Routes (Err error) old new before after r = (new ≡ old) × (after ≡ before)
