-- What a frame is that goes up one pipe to two sessions, by its JSON.
use Rattle.std.specs.Prelude.{ℕ, List, [], codes, cond, bytes_eq, Option, Some, None}
use Rattle.serde_json.specs.Data.{Data}
use Rattle.serde_json.specs.Find.{as_str}
use Rattle.serde_json.specs.Written.{compact_text}
use Rattle.cdp_json.specs.declared.fields.Field.{Field}
use Rattle.cdp_json.specs.declared.fields.Field.TheVariants.{Is, Missing, WrongKind}
use Rattle.cdp_json.specs.Fields.{field_of}
use Rattle.cdp_messages.specs.Asked.{json_of}
use Rattle.cdp_messages.specs.SessionFrames.{session_name, without_session}
use Rattle.session_mux.specs.Routes.{Request, request_of}
use Rattle.session_runs.specs.Pairs.{Way, to_root, to_session, attaches, detaches}

-- the text of a frame without its session
abbrev pub text_without_session : Option Data → List ℕ
text_without_session None = []
text_without_session (Some d) = compact_text (without_session d)

-- the text that a field has; no session has the empty one
abbrev pub text_in : Field (List ℕ) → List ℕ
text_in Missing = []
text_in WrongKind = []
text_in (Is text) = text

-- the method that attaches a session
abbrev pub attach_method : List ℕ
attach_method = codes "Target.attachToTarget"

-- the method that detaches one
abbrev pub detach_method : List ℕ
detach_method = codes "Target.detachFromTarget"

-- without a session a frame is the root's, unless its method is one of the two
abbrev pub target_way : List ℕ → Request → Way (List ℕ)
target_way frame r =
    cond (bytes_eq attach_method r.method) (attaches r.id)
    (cond (bytes_eq detach_method r.method) (detaches r.id (text_in (field_of as_str session_name r.params))) (to_root frame))

-- a request, by the session that it names
abbrev pub request_way : List ℕ → Request → Field (List ℕ) → Way (List ℕ)
request_way frame r Missing = target_way frame r
request_way frame r WrongKind = to_session [] (text_without_session (json_of frame))
request_way frame r (Is text) = to_session text (text_without_session (json_of frame))

-- a frame that is no request is the root's, which refuses it
abbrev pub way_by : List ℕ → Option Request → Way (List ℕ)
way_by frame None = to_root frame
way_by frame (Some r) = request_way frame r r.session

-- what a frame is that goes up
abbrev pub frame_way : List ℕ → Way (List ℕ)
frame_way frame = way_by frame (request_of frame)
