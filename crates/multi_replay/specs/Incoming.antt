-- Messages of two sessions as they come down one pipe: whose a frame is, and what the reply to an attach or a detach says.
use Rattle.std.specs.Prelude.{ℕ, ◌==◌, Bool, ◌&&◌, cond, nat_le, List, [], ◌∷◌, codes, Option, Some, None, Result, Ok, Err, ⊤}
use Rattle.node_tree.specs.Numbers.{fetch_limit}
use Rattle.serde_json.specs.Data.{Data, object, Members}
use Rattle.serde_json.specs.Find.{as_str, as_object}
use Rattle.serde_json.specs.Written.{compact_text, has_float}
use Rattle.cdp_json.specs.declared.fields.Field.{Field}
use Rattle.cdp_json.specs.declared.fields.Field.TheVariants.{Is, Missing, WrongKind}
use Rattle.cdp_json.specs.Fields.{field_of}
use Rattle.cdp_json.specs.Kinds.{as_whole, is_counted}
use Rattle.css_objects.specs.Sheets.{sheet_in}
use Rattle.cdp_messages.specs.Asked.{json_of}
use Rattle.cdp_messages.specs.Replies.{Message, reply, fault, event, down_of}
use Rattle.cdp_messages.specs.SessionFrames.{session_name, without_session}
use Rattle.front_mirror.specs.declared.faults.FrontKind.{FrontKind}
use Rattle.front_mirror.specs.declared.faults.FrontKind.TheVariants.{NotMessage}
use Rattle.session_mux.specs.Targets.{attached_kind}
use Rattle.session_runs.specs.Pairs.{Down, bare, of_session, TargetKind, attach, detach, TargetOutcome, nothing_done, session_made}
use Rattle.session_runs.specs.Pairs.{session_dropped}

-- ---- whose a frame is

-- a field's value, where it has one
abbrev pub if_there : {A : Type 0} → Field A → Option A
if_there Missing = None
if_there WrongKind = None
if_there (Is x) = Some x

-- a frame of a session that no front has: the text of a session is never empty
abbrev pub strange_frame : Down (List ℕ)
strange_frame = of_session [] []

-- A frame of the session of this text, which goes to its front as the compact text of all else that it says; no front takes one that
-- has a number that is not whole.
abbrev pub session_frame : List ℕ → Data → Down (List ℕ)
session_frame text rest = cond (has_float rest) strange_frame (of_session text (compact_text rest))

-- what an object is, by the session that it names; a session that is no text is none that a front has
abbrev pub down_named : Field (List ℕ) → Members → Down (List ℕ)
down_named Missing ms = bare (if_there (field_of as_whole (codes "id") ms))
down_named WrongKind ms = strange_frame
down_named (Is text) ms = session_frame text (without_session (object ms))

-- what a value is that may be an object
abbrev pub down_object : Option Members → Down (List ℕ)
down_object None = bare None
down_object (Some ms) = down_named (field_of as_str session_name ms) ms

-- what a value is, where the frame is JSON
abbrev pub down_value : Option Data → Down (List ℕ)
down_value None = bare None
down_value (Some d) = down_object (as_object d)

-- what a frame is that comes down
abbrev pub frame_down : List ℕ → Down (List ℕ)
frame_down frame = down_value (json_of frame)

-- ---- replies to an attach and a detach

-- ids of attaches and detaches are those from 2^52 on that a message carries, which no ask and no fetch of a front has
abbrev pub is_target_id : ℕ → Bool
is_target_id id = nat_le fetch_limit id && is_counted id

-- The number of the session with this text: `S` and the digits, without a leading zero, of a number from 1 to 2^53-1. The digits are
-- read as those of a sheet's id, which has `s` in the place of `S`.
abbrev pub session_number : List ℕ → Option ℕ
session_number [] = None
session_number (c ∷ digits) = cond (c == 83) (sheet_in (115 ∷ digits)) None

-- the session of that text is attached, where the text has a number
abbrev pub made_numbered : List ℕ → Option ℕ → Result (TargetOutcome (List ℕ)) FrontKind
made_numbered text None = Err NotMessage
made_numbered text (Some n) = Ok (session_made text n)

-- the session that the result of an attach tells, if it tells one
abbrev pub made_told : Option (List ℕ × ⊤) → Result (TargetOutcome (List ℕ)) FrontKind
made_told None = Err NotMessage
made_told (Some p) = made_numbered p.0 (session_number p.0)

-- what an Ok reply with this result says; any object is the empty result of a detach
abbrev pub result_says : TargetKind → Data → Result (TargetOutcome (List ℕ)) FrontKind
result_says attach result = made_told (attached_kind.reads result)
result_says detach result = Ok session_dropped

-- what a message says as a reply: an error says that nothing was done
abbrev pub reply_says : TargetKind → Option Message → Result (TargetOutcome (List ℕ)) FrontKind
reply_says kind None = Err NotMessage
reply_says kind (Some (reply id result)) = result_says kind result
reply_says kind (Some (fault id code text)) = Ok nothing_done
reply_says kind (Some (event n)) = Err NotMessage

-- what a frame says as the reply to an attach or a detach
abbrev pub target_says : TargetKind → List ℕ → Result (TargetOutcome (List ℕ)) FrontKind
target_says kind frame = reply_says kind (down_of frame)
