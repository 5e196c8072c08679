-- Messages on their way down: replies, error replies and events.
use Rattle.std.specs.Prelude.{ℕ, ℤ, List, codes, Bool, Option, Some, None, option_map, option_and_then, ⊤}
use Rattle.std.specs.Borrow.{Bor}
use Rattle.std.specs.List.{flat_map}
use Rattle.serde_json.specs.Data.{Data}
use Rattle.serde_json.specs.View.{view}
use Rattle.serde_json.specs.Written.{compact_text}
use Rattle.cdp_json.specs.Kinds.{Kind, whole, signed, text, anything, refined}
use Rattle.cdp_json.specs.Rows.{Row, ends, and_need, and_may, object_of}
use Rattle.pipe_frames.specs.Frames.{framed}
use Rattle.cdp_messages.specs.declared.command.Refused.{Refused}
use Rattle.cdp_messages.specs.declared.down.Down.{Down}
use Rattle.cdp_messages.specs.declared.down.Down.TheVariants.{Reply, Fault, Event}
use Rattle.cdp_messages.specs.declared.down.ReplyBody.{ReplyBody}
use Rattle.cdp_messages.specs.declared.method.Method.{Method}
use Rattle.cdp_messages.specs.Methods.{method_named}
use Rattle.cdp_messages.specs.Refusals.{code_of, refusal_words}
use Rattle.cdp_messages.specs.Asked.{json_of}
use Rattle.cdp_messages.specs.Events.{is_object, News, news_of, news_data, fits_news, news_in}
use Rattle.cdp_messages.specs.Results.{body_data, result_by}
use Rattle.cdp_messages.specs.Methods.{result_form}
use Rattle.node_tree.specs.Keys.{first_of}

-- ---- messages

-- a message from the back end, with a result as JSON
pub data Message : Type 0 where
  reply : ℕ → Data → Message
  fault : Option ℕ → ℤ → List ℕ → Message
  event : News → Message

-- a message as code holds it
abbrev pub message_of : Down → Message
message_of (Reply id result) = reply id (view result)
message_of (Fault id code said) = fault id code said
message_of (Event e) = event (news_of e)

-- the members of a reply: its id, and an object as its result
abbrev pub reply_row : Row (ℕ × (Data × ⊤))
reply_row = and_need (codes "id") whole (and_need (codes "result") (refined anything is_object) ends)

-- a reply as JSON
abbrev pub reply_kind : Kind (ℕ × (Data × ⊤))
reply_kind = object_of reply_row

-- the members of an error: its code and its text
abbrev pub error_row : Row (ℤ × (List ℕ × ⊤))
error_row = and_need (codes "code") signed (and_need (codes "message") text ends)

-- an error as JSON
abbrev pub error_kind : Kind (ℤ × (List ℕ × ⊤))
error_kind = object_of error_row

-- an error as code holds it
abbrev pub error_seen : ℤ × Bor (List ℕ) → ℤ × (List ℕ × ⊤)
error_seen e = (e.0, (e.1.now, tt))

-- the members of an error reply: its error, and the id of the frame where it has one
abbrev pub fault_row : Row ((ℤ × (List ℕ × ⊤)) × (Option ℕ × ⊤))
fault_row = and_need (codes "error") error_kind (and_may (codes "id") whole ends)

-- an error reply as JSON
abbrev pub fault_kind : Kind ((ℤ × (List ℕ × ⊤)) × (Option ℕ × ⊤))
fault_kind = object_of fault_row

-- the value that spells a message
abbrev pub message_data : Message → Data
message_data (reply id result) = reply_kind.spell (id, (result, tt))
message_data (fault id code said) = fault_kind.spell ((code, (said, tt)), (id, tt))
message_data (event n) = news_data n

-- a message that is spelled: its id is below 2^53, its result an object, its code one of 64 bits
abbrev pub fits_message : Message → Bool
fits_message (reply id result) = reply_kind.fits (id, (result, tt))
fits_message (fault id code said) = fault_kind.fits ((code, (said, tt)), (id, tt))
fits_message (event n) = fits_news n

-- the reply of these members
abbrev pub reply_from : ℕ × (Data × ⊤) → Message
reply_from p = reply p.0 p.1.0

-- the error reply of these members
abbrev pub fault_from : (ℤ × (List ℕ × ⊤)) × (Option ℕ × ⊤) → Message
fault_from p = fault p.1.0 p.0.0 p.0.1.0

-- the message that a value spells
abbrev pub message_in : Data → Option Message
message_in d = first_of (option_map reply_from (reply_kind.reads d))
    (first_of (option_map fault_from (fault_kind.reads d)) (option_map event (news_in d)))

-- the message that these bytes are
abbrev pub down_of : List ℕ → Option Message
down_of bytes = option_and_then message_in (json_of bytes)

-- ---- results

-- the result of that method that a value spells, if there is such a method
abbrev pub result_of_method : Option Method → Data → Option ReplyBody
result_of_method None d = None
result_of_method (Some m) d = result_by (result_form m) d

-- the result of the method of that name that a value spells; none of a name that no method has
abbrev pub result_of : List ℕ → Data → Option ReplyBody
result_of method d = result_of_method (method_named method) d

-- ---- texts, without their zero bytes, and frames, with them

-- the text of a message
abbrev pub message_text : Message → List ℕ
message_text m = compact_text (message_data m)

-- a message as it is sent
abbrev pub message_frame : Message → List ℕ
message_frame m = framed (message_text m)

-- messages as they are sent, one after the other
abbrev pub message_frames : List Message → List ℕ
message_frames ms = flat_map message_frame ms

-- the text of a reply
abbrev pub reply_text : ℕ → ReplyBody → List ℕ
reply_text id body = compact_text (message_data (reply id (body_data body)))

-- the message that tells a refusal
abbrev pub refusal_message : Refused → Message
refusal_message r = fault r.id (code_of r.why) (refusal_words r.why)

-- the text of a refusal
abbrev pub refused_text : Refused → List ℕ
refused_text r = compact_text (message_data (refusal_message r))

-- the text of an event
abbrev pub event_text : News → List ℕ
event_text n = compact_text (message_data (event n))
