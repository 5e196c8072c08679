-- A session as the last property of each message.
use Rattle.std.specs.Prelude.{◌≡◌, ℕ, List, All}
use Rattle.std.specs.List.{flat_map}
use Rattle.serde_json.specs.Data.{Data, null, boolean, number, string, array, object, put}
use Rattle.serde_json.specs.Written.{compact_text}
use Rattle.pipe_frames.specs.Frames.{IsText, framed}
use Rattle.cdp_messages.specs.Replies.{Message, message_data, message_text, message_frames}
use Rattle.cdp_messages.specs.SessionFrames.{session_name}
use Rattle.session_mux.specs.Sessions.{session_text}

-- these bytes are what the writers append for messages, whose texts have no zero byte
pub record AreMessages (bytes : List ℕ) : Type 0 where
  pub messages : List Message
  pub texts : All (λ m. IsText (message_text m)) messages
  pub is : bytes ≡ message_frames messages

-- an object with the session of that number as one of its properties
abbrev pub with_session : ℕ → Data → Data
with_session n null = null
with_session n (boolean b) = boolean b
with_session n (number x) = number x
with_session n (string s) = string s
with_session n (array ds) = array ds
with_session n (object ms) = object (put session_name (string (session_text n)) ms)

-- a message of that session, as it is sent
abbrev pub session_frame : ℕ → Message → List ℕ
session_frame n m = framed (compact_text (with_session n (message_data m)))

-- messages of that session, as they are sent
abbrev pub session_frames : ℕ → List Message → List ℕ
session_frames n ms = flat_map (session_frame n) ms
