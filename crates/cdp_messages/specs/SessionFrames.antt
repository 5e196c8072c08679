-- Frames of an attached session: what they ask, but for the property that names the session.
use Rattle.std.specs.Prelude.{◌≡◌, ℕ, List, codes, true, false, cond, Option, Some, None, option_map, Result, bytes_eq, IsUtf8}
use Rattle.serde_json.specs.Data.{Data, null, boolean, number, string, array, object, Members, no_members, member}
use Rattle.cdp_json.specs.Plain.{is_plain}
use Rattle.cdp_json.specs.Kinds.{is_counted, holds_of_some}
use Rattle.cdp_messages.specs.declared.command.Asked.{Asked}
use Rattle.cdp_messages.specs.declared.command.Refused.{Refused}
use Rattle.cdp_messages.specs.Asked.{json_of, asked_by, asked_value, command_of, command_value, command_text}
use Rattle.cdp_messages.specs.Laws.{Shallow}

-- the name of the property that names a session
abbrev pub session_name : List ℕ
session_name = codes "sessionId"

-- an object without the property of this name; no name stands twice in an object
abbrev pub without : List ℕ → Members → Members
without k no_members = no_members
without k (member l d ms) = cond (bytes_eq k l) ms (member l d (without k ms))

-- a value without its session, if it is an object that has one
abbrev pub without_session : Data → Data
without_session null = null
without_session (boolean b) = boolean b
without_session (number n) = number n
without_session (string s) = string s
without_session (array ds) = array ds
without_session (object ms) = object (without session_name ms)

-- what these bytes ask as a frame of an attached session: what they ask without it, our own two methods being unknown
abbrev pub session_asked : List ℕ → Result Asked Refused
session_asked bytes = asked_value false (option_map without_session (json_of bytes))

-- a command that was written for a session is asked in it as the command without it
abbrev pub SessionsAreAsked : Type 0
SessionsAreAsked = (id : ℕ) (method : List ℕ) (params : Option Data) (session : Data) → is_counted id ≡ true
    → holds_of_some is_plain params ≡ true → is_plain session ≡ true
    → Shallow (command_value id method params (Some session)) → IsUtf8 (command_text id method params (Some session))
    → session_asked (command_text id method params (Some session)) ≡ asked_by id (command_of false method params None)
