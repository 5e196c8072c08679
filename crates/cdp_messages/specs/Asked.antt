-- What a frame asks: a command and its id, or the first refusal that applies.
use Rattle.std.specs.Prelude.{ℕ, List, codes, Bool, true, not, cond, Option, Some, None, Result, Ok, Err, ⊤}
use Rattle.std.specs.Str.{is_utf8}
use Rattle.serde_json.specs.Data.{Data, Members, no_members}
use Rattle.serde_json.specs.Find.{get_member, as_str, as_object}
use Rattle.serde_json.specs.Read.{read}
use Rattle.serde_json.specs.Written.{compact_text, has_float}
use Rattle.cdp_json.specs.Kinds.{Kind, whole, text, anything, as_whole}
use Rattle.cdp_json.specs.declared.fields.Field.{Field}
use Rattle.cdp_json.specs.declared.fields.Field.TheVariants.{Is, Missing, WrongKind}
use Rattle.cdp_json.specs.Fields.{field_of}
use Rattle.cdp_json.specs.Lookups.{then_ok}
use Rattle.cdp_json.specs.Rows.{Row, ends, and_need, and_may, object_of}
use Rattle.cdp_messages.specs.declared.command.Command.{Command}
use Rattle.cdp_messages.specs.declared.command.Why.{Why}
use Rattle.cdp_messages.specs.declared.command.Why.TheVariants.{NotJson, NoId, BadRequest, NoSession, NoMethod}
use Rattle.cdp_messages.specs.declared.command.Asked.{Asked}
use Rattle.cdp_messages.specs.declared.command.Refused.{Refused}
use Rattle.cdp_messages.specs.declared.method.Method.{Method}
use Rattle.cdp_messages.specs.Methods.{name_of, known_method}
use Rattle.cdp_messages.specs.Parameters.{command_by, parameters_form}

-- ---- a frame's JSON

-- the value that the bytes are, where they are UTF-8 and JSON
abbrev pub json_of : List ℕ → Option Data
json_of bytes = cond (is_utf8 bytes) (read bytes) None

-- ---- commands

-- the command of a method, where there is one
abbrev pub of_method : Option Method → Members → Result Command Why
of_method None params = Err NoMethod
of_method (Some m) params = command_by m params

-- the command of the method of that name with these parameters; `own` says whether our own two methods are known
abbrev pub command_for : Bool → List ℕ → Members → Result Command Why
command_for own name params = of_method (known_method own name) params

-- no frame names a session
abbrev pub unless_session : {A : Type 0} → Option Data → Result A Why → Result A Why
unless_session None command = command
unless_session (Some session) command = Err NoSession

-- parameters are an object
abbrev pub or_bad_request : Option Members → Result Members Why
or_bad_request None = Err BadRequest
or_bad_request (Some params) = Ok params

-- the parameters of a frame, the empty object where it has none
abbrev pub params_of : Option Data → Result Members Why
params_of None = Ok no_members
params_of (Some d) = or_bad_request (as_object d)

-- what is asked by a method, with parameters and a session where they are given
abbrev pub command_of : Bool → List ℕ → Option Data → Option Data → Result Command Why
command_of own method params session = then_ok (params_of params) (λ ps. unless_session session (command_for own method ps))

-- a frame's method is a text
abbrev pub method_in : Field (List ℕ) → Result (List ℕ) Why
method_in Missing = Err BadRequest
method_in WrongKind = Err BadRequest
method_in (Is method) = Ok method

-- what a frame's object asks, but for its id
abbrev pub command_in : Bool → Members → Result Command Why
command_in own frame =
    then_ok (method_in (field_of as_str (codes "method") frame)) (λ method.
    command_of own method (get_member (codes "params") frame) (get_member (codes "sessionId") frame))

-- ---- frames

-- a refusal with the id of its frame, if there is one
abbrev pub refusal : Option ℕ → Why → Refused
refusal id why = record { id = id; why = why }

-- what the frame of that id asks
abbrev pub asked_by : ℕ → Result Command Why → Result Asked Refused
asked_by id (Ok command) = Ok (record { id = id; command = command })
asked_by id (Err why) = Err (refusal (Some id) why)

-- a frame's id is a whole number; it comes before all else in the frame
abbrev pub with_id : Field ℕ → Result Command Why → Result Asked Refused
with_id Missing command = Err (refusal None NoId)
with_id WrongKind command = Err (refusal None NoId)
with_id (Is id) command = asked_by id command

-- what an object asks
abbrev pub asked_in : Bool → Option Members → Result Asked Refused
asked_in own None = Err (refusal None NoId)
asked_in own (Some frame) = with_id (field_of as_whole (codes "id") frame) (command_in own frame)

-- what a value asks
abbrev pub asked_value : Bool → Option Data → Result Asked Refused
asked_value own None = Err (refusal None NotJson)
asked_value own (Some d) = asked_in own (as_object d)

-- what these bytes ask, where `own` says whether our own two methods are known
abbrev pub asked : List ℕ → Bool → Result Asked Refused
asked bytes own = asked_value own (json_of bytes)

-- ---- written

-- the members of a command: its id, its method, and its parameters and its session where they are given
abbrev pub request_row : Row (ℕ × (List ℕ × (Option Data × (Option Data × ⊤))))
request_row = and_need (codes "id") whole
    (and_need (codes "method") text (and_may (codes "params") anything (and_may (codes "sessionId") anything ends)))

-- a command as JSON
abbrev pub request : Kind (ℕ × (List ℕ × (Option Data × (Option Data × ⊤))))
request = object_of request_row

-- the value that is written for a command
abbrev pub command_value : ℕ → List ℕ → Option Data → Option Data → Data
command_value id method params session = request.spell (id, (method, (params, (session, tt))))

-- the text of a command, without its zero byte
abbrev pub command_text : ℕ → List ℕ → Option Data → Option Data → List ℕ
command_text id method params session = compact_text (command_value id method params session)

-- a command's method
abbrev pub method_of : Command → Method
method_of c = (parameters_form c).method

-- the name of a command's method
abbrev pub method_name : Command → List ℕ
method_name c = name_of (method_of c)

-- the parameters of a command, as they are written
abbrev pub parameters : Command → Data
parameters c = (parameters_form c).parameters

-- each parameter is in its range
abbrev pub fits_command : Command → Bool
fits_command c = (parameters_form c).fits

-- no number in it that is not whole
abbrev pub is_whole_where_there : Option Data → Bool
is_whole_where_there None = true
is_whole_where_there (Some d) = not (has_float d)
