-- What our own two methods are given has UTF-8 texts, as each frame that is read has.
use Rattle.std.proofs.Common.{◌≡◌, List, ℕ, Bool, true, false, cond, Option, Some, None, Result, Ok, Err, refl, subst, codes}
use Rattle.std.specs.Prelude.{⊤, bytes_eq, option_map, IfOk}
use Rattle.std.specs.Str.{is_utf8}
use Rattle.std.proofs.lemmas.Str.{IsUtf8-from_is_utf8}
use Rattle.serde_json.specs.Data.{Data, null, boolean, number, string, array, object, Members, no_members, member}
use Rattle.serde_json.specs.Find.{get_member, as_str, as_object}
use Rattle.serde_json.specs.Read.{read}
use Rattle.cdp_json.specs.Kinds.{as_whole}
use Rattle.cdp_json.specs.declared.fields.Field.{Field}
use Rattle.cdp_json.specs.declared.fields.Field.TheVariants.{Is, Missing, WrongKind}
use Rattle.cdp_json.specs.Fields.{field_of}
use Rattle.cdp_json.specs.Lookups.{then_ok}
use Rattle.cdp_json.specs.Plain.{HasUtf8, MembersHaveUtf8}
use Rattle.cdp_json.proofs.ReadTexts.{IfSome, read_utf8}
use Rattle.page_forms.proofs.NodeTexts.{object_utf8}
use Rattle.cdp_messages.specs.Answers.{ReadsAsked}
use Rattle.cdp_messages.specs.declared.command.ReadErr.{ReadErr}
use Rattle.cdp_messages.specs.declared.command.Asked.{Asked}
use Rattle.cdp_messages.specs.SessionFrames.{session_name, without, without_session, session_asked}
use Rattle.cdp_messages.specs.declared.command.Command.{Command}
use Rattle.cdp_messages.specs.declared.command.Refused.{Refused}
use Rattle.cdp_messages.specs.declared.command.Why.{Why}
use Rattle.cdp_messages.specs.declared.method.Method.{Method}
use Rattle.cdp_messages.specs.Methods.{known_method}
use Rattle.back_end.proofs.CommandTexts.{member-texts}
use Rattle.cdp_messages.specs.Asked.{json_of, of_method, command_for, unless_session, or_bad_request, params_of, command_of, method_in}
use Rattle.cdp_messages.specs.Asked.{command_in, asked_by, with_id, asked_in, asked_value, asked}
use Rattle.back_end.specs.Texts.{HasServedTexts}
use Rattle.back_end.proofs.CommandRows.{CommandTexts, by-method}

-- the same of a frame
abbrev pub AskedTexts : Result Asked Refused → Type 0
AskedTexts (Ok a) = HasServedTexts a.command
AskedTexts (Err r) = ⊤

-- ---- a frame

-- parameters that are an object
abbrev ParamsTexts : Result Members Why → Type 0
ParamsTexts (Ok ms) = MembersHaveUtf8 ms
ParamsTexts (Err why) = ⊤

object-params : (o : Option Members) → IfSome MembersHaveUtf8 o → ParamsTexts (or_bad_request o)
object-params None u = tt
object-params (Some ms) u = u

params-texts : (p : Option Data) → IfSome HasUtf8 p → ParamsTexts (params_of p)
params-texts None u = tt
params-texts (Some d) u = object-params (as_object d) (object_utf8 d u)

method-texts : (o : Option Method) (ms : Members) → MembersHaveUtf8 ms → CommandTexts (of_method o ms)
method-texts None ms u = tt
method-texts (Some m) ms u = by-method m ms u

sessions-texts : (session : Option Data) (r : Result Command Why) → CommandTexts r → CommandTexts (unless_session session r)
sessions-texts None r u = u
sessions-texts (Some d) r u = tt

command-texts : (own : Bool) (name : List ℕ) (params session : Option Data) → IfSome HasUtf8 params
    → CommandTexts (command_of own name params session)
command-texts own name params session u = at (params_of params) (params-texts params u) where
  at : (r : Result Members Why) → ParamsTexts r → CommandTexts (then_ok r (λ ps. unless_session session (command_for own name ps)))
  at (Ok ms) v = sessions-texts session (command_for own name ms) (method-texts (known_method own name) ms v)
  at (Err why) v = tt

in-frame : (own : Bool) (frame : Members) → MembersHaveUtf8 frame → CommandTexts (command_in own frame)
in-frame own frame u = at (method_in (field_of as_str (codes "method") frame)) where
  at : (r : Result (List ℕ) Why)
      → CommandTexts (then_ok r (λ name. command_of own name (get_member (codes "params") frame) (get_member (codes "sessionId") frame)))
  at (Ok name) = command-texts own name (get_member (codes "params") frame) (get_member (codes "sessionId") frame)
      (member-texts (codes "params") frame u)
  at (Err why) = tt

by-id : (id : ℕ) (r : Result Command Why) → CommandTexts r → AskedTexts (asked_by id r)
by-id id (Ok c) u = u
by-id id (Err why) u = tt

with-id : (f : Field ℕ) (r : Result Command Why) → CommandTexts r → AskedTexts (with_id f r)
with-id Missing r u = tt
with-id WrongKind r u = tt
with-id (Is id) r u = by-id id r u

object-texts : (own : Bool) (o : Option Members) → IfSome MembersHaveUtf8 o → AskedTexts (asked_in own o)
object-texts own None u = tt
object-texts own (Some frame) u = with-id (field_of as_whole (codes "id") frame) (command_in own frame) (in-frame own frame u)

pub value-texts : (own : Bool) (o : Option Data) → IfSome HasUtf8 o → AskedTexts (asked_value own o)
value-texts own None u = tt
value-texts own (Some d) u = object-texts own (as_object d) (object_utf8 d u)

pub json-texts : (bytes : List ℕ) → IfSome HasUtf8 (json_of bytes)
json-texts bytes = at (is_utf8 bytes) refl where
  read-texts : (o : Option Data) → is_utf8 bytes ≡ true → read bytes ≡ o → IfSome HasUtf8 o
  read-texts None is e = tt
  read-texts (Some d) is e = read_utf8 bytes d (IsUtf8-from_is_utf8 bytes is) e

  at : (b : Bool) → is_utf8 bytes ≡ b → IfSome HasUtf8 (cond b (read bytes) None)
  at true is = read-texts (read bytes) is refl
  at false is = tt

-- what is asked of a frame has UTF-8 texts
pub frame-texts : (own : Bool) (frame : List ℕ) → AskedTexts (asked frame own)
frame-texts own frame = value-texts own (json_of frame) (json-texts frame)

-- ---- a frame of the attached session

without-one : (b : Bool) (l : List ℕ) (d : Data) (ms rest : Members) → MembersHaveUtf8 (member l d ms) → MembersHaveUtf8 rest
    → MembersHaveUtf8 (cond b ms (member l d rest))
without-one true l d ms rest u v = u.2
without-one false l d ms rest u v = (u.0, u.1, v)

without-utf8 : (name : List ℕ) (ms : Members) → MembersHaveUtf8 ms → MembersHaveUtf8 (without name ms)
without-utf8 name no_members u = tt
without-utf8 name (member l d ms) u = without-one (bytes_eq name l) l d ms (without name ms) u (without-utf8 name ms u.2)

session-utf8 : (d : Data) → HasUtf8 d → HasUtf8 (without_session d)
session-utf8 null u = u
session-utf8 (boolean b) u = u
session-utf8 (number n) u = u
session-utf8 (string s) u = u
session-utf8 (array ds) u = u
session-utf8 (object ms) u = without-utf8 session_name ms u

-- what is asked by it has UTF-8 texts
pub session-texts : (frame : List ℕ) → AskedTexts (session_asked frame)
session-texts frame = value-texts false (option_map without_session (json_of frame)) (at (json_of frame) (json-texts frame)) where
  at : (o : Option Data) → IfSome HasUtf8 o → IfSome HasUtf8 (option_map without_session o)
  at None u = tt
  at (Some d) u = session-utf8 d u

-- what was read of it has such texts too
pub read-texts : (result : Result Asked ReadErr) (r : Result Asked Refused) → ReadsAsked result r → AskedTexts r
    → IfOk result (λ (a : Asked). HasServedTexts a.command)
read-texts (Ok a) r is texts = subst AskedTexts is texts
read-texts (Err e) r is texts = tt
