-- A frame of the attached session that is no refusal has eight bytes at least, and asks for no more edits than it is long.
use Rattle.std.proofs.Common.{◌≡◌, ℕ, ◌+◌, ◌*◌, ◌≤◌, Bool, true, false, cond, List, length, codes, bytes_eq, Option, Some, None, Result, Ok}
use Rattle.std.proofs.Common.{Err}
use Rattle.std.proofs.Common.{refl, option_map, arith}
use Rattle.std.specs.Str.{is_utf8}
use Rattle.serde_json.specs.Data.{Data, null, boolean, number, string, array, object, Members, no_members, member}
use Rattle.serde_json.specs.Find.{get_member, as_str}
use Rattle.serde_json.specs.Read.{read}
use Rattle.cdp_json.specs.Kinds.{as_whole}
use Rattle.cdp_json.specs.Fields.{field_of}
use Rattle.cdp_messages.specs.declared.command.Asked.{Asked}
use Rattle.cdp_messages.specs.declared.command.Refused.{Refused}
use Rattle.cdp_messages.specs.Asked.{json_of, command_of, method_in, command_in, asked_in, asked_value, asked}
use Rattle.cdp_messages.specs.SessionFrames.{session_name, without, without_session, session_asked}
use Rattle.back_end.specs.Laws.{edits_asked}
use Rattle.back_end.proofs.FrameSizes.{data_size, members_size, read-long}
use Rattle.back_end.proofs.EditSizes.{names-apart, method-in, with-id, utf8-read}
use Rattle.back_end.proofs.CommandRows.{edits_of}
use Rattle.back_end.proofs.MemberSizes.{two-members, then-is, field-is}
use Rattle.back_end.proofs.EditSizes.{params_size, params-within, edits-params, frame-long, edits-few}
use Rattle.inspect_world.specs.Links.{commands_in}

-- a command has eight bytes at least, nine with its zero, and no more edits than bytes
pub record IsSmall (r : Result Asked Refused) (bytes : ℕ) : Type 0 where
  pub commands : commands_in r * 9 ≤ bytes + 1
  pub edits : edits_asked r ≤ bytes

-- ---- what an object is that is a command

value-few : (ms : Members) (a : Asked) (n : ℕ) → asked_in false (Some ms) ≡ Ok a → 2 + members_size ms ≤ n
    → (8 ≤ n) × (edits_of a.command ≤ n)
value-few ms a n e small =
    let p = with-id (field_of as_whole (codes "id") ms) (command_in false ms) a e in
    let q = then-is (method_in (field_of as_str (codes "method") ms))
    (λ method. command_of false method (get_member (codes "params") ms) (get_member (codes "sessionId") ms)) a.command p.1 in
    let id = field-is as_whole (get_member (codes "id") ms) a.id p.0 in
    let method = field-is as_str (get_member (codes "method") ms) q.0 (method-in (field_of as_str (codes "method") ms) q.0 q.1) in
    let two : 6 ≤ members_size ms = two-members (codes "id") (codes "method") ms id.0 method.0 names-apart id.1 method.1 in
    let few : edits_of a.command ≤ params_size (get_member (codes "params") ms) =
    edits-params false q.0 (get_member (codes "params") ms) (get_member (codes "sessionId") ms) a.command q.2 in
    let within : params_size (get_member (codes "params") ms) ≤ members_size ms = params-within ms (get_member (codes "params") ms) refl in
    (omega (arith, two, small), omega (arith, few, within, small))

value-small : (ms : Members) (n : ℕ) (r : Result Asked Refused) → asked_in false (Some ms) ≡ r → 2 + members_size ms ≤ n → IsSmall r n
value-small ms n (Ok a) e small = let h = value-few ms a n e small in record { commands = omega (arith, h.0); edits = h.1 }
value-small ms n (Err r) e small = record { commands = omega arith; edits = omega arith }

-- ---- a frame without its session

without-size : (k : List ℕ) (ms : Members) → members_size (without k ms) ≤ members_size ms
without-size k no_members = omega arith
without-size k (member l d ms) = at (bytes_eq k l) (without-size k ms) where
  at : (b : Bool) → members_size (without k ms) ≤ members_size ms
      → members_size (cond b ms (member l d (without k ms))) ≤ members_size (member l d ms)
  at true less = omega arith
  at false less = omega (arith, less)

refusal-small : (r : Refused) (n : ℕ) → IsSmall (Err r) n
refusal-small r n = record { commands = omega arith; edits = omega arith }

by-value : (d : Data) (n : ℕ) → data_size d ≤ n → IsSmall (asked_value false (Some (without_session d))) n
by-value null n long = refusal-small _ n
by-value (boolean b) n long = refusal-small _ n
by-value (number x) n long = refusal-small _ n
by-value (string s) n long = refusal-small _ n
by-value (array ds) n long = refusal-small _ n
by-value (object ms) n long =
    value-small (without session_name ms) n (asked_in false (Some (without session_name ms))) refl
    (omega (arith, long, without-size session_name ms))

pub session-small : (frame : List ℕ) → IsSmall (session_asked frame) (length frame)
session-small frame = at (json_of frame) refl where
  at : (o : Option Data) → json_of frame ≡ o → IsSmall (asked_value false (option_map without_session o)) (length frame)
  at None e = refusal-small _ (length frame)
  at (Some d) e = by-value d (length frame) (read-long frame d (utf8-read (is_utf8 frame) (read frame) d e))

-- ---- a frame of the root

root-command : (frame : List ℕ) (r : Result Asked Refused) → asked frame false ≡ r → commands_in r * 9 ≤ length frame + 1
root-command frame (Ok a) e = let long : 8 ≤ length frame = frame-long false frame a e in omega (arith, long)
root-command frame (Err r) e = omega arith

pub root-small : (frame : List ℕ) → IsSmall (asked frame false) (length frame)
root-small frame = record { commands = root-command frame (asked frame false) refl; edits = edits-few false frame }
