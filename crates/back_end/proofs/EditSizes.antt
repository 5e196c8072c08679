-- A frame that is no refusal has eight bytes at least, and asks for no more edits than it is long.
use Rattle.std.proofs.Common.{◌≡◌, ℕ, ◌+◌, ◌≤◌, Bool, true, false, cond, List, length, codes, Option, Some, None, Result, Ok, Err, refl, ap}
use Rattle.std.proofs.Common.{arith}
use Rattle.std.specs.Str.{is_utf8}
use Rattle.serde_json.specs.Data.{Data, Members, no_members}
use Rattle.serde_json.specs.Find.{get_member, as_str, as_object}
use Rattle.serde_json.specs.Read.{read}
use Rattle.cdp_json.specs.Kinds.{as_whole}
use Rattle.cdp_json.specs.declared.fields.Field.{Field}
use Rattle.cdp_json.specs.declared.fields.Field.TheVariants.{Is, Missing, WrongKind}
use Rattle.cdp_json.specs.Fields.{field_of}
use Rattle.cdp_messages.specs.declared.command.Command.{Command}
use Rattle.cdp_messages.specs.declared.command.Why.{Why}
use Rattle.cdp_messages.specs.declared.command.Asked.{Asked}
use Rattle.cdp_messages.specs.declared.command.Refused.{Refused}
use Rattle.cdp_messages.specs.declared.method.Method.{Method}
use Rattle.cdp_messages.specs.Methods.{known_method}
use Rattle.cdp_messages.specs.Asked.{json_of, of_method, command_for, unless_session, or_bad_request, params_of, command_of, method_in}
use Rattle.cdp_messages.specs.Asked.{command_in, asked_by, with_id, asked_in, asked_value, asked}
use Rattle.back_end.specs.Laws.{edits_asked}
use Rattle.back_end.proofs.FrameSizes.{data_size, members_size, read-long}
use Rattle.back_end.proofs.MemberSizes.{member-size, two-members, then-is, field-is, object-size}
use Rattle.back_end.proofs.CommandRows.{edits_of, edits-by}

-- how large parameters are, where there are some
abbrev pub params_size : Option Data → ℕ
params_size None = 0
params_size (Some d) = data_size d

edits-method : (o : Option Method) (ms : Members) (c : Command) → of_method o ms ≡ Ok c → edits_of c ≤ members_size ms
edits-method None ms c is = let no : ◌≡◌ {A = Result Command Why} (of_method None ms) (Ok c) = is in absurd cc
edits-method (Some m) ms c is = edits-by m ms c is

params-small : (params : Option Data) (ms : Members) → params_of params ≡ Ok ms → members_size ms ≤ params_size params
params-small None ms is = let same : no_members ≡ ms = cc in let e : 0 ≡ members_size ms = ap members_size same in omega arith
params-small (Some d) ms is = small (as_object d) (object-size d ms) is
  where
    small : (o : Option Members) → (o ≡ Some ms → data_size d ≡ 2 + members_size ms) → or_bad_request o ≡ Ok ms
        → members_size ms ≤ data_size d
    small None size is = let no : ◌≡◌ {A = Result Members Why} (or_bad_request None) (Ok ms) = is in absurd cc
    small (Some ns) size is = let same : ns ≡ ms = cc in let e = size (ap Some same) in omega arith

unless-is : {A : Type 0} (session : Option Data) (r : Result A Why) (x : A) → unless_session session r ≡ Ok x → r ≡ Ok x
unless-is None r x e = e
unless-is {A} (Some s) r x e = let no : ◌≡◌ {A = Result A Why} (unless_session (Some s) r) (Ok x) = e in absurd cc

-- a command keeps no more edits than its parameters are large
pub edits-params : (own : Bool) (method : List ℕ) (params session : Option Data) (c : Command)
    → command_of own method params session ≡ Ok c → edits_of c ≤ params_size params
edits-params own method params session c is =
    let ps = then-is (params_of params) (λ ms. unless_session session (command_for own method ms)) c is in
    let few = edits-method (known_method own method) ps.0 c (unless-is session (command_for own method ps.0) c ps.2) in
    let small = params-small params ps.0 ps.1 in
    omega arith

-- ---- frames

-- what a frame is that is no refusal: an object with an id and a method, and a command with its parameters
pub record IsFrameOf (own : Bool) (frame : List ℕ) (a : Asked) : Type 0 where
  pub value : Data
  pub members : Members
  pub method : List ℕ
  pub read_is : read frame ≡ Some value
  pub object_is : as_object value ≡ Some members
  pub id_is : field_of as_whole (codes "id") members ≡ Is a.id
  pub method_is : field_of as_str (codes "method") members ≡ Is method
  pub command_is : command_of own method (get_member (codes "params") members) (get_member (codes "sessionId") members) ≡ Ok a.command

-- what is read of a text is read of its bytes
pub utf8-read : (b : Bool) (o : Option Data) (d : Data) → cond b o None ≡ Some d → o ≡ Some d
utf8-read true o d e = e
utf8-read false o d e = absurd cc

-- a method that is no refusal is that of its field
pub method-in : (f : Field (List ℕ)) (m : List ℕ) → method_in f ≡ Ok m → f ≡ Is m
method-in Missing m e = let no : ◌≡◌ {A = Result (List ℕ) Why} (method_in Missing) (Ok m) = e in absurd cc
method-in WrongKind m e = let no : ◌≡◌ {A = Result (List ℕ) Why} (method_in WrongKind) (Ok m) = e in absurd cc
method-in (Is n) m e = let same : n ≡ m = cc in ap Is same

by-id : (id : ℕ) (r : Result Command Why) (a : Asked) → asked_by id r ≡ Ok a → (id ≡ a.id) × (r ≡ Ok a.command)
by-id id (Ok c) a e = let same : ◌≡◌ {A = Asked} (record { id = id; command = c }) a = cc in
    (ap (λ (x : Asked). x.id) same, ap (λ (x : Asked). Ok x.command) same)
by-id id (Err why) a e = let no : ◌≡◌ {A = Result Asked Refused} (asked_by id (Err why)) (Ok a) = e in absurd cc

-- what was asked has the id and the command that were read
pub with-id : (f : Field ℕ) (r : Result Command Why) (a : Asked) → with_id f r ≡ Ok a → (f ≡ Is a.id) × (r ≡ Ok a.command)
with-id Missing r a e = let no : ◌≡◌ {A = Result Asked Refused} (with_id Missing r) (Ok a) = e in absurd cc
with-id WrongKind r a e = let no : ◌≡◌ {A = Result Asked Refused} (with_id WrongKind r) (Ok a) = e in absurd cc
with-id (Is id) r a e = let p = by-id id r a e in (ap Is p.0, p.1)

object-frame : (own : Bool) (frame : List ℕ) (d : Data) (o : Option Members) (a : Asked) → read frame ≡ Some d → as_object d ≡ o
    → asked_in own o ≡ Ok a → IsFrameOf own frame a
object-frame own frame d None a is there e = let no : ◌≡◌ {A = Result Asked Refused} (asked_in own None) (Ok a) = e in absurd cc
object-frame own frame d (Some ms) a is there e =
    let p = with-id (field_of as_whole (codes "id") ms) (command_in own ms) a e in
    let q = then-is (method_in (field_of as_str (codes "method") ms))
    (λ method. command_of own method (get_member (codes "params") ms) (get_member (codes "sessionId") ms)) a.command p.1 in
    record {
      value = d;
      members = ms;
      method = q.0;
      read_is = is;
      object_is = there;
      id_is = p.0;
      method_is = method-in (field_of as_str (codes "method") ms) q.0 q.1;
      command_is = q.2;
    }

value-frame : (own : Bool) (frame : List ℕ) (o : Option Data) (a : Asked) → json_of frame ≡ o → asked_value own o ≡ Ok a
    → IsFrameOf own frame a
value-frame own frame None a is e = let no : ◌≡◌ {A = Result Asked Refused} (asked_value own None) (Ok a) = e in absurd cc
value-frame own frame (Some d) a is e = object-frame own frame d (as_object d) a (utf8-read (is_utf8 frame) (read frame) d is) refl e

pub frame-of : (own : Bool) (frame : List ℕ) (a : Asked) → asked frame own ≡ Ok a → IsFrameOf own frame a
frame-of own frame a e = value-frame own frame (json_of frame) a refl e

-- the object of a frame is no larger than the frame
frame-size : (own : Bool) (frame : List ℕ) (a : Asked) → (f : IsFrameOf own frame a) → 2 + members_size f.members ≤ length frame
frame-size own frame a f =
    let long = read-long frame f.value f.read_is in
    let size = object-size f.value f.members f.object_is in
    omega arith

-- an id has another name than a method
pub names-apart : codes "id" ≡ codes "method" → ⊥
names-apart e = let n : length (codes "id") ≡ length (codes "method") = ap length e in omega arith

-- a frame that is no refusal has eight bytes at least
pub frame-long : (own : Bool) (frame : List ℕ) (a : Asked) → asked frame own ≡ Ok a → 8 ≤ length frame
frame-long own frame a e =
    let f = frame-of own frame a e in
    let size = frame-size own frame a f in
    let id = field-is as_whole (get_member (codes "id") f.members) a.id f.id_is in
    let method = field-is as_str (get_member (codes "method") f.members) f.method f.method_is in
    let two = two-members (codes "id") (codes "method") f.members id.0 method.0 names-apart id.1 method.1 in
    omega arith

-- parameters are no larger than all members
pub params-within : (ms : Members) (o : Option Data) → get_member (codes "params") ms ≡ o → params_size o ≤ members_size ms
params-within ms None e = omega arith
params-within ms (Some d) e = let h = member-size (codes "params") ms d e in omega arith

-- a frame asks for no more edits to be kept than it is long
command-few : (own : Bool) (frame : List ℕ) (a : Asked) → asked frame own ≡ Ok a → edits_of a.command ≤ length frame
command-few own frame a e =
    let f = frame-of own frame a e in
    let size = frame-size own frame a f in
    let few = edits-params own f.method (get_member (codes "params") f.members)
    (get_member (codes "sessionId") f.members) a.command f.command_is in
    let within = params-within f.members (get_member (codes "params") f.members) refl in
    omega arith

pub edits-few : (own : Bool) (frame : List ℕ) → edits_asked (asked frame own) ≤ length frame
edits-few own frame = at (asked frame own) refl where
  at : (r : Result Asked Refused) → asked frame own ≡ r → edits_asked r ≤ length frame
  at (Ok a) e = command-few own frame a e
  at (Err r) e = omega arith
