-- What a frame asks has its parameters in their ranges, and a refusal an id in its range.
use Rattle.std.proofs.Common.{◌≡◌, ℕ, Bool, true, false, List, Option, Some, None, refl, sym, ◌∙◌, ap, Result, Ok, Err}
use Rattle.serde_json.specs.Data.{Data, Num, unsigned, negative, float, Members}
use Rattle.serde_json.specs.Find.{as_number, as_object}
use Rattle.std.specs.Prelude.{codes, option_map}
use Rattle.serde_json.specs.Find.{get_member}
use Rattle.cdp_json.specs.Kinds.{is_counted, holds_of_some, as_whole, unsigned_from}
use Rattle.cdp_json.specs.declared.fields.Field.{Field}
use Rattle.cdp_json.specs.declared.fields.Field.TheVariants.{Is, Missing, WrongKind}
use Rattle.cdp_json.specs.Fields.{field_if, field_from, field_of}
use Rattle.cdp_json.proofs.Options.{and_then_some, if_some}
use Rattle.cdp_messages.specs.declared.command.Command.{Command}
use Rattle.cdp_messages.specs.declared.command.Asked.{Asked}
use Rattle.cdp_messages.specs.declared.command.Refused.{Refused}
use Rattle.cdp_messages.specs.declared.command.Why.{Why}
use Rattle.cdp_messages.specs.declared.command.Why.TheVariants.{NoId, NotJson}
use Rattle.cdp_messages.specs.Asked.{json_of, fits_command, command_in, refusal, asked_by, with_id, asked_in, asked_value, asked}
use Rattle.cdp_messages.specs.SessionFrames.{without_session, session_asked}
use Rattle.cdp_messages.proofs.Commands.{answers_fit}

-- ---- ids

counted-is : (n : Num) (id : ℕ) → unsigned_from n ≡ Some id → is_counted id ≡ true
counted-is (unsigned m) id e = let p = if_some (is_counted m) m id e in ap is_counted (sym p.1) ∙ p.0
counted-is (negative z) id e = let no : ◌≡◌ {A = Option ℕ} None (Some id) = e in absurd cc
counted-is (float x) id e = let no : ◌≡◌ {A = Option ℕ} None (Some id) = e in absurd cc

pub whole-is : (d : Data) (id : ℕ) → as_whole d ≡ Some id → is_counted id ≡ true
whole-is d id e = let p = and_then_some unsigned_from (as_number d) id e in counted-is p.0 id p.2

-- a field that is read as a whole number
field-whole : (o : Option Data) (id : ℕ) → field_from as_whole o ≡ Is id → is_counted id ≡ true
field-whole None id e = let no : ◌≡◌ {A = Field ℕ} Missing (Is id) = e in absurd cc
field-whole (Some d) id e =
    (elim (as_whole d) as (λ (r : Option ℕ). as_whole d ≡ r → field_if r ≡ Is id → is_counted id ≡ true) [
      | None ↦ λ is no. let other : ◌≡◌ {A = Field ℕ} WrongKind (Is id) = no in absurd cc
      | Some n ↦ λ is yes. let same : n ≡ id = cc yes in ap is_counted (sym same) ∙ whole-is d n is
    ]) refl e

-- ---- refusals

-- the id of a refusal is below 2^53, where it has one
refused-same : (id : Option ℕ) (why : Why) (r : Refused) → ◌≡◌ {A = Result Asked Refused} (Err (refusal id why)) (Err r)
    → holds_of_some is_counted id ≡ true → holds_of_some is_counted r.id ≡ true
refused-same id why r e counted = let same : refusal id why
    ≡ r = cc in ap (λ (x : Refused). holds_of_some is_counted x.id) (sym same) ∙ counted

refused-by : (id : ℕ) (result : Result Command Why) (r : Refused) → is_counted id ≡ true → asked_by id result ≡ Err r
    → holds_of_some is_counted r.id ≡ true
refused-by id (Ok c) r counted e = let no : ◌≡◌ {A = Result Asked Refused} (Ok (record { id = id; command = c })) (Err r) = e in absurd cc
refused-by id (Err why) r counted e = refused-same (Some id) why r e counted

refused-field : (f : Field ℕ) (result : Result Command Why) (r : Refused) → ((id : ℕ) → f ≡ Is id → is_counted id ≡ true)
    → with_id f result ≡ Err r
    → holds_of_some is_counted r.id ≡ true
refused-field Missing result r counted e = refused-same None _ r e refl
refused-field WrongKind result r counted e = refused-same None _ r e refl
refused-field (Is id) result r counted e = refused-by id result r (counted id refl) e

refused-object : (own : Bool) (o : Option Members) (r : Refused) → asked_in own o ≡ Err r → holds_of_some is_counted r.id ≡ true
refused-object own None r e = refused-same None _ r e refl
refused-object own (Some frame) r e =
    refused-field (field_of as_whole (codes "id") frame) (command_in own frame) r (field-whole (get_member (codes "id") frame)) e

refused-value : (own : Bool) (o : Option Data) (r : Refused) → asked_value own o ≡ Err r → holds_of_some is_counted r.id ≡ true
refused-value own None r e = refused-same None _ r e refl
refused-value own (Some d) r e = refused-object own (as_object d) r e

-- ---- what any frame asks

-- the id of what is asked is below 2^53, and the command's parameters are in their ranges
abbrev pub AskedFits : Result Asked Refused → Type 0
AskedFits (Ok a) = (is_counted a.id ≡ true) × (fits_command a.command ≡ true)
AskedFits (Err r) = holds_of_some is_counted r.id ≡ true

-- what is asked by any value has an id below 2^53
asked-by-counted : (id : ℕ) (r : Result Command Why) (a : Asked) → is_counted id ≡ true → asked_by id r ≡ Ok a → is_counted a.id ≡ true
asked-by-counted id (Ok c) a counted e = let same : id ≡ a.id = cc in ap is_counted (sym same) ∙ counted
asked-by-counted id (Err why) a counted e = let no : ◌≡◌ {A = Result Asked Refused} (Err (refusal (Some id) why)) (Ok a) = e in absurd cc

asked-field : (f : Field ℕ) (r : Result Command Why) (a : Asked) → ((id : ℕ) → f ≡ Is id → is_counted id ≡ true) → with_id f r ≡ Ok a
    → is_counted a.id ≡ true
asked-field Missing r a counted e = let no : ◌≡◌ {A = Result Asked Refused} (Err (refusal None NoId)) (Ok a) = e in absurd cc
asked-field WrongKind r a counted e = let no : ◌≡◌ {A = Result Asked Refused} (Err (refusal None NoId)) (Ok a) = e in absurd cc
asked-field (Is id) r a counted e = asked-by-counted id r a (counted id refl) e

asked-object : (own : Bool) (o : Option Members) (a : Asked) → asked_in own o ≡ Ok a → is_counted a.id ≡ true
asked-object own None a e = let no : ◌≡◌ {A = Result Asked Refused} (Err (refusal None NoId)) (Ok a) = e in absurd cc
asked-object own (Some frame) a e =
    asked-field (field_of as_whole (codes "id") frame) (command_in own frame) a (field-whole (get_member (codes "id") frame)) e

asked-counted : (own : Bool) (o : Option Data) (a : Asked) → asked_value own o ≡ Ok a → is_counted a.id ≡ true
asked-counted own None a e = let no : ◌≡◌ {A = Result Asked Refused} (Err (refusal None NotJson)) (Ok a) = e in absurd cc
asked-counted own (Some d) a e = asked-object own (as_object d) a e

pub value-fits : (own : Bool) (o : Option Data) → AskedFits (asked_value own o)
value-fits own o = at (asked_value own o) refl where
  at : (r : Result Asked Refused) → asked_value own o ≡ r → AskedFits r
  at (Ok a) is = (asked-counted own o a is, answers_fit own o (Ok a) is)
  at (Err r) is = refused-value own o r is

-- the same of a frame, and of one of the attached session
pub frame-fits : (own : Bool) (frame : List ℕ) → AskedFits (asked frame own)
frame-fits own frame = value-fits own (json_of frame)

pub session-fits : (frame : List ℕ) → AskedFits (session_asked frame)
session-fits frame = value-fits false (option_map without_session (json_of frame))
