-- Fields of an object that are looked up by their names, one after the other. What else stands in the object counts for nothing.
use Rattle.std.specs.Prelude.{ℕ, List, [], ◌∷◌, Bool, true, not, ◌&&◌, Option, Some, None, option_map, option_and_then, Result, Ok, Err}
use Rattle.std.specs.Prelude.{bytes_eq, ⊤}
use Rattle.std.specs.List.{list_all}
use Rattle.serde_json.specs.Data.{object, Members, no_members, put}
use Rattle.serde_json.specs.Find.{as_object}
use Rattle.cdp_json.specs.declared.fields.Field.{Field}
use Rattle.cdp_json.specs.declared.fields.Field.TheVariants.{Is, Missing, WrongKind}
use Rattle.cdp_json.specs.Fields.{field_of}
use Rattle.cdp_json.specs.Kinds.{Kind, holds_of_some}
use Rattle.cdp_json.specs.Writes.{put_some}

-- the first refusal of two, one after the other
abbrev pub then_ok : {A B E : Type 0} → Result A E → (A → Result B E) → Result B E
then_ok (Ok x) f = f x
then_ok (Err e) f = Err e

-- a field that may be absent, and else is of the kind
abbrev pub optional : {A E : Type 0} → E → Field A → Result (Option A) E
optional e Missing = Ok None
optional e WrongKind = Err e
optional e (Is x) = Ok (Some x)

-- a field that is there and is of the kind
abbrev pub required : {A E : Type 0} → E → Field A → Result A E
required e Missing = Err e
required e WrongKind = Err e
required e (Is x) = Ok x

-- `T` is what the fields say, `names` are all that are looked up, and `gets` refuses with the first that does not fit.
pub record Lookups (E T : Type 0) : Type 0 where
  pub names : List (List ℕ)
  pub gets : Members → Result T E
  pub puts : T → Members
  pub fits : T → Bool

-- no field
abbrev pub no_lookups : {E : Type 0} → Lookups E ⊤
no_lookups = record { names = []; gets = λ _. Ok tt; puts = λ _. no_members; fits = λ _. true }

-- what stands in front, and then what follows
abbrev pub with_later : {A B E : Type 0} → (Members → Result B E) → Members → A → Result (A × B) E
with_later gets ms a = then_ok (gets ms) (λ b. Ok (a, b))

-- a field that has to be there, before the others; the refusal is e
abbrev pub look_for : {E A B : Type 0} → List ℕ → E → Kind A → Lookups E B → Lookups E (A × B)
look_for name e k later = record {
  names = name ∷ later.names;
  gets = λ ms. then_ok (required e (field_of k.reads name ms)) (with_later later.gets ms);
  puts = λ x. put name (k.spell x.0) (later.puts x.1);
  fits = λ x. k.fits x.0 && later.fits x.1;
}

-- a field that may be absent, before the others
abbrev pub may_look_for : {E A B : Type 0} → List ℕ → E → Kind A → Lookups E B → Lookups E (Option A × B)
may_look_for name e k later = record {
  names = name ∷ later.names;
  gets = λ ms. then_ok (optional e (field_of k.reads name ms)) (with_later later.gets ms);
  puts = λ x. put_some name (option_map k.spell x.0) (later.puts x.1);
  fits = λ x. holds_of_some k.fits x.0 && later.fits x.1;
}

-- the value, where there is one
abbrev pub ok_value : {A E : Type 0} → Result A E → Option A
ok_value (Ok x) = Some x
ok_value (Err e) = None

-- an object that has these fields, beside any others; written with these alone
abbrev pub object_with : {E T : Type 0} → Lookups E T → Kind T
object_with l = record {
  spell = λ x. object (l.puts x);
  reads = λ d. option_and_then (λ ms. ok_value (l.gets ms)) (as_object d);
  fits = l.fits;
  loose = None;
}

-- the name is none of these
abbrev pub is_none_of : List ℕ → List (List ℕ) → Bool
is_none_of name names = list_all (λ n. not (bytes_eq name n)) names
