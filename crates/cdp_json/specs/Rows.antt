-- The fields of an object, in the order of their names: how they are spelled, and how they are read one after another.
use Rattle.std.specs.Prelude.{ℕ, List, [], ◌∷◌, Bool, true, false, ◌&&◌, if◌then◌else◌, Option, Some, None, option_map, option_and_then}
use Rattle.std.specs.Prelude.{is_some, bytes_eq, ⊤}
use Rattle.serde_json.specs.Data.{Data, object, Members, no_members, member}
use Rattle.serde_json.specs.Find.{as_object}
use Rattle.cdp_json.specs.Kinds.{Kind, holds_of_some, only_true}

-- a value, with what is left after it
abbrev pub left_with : {A B : Type 0} → B → A → A × B
left_with b a = (a, b)

-- the first member's value, if it has this name
abbrev pub first_at : List ℕ → Members → Option Data
first_at name no_members = None
first_at name (member k d ms) = if bytes_eq name k then Some d else None

-- the members after the first
abbrev pub after_first : Members → Members
after_first no_members = no_members
after_first (member k d ms) = ms

-- the member of this name has to stand first, and its value is of the kind
abbrev pub need : {T : Type 0} → (Data → Option T) → List ℕ → Members → Option (T × Members)
need reads name ms = option_map (left_with (after_first ms)) (option_and_then reads (first_at name ms))

-- a value that is there, with what is left after it
abbrev pub some_beside : {A B : Type 0} → B → A → Option A × B
some_beside b a = (Some a, b)

-- a field that may be absent, by its JSON if any, with what is left after it; None where the JSON cannot be read
abbrev pub may_from : {T : Type 0} → (Data → Option T) → Members → Option Data → Option (Option T × Members)
may_from reads ms None = Some (None, ms)
may_from reads ms (Some d) = option_map (some_beside (after_first ms)) (reads d)

-- the member of this name may stand first, and then its value is of the kind
abbrev pub may : {T : Type 0} → (Data → Option T) → List ℕ → Members → Option (Option T × Members)
may reads name ms = may_from reads ms (first_at name ms)

-- whether there is a value, with what is left after it
abbrev pub is_there : {A B : Type 0} → Option A × B → Bool × B
is_there p = (is_some p.0, p.1)

-- the member of this name may stand first, and then its value is `true`
abbrev pub may_true : List ℕ → Members → Option (Bool × Members)
may_true name ms = option_map is_there (may only_true.reads name ms)

-- no member is left
abbrev pub is_done : Members → Bool
is_done no_members = true
is_done (member k d ms) = false

-- a member, where there is a value for it
abbrev pub maybe_member : List ℕ → Option Data → Members → Members
maybe_member name None ms = ms
maybe_member name (Some d) ms = member name d ms

-- a name, and the value that is written for it, if any
abbrev pub Written : Type 0
Written = List ℕ × Option Data

-- the fields that have a value, in their order
abbrev pub members_of : List Written → Members
members_of [] = no_members
members_of (f ∷ fs) = maybe_member f.0 f.1 (members_of fs)

-- `names` are all that the fields may have.
pub record Row (T : Type 0) : Type 0 where
  pub names : List (List ℕ)
  pub writes : T → List Written
  pub gets : Members → Option T
  pub fits : T → Bool
  pub loose : Option (T → Bool)

-- a value just where the condition holds
abbrev pub unit_if : Bool → Option ⊤
unit_if b = if b then Some tt else None

-- no further field
abbrev pub ends : Row ⊤
ends = record { names = []; writes = λ _. []; gets = λ ms. unit_if (is_done ms); fits = λ _. true; loose = None }

-- a field's value, and then the later fields
abbrev pub and_then : {A B : Type 0} → (Members → Option B) → Option (A × Members) → Option (A × B)
and_then gets found = option_and_then (λ p. option_map (λ b. (p.0, b)) (gets p.1)) found

-- the test of the loose parts of a pair, by those of its two sides
abbrev pub both_loose : {A B : Type 0} → Option (A → Bool) → Option (B → Bool) → Option (A × B → Bool)
both_loose None None = None
both_loose None (Some g) = Some (λ p. g p.1)
both_loose (Some f) None = Some (λ p. f p.0)
both_loose (Some f) (Some g) = Some (λ p. f p.0 && g p.1)

-- a field, before those of the row
abbrev pub and_need : {A B : Type 0} → List ℕ → Kind A → Row B → Row (A × B)
and_need name k row = record {
  names = name ∷ row.names;
  writes = λ p. (name, Some (k.spell p.0)) ∷ row.writes p.1;
  gets = λ ms. and_then row.gets (need k.reads name ms);
  fits = λ p. k.fits p.0 && row.fits p.1;
  loose = both_loose k.loose row.loose;
}

-- a field that may be absent, before those of the row
abbrev pub and_may : {A B : Type 0} → List ℕ → Kind A → Row B → Row (Option A × B)
and_may name k row = record {
  names = name ∷ row.names;
  writes = λ p. (name, option_map k.spell p.0) ∷ row.writes p.1;
  gets = λ ms. and_then row.gets (may k.reads name ms);
  fits = λ p. holds_of_some k.fits p.0 && row.fits p.1;
  loose = both_loose (option_map holds_of_some k.loose) row.loose;
}

-- a field that is written as true or not at all, before those of the row
abbrev pub and_true : {B : Type 0} → List ℕ → Row B → Row (Bool × B)
and_true name row = record {
  names = name ∷ row.names;
  writes = λ p. (name, option_map only_true.spell (unit_if p.0)) ∷ row.writes p.1;
  gets = λ ms. and_then row.gets (may_true name ms);
  fits = λ p. row.fits p.1;
  loose = both_loose None row.loose;
}

-- an object with exactly these fields
abbrev pub object_of : {T : Type 0} → Row T → Kind T
object_of row = record {
  spell = λ x. object (members_of (row.writes x));
  reads = λ d. option_and_then row.gets (as_object d);
  fits = row.fits;
  loose = row.loose;
}
