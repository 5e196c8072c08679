-- What is made of the fields of an object, and their texts.
use Rattle.std.proofs.Common.{◌≡◌, Option, Some, None, option_map, option_and_then, refl, subst, sym}
use Rattle.serde_json.specs.Data.{Data, object}
use Rattle.cdp_json.specs.Rows.{Row, members_of}
use Rattle.cdp_json.specs.Lawful.{LawfulRow}
use Rattle.cdp_json.specs.Plain.{HasUtf8, MembersHaveUtf8}
use Rattle.cdp_json.proofs.RowLaws.{object_lawful}
use Rattle.cdp_json.proofs.ReadTexts.{IfSome}
use Rattle.node_tree.specs.Keys.{first_of}
use Rattle.page_forms.specs.Acts.{fields_in}

-- what an object of a row spells is what was read of it
fields_spelled : {T : Type 0} (row : Row T) → LawfulRow row → (d : Data) (f : T) → fields_in row d ≡ Some f
    → object (members_of (row.writes f)) ≡ d
fields_spelled row lawful d f is = ((object_lawful lawful).takes d f is).0

-- its texts
pub fields_utf8 : {T : Type 0} (row : Row T) → LawfulRow row → (d : Data) → HasUtf8 d → (f : T) → fields_in row d ≡ Some f
    → MembersHaveUtf8 (members_of (row.writes f))
fields_utf8 row lawful d u f is = subst HasUtf8 (sym (fields_spelled row lawful d f is)) u

-- what is made of the fields that were read
pub if_read : {T A : Type 0} (row : Row T) (o : Option T) (P : A → Type 0) (f : T → Option A) → ((x : T) → o ≡ Some x → IfSome P (f x))
    → IfSome P (option_and_then f o)
if_read row None P f h = tt
if_read row (Some x) P f h = h x refl

pub if_mapped : {T A : Type 0} (o : Option T) (P : A → Type 0) (f : T → A) → ((x : T) → o ≡ Some x → P (f x)) → IfSome P (option_map f o)
if_mapped None P f h = tt
if_mapped (Some x) P f h = h x refl

pub either : {A : Type 0} (P : A → Type 0) (o p : Option A) → IfSome P o → IfSome P p → IfSome P (first_of o p)
either P None p u v = v
either P (Some x) p u v = u
