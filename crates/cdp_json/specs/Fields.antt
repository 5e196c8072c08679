-- A field of an object, looked up by its name.
use Rattle.std.specs.Prelude.{List, ℕ, Option, Some, None}
use Rattle.serde_json.specs.Data.{Data, Members}
use Rattle.serde_json.specs.Find.{get_member}
use Rattle.cdp_json.specs.declared.fields.Field.{Field}
use Rattle.cdp_json.specs.declared.fields.Field.TheVariants.{Is, Missing, WrongKind}

-- a field that is there: its value, and WrongKind where it could not be read
abbrev pub field_if : {T : Type 0} → Option T → Field T
field_if None = WrongKind
field_if (Some x) = Is x

-- a field by the JSON at its name: Missing where there is none, and else as it is read
abbrev pub field_from : {T : Type 0} → (Data → Option T) → Option Data → Field T
field_from reads None = Missing
field_from reads (Some d) = field_if (reads d)

-- the field of this name, read as a kind
abbrev pub field_of : {T : Type 0} → (Data → Option T) → List ℕ → Members → Field T
field_of reads name ms = field_from reads (get_member name ms)

-- a field with f applied to its value, where it has one
abbrev pub field_map : {S T : Type 0} → (S → T) → Field S → Field T
field_map f Missing = Missing
field_map f WrongKind = WrongKind
field_map f (Is x) = Is (f x)
