-- Kinds of records, made of the kinds of their fields.
use Rattle.std.specs.Prelude.{List, ℕ, Option, Some, option_map}
use Rattle.serde_json.specs.Data.{Data}
use Rattle.cdp_json.specs.Kinds.{Kind, through, anything}
use Rattle.cdp_json.specs.Rows.{ends, and_need, object_of}

-- a record that is spelled as its fields are
abbrev pub by_fields : {S T : Type 0} → Kind S → (T → S) → (S → T) → Kind T
by_fields k fields of = through k fields (λ s. Some (of s))

-- an object with one field
abbrev pub only_field : {T : Type 0} → List ℕ → Kind T → Kind T
only_field name k = by_fields (object_of (and_need name k ends)) (λ x. (x, tt)) (λ p. p.0)

-- the value of an object's one field, if it has this name
abbrev pub sole_field : List ℕ → Data → Option Data
sole_field name d = option_map (λ p. p.0) ((object_of (and_need name anything ends)).reads d)
