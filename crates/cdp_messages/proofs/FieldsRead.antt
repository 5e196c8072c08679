-- A field that is read by what it is read as first.
use Rattle.std.proofs.Common.{◌≡◌, Option, Some, None, option_and_then, refl, sym, ap, ◌∙◌}
use Rattle.serde_json.specs.Data.{Data}
use Rattle.cdp_json.specs.declared.fields.Field.{Field}
use Rattle.cdp_json.specs.declared.fields.Field.TheVariants.{Is, Missing, WrongKind}
use Rattle.cdp_json.specs.Fields.{field_if, field_from}

same_is : {A : Type 0} (x y : A) → Is x ≡ Is y → x ≡ y
same_is x y e = cc

pub field_through : {A B : Type 0} (reads : Data → Option A) (f : A → Option B) (o : Option Data) (x : A) → Is x ≡ field_from reads o
    → field_if (f x) ≡ field_from (λ d. option_and_then f (reads d)) o
field_through {A} {B} reads f None x e = let no : ◌≡◌ {A = Field A} (Is x) Missing = e in absurd cc
field_through {A} {B} reads f (Some d) x e = at (reads d) refl e where
  at : (o : Option A) → reads d ≡ o → Is x ≡ field_if o → field_if (f x) ≡ field_if (option_and_then f (reads d))
  at None is h = let no : ◌≡◌ {A = Field A} (Is x) WrongKind = h in absurd cc
  at (Some y) is h = ap (λ z. field_if (f z)) (same_is x y h) ∙ ap (λ r. field_if (option_and_then f r)) (sym is)
