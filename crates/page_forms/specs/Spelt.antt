-- What the tokens of a text spell.
use Rattle.std.specs.Prelude.{◌≡◌, ℕ, ◌≤◌, List, ◌∷◌, ◌++◌, false, Option, Some}
use Rattle.json.specs.Token.{Token, begin_array, key}
use Rattle.json.specs.Json.{Json, Items}
use Rattle.json.specs.Tree.{json_tokens, items_tokens, depth, items_depth}
use Rattle.serde_json.specs.Data as datum
use Rattle.serde_json.specs.Data.{Data}
use Rattle.serde_json.specs.Read.{of_json, of_items}
use Rattle.serde_json.specs.Written.{has_float, items_have_float}

-- what a value is read as, and how deep it nests at most
pub record ValueForm (A : Type 0) : Type 0 where
  pub levels : ℕ
  pub reads : Data → Option A

-- what the items of a list are read as, and how deep they nest at most
pub record ListForm (A : Type 0) : Type 0 where
  pub levels : ℕ
  pub reads : datum.Items → Option A

-- a list in a field of that name, and what it means that there is no such field
pub record FieldForm (A : Type 0) : Type 0 where
  pub name : List ℕ
  pub list : ListForm A
  pub absent : A

-- The tokens `old` up to `new` are those of JSON that is read as x. It has no number with a point or an exponent.
pub record ReadsAs {A : Type 0} (form : ValueForm A) (old : List Token) (x : A) (new : List Token) : Type 0 where
  pub json : Json
  pub value : Data
  pub tokens : old ≡ json_tokens json ++ new
  pub means : of_json json ≡ Some value
  pub shallow : depth json ≤ form.levels
  pub whole : has_float value ≡ false
  pub reads : form.reads value ≡ Some x

-- the tokens up to some place are those of the items of a list that are read as x, and of the bracket behind them
pub record SpellsItems {A : Type 0} (form : ListForm A) (old : List Token) (x : A) (new : List Token) : Type 0 where
  pub json : Items
  pub items : datum.Items
  pub tokens : old ≡ items_tokens json ++ new
  pub means : of_items json ≡ Some items
  pub shallow : items_depth json ≤ form.levels
  pub whole : items_have_float items ≡ false
  pub reads : form.reads items ≡ Some x

-- the tokens up to some place are those of a field with a list that is read as x, or of nothing where the field is absent
pub data SpellsField {A : Type 0} (form : FieldForm A) (old : List Token) (x : A) (new : List Token) : Type 0 where
  absent : old ≡ new → x ≡ form.absent → SpellsField form old x new
  there : (from : List Token) → old ≡ key form.name ∷ (begin_array ∷ from) → SpellsItems form.list from x new → SpellsField form old x new
