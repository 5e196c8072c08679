-- Values at the front of the tokens.
use Rattle.std.proofs.Common.{◌≡◌, ℕ, ◌∷◌, List, [], Option, Some, None, refl, sym, ap, ◌∙◌}
use Rattle.json.specs.Token.{Token, begin_object, end_object, begin_array, end_array, key, string, number, boolean, null, bad}
use Rattle.json.specs.Json.{after_end_array, value}
use Rattle.json.proofs.Grammar.{value_is}
use Rattle.serde_json.specs.Data.{Data}
use Rattle.serde_json.specs.Read.{of_json, converted}

-- a value begins with no closing bracket
pub no_end : (depth : ℕ) (ts : List Token) (x : Data × List Token) → converted of_json (value depth ts) ≡ Some x → after_end_array ts ≡ None
no_end depth [] x e = refl
no_end depth (begin_object ∷ ts) x e = refl
no_end depth (end_object ∷ ts) x e = refl
no_end depth (begin_array ∷ ts) x e = refl
no_end depth (end_array ∷ ts) x e =
    let no : ◌≡◌ {A = Option (Data × List Token)} None (Some x) = ap (converted of_json) (sym (value_is depth (end_array ∷ ts))) ∙ e in
    absurd cc
no_end depth (key s ∷ ts) x e = refl
no_end depth (string s ∷ ts) x e = refl
no_end depth (number s ∷ ts) x e = refl
no_end depth (boolean b ∷ ts) x e = refl
no_end depth (null ∷ ts) x e = refl
no_end depth (bad ∷ ts) x e = refl
