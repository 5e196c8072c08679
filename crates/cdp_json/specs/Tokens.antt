-- JSON as the tokens of its compact text, and what does not come next among tokens.
use Rattle.std.specs.Prelude.{◌≡◌, ℕ, ◌<◌, List, [], ◌∷◌, ◌++◌, Option, Some, None, decimal}
use Rattle.json.specs.Token.{Token, key, number}
use Rattle.json.specs.Tree.{json_tokens}
use Rattle.serde_json.specs.Data.{Data}
use Rattle.serde_json.specs.Written.{outline}
use Rattle.node_tree.specs.Numbers.{number_limit}
use Rattle.cdp_json.specs.Kinds.{whole, text}

-- the tokens of a value
abbrev pub data_tokens : Data → List Token
data_tokens d = json_tokens (outline d)

-- the tokens of a field, none where it has no value
abbrev pub field_tokens : List ℕ → Option Data → List Token
field_tokens name None = []
field_tokens name (Some d) = key name ∷ data_tokens d

-- another token comes, or none
abbrev pub IsOther : Token → List Token → Type 0
IsOther t ts = (rest : List Token) → ts ≡ t ∷ rest → ⊥

-- a token of another kind comes, whatever its text, or none
abbrev pub IsOtherKind : (List ℕ → Token) → List Token → Type 0
IsOtherKind kind ts = (text : List ℕ) → IsOther (kind text) ts

-- no number below 2^64 comes that is spelled as it is written
abbrev pub IsNoWhole : List Token → Type 0
IsNoWhole ts = (n : ℕ) → n < number_limit → IsOther (number (decimal n)) ts

-- no field of that name comes whose value is a number below the limit, spelled as it is written
abbrev pub IsNoWholeField : ℕ → List ℕ → List Token → Type 0
IsNoWholeField limit name ts = (n : ℕ) (rest : List Token) → n < limit → ts ≡ field_tokens name (Some (whole.spell n)) ++ rest → ⊥

-- no field of that name comes whose value is a text
abbrev pub IsNoTextField : List ℕ → List Token → Type 0
IsNoTextField name ts = (t : List ℕ) (rest : List Token) → ts ≡ field_tokens name (Some (text.spell t)) ++ rest → ⊥
