-- Members whose value is known by another name, as they are written.
use Rattle.std.proofs.Common.{◌≡◌, ℕ, List, [], ◌∷◌, ◌++◌, Some, ap, ◌∙◌}
use Rattle.json.specs.Token.{Token, key}
use Rattle.serde_json.specs.Data.{string}
use Rattle.cdp_json.specs.Kinds.{Kind, list_of}
use Rattle.cdp_json.specs.Rows.{Written}
use Rattle.cdp_json.specs.Tokens.{data_tokens, field_tokens}
use Rattle.cdp_json.proofs.WrittenTokens.{Ends, then_field, then_key}

-- a member that is a text
pub then_text : {name said text : List ℕ} {fs : List Written} {now mid new : List Token} → said ≡ text
    → mid ≡ now ++ field_tokens name (Some (string said)) → Ends mid fs new
    → Ends now ((name, Some (string text)) ∷ fs) new
then_text {name = name} {text = text} {now = now} same e rest =
    then_field {f = (name, Some (string text))} (e ∙ ap (λ s. now ++ field_tokens name (Some (string s))) same) rest

-- a member that is a list
pub then_list : {T : Type 0} (k : Kind T) {name : List ℕ} {said list : List T} {fs : List Written} {now mid there new : List Token}
    → said ≡ list
    → mid ≡ now ++ key name ∷ [] → there ≡ mid ++ data_tokens ((list_of k).spell said) → Ends there fs new
    → Ends now ((name, Some ((list_of k).spell list)) ∷ fs) new
then_list k {name = name} {list = list} {mid = mid} same e v rest =
    then_key {name = name} {d = (list_of k).spell list} e (v ∙ ap (λ xs. mid ++ data_tokens ((list_of k).spell xs)) same) rest
