-- Parts of objects that are read as what is written for them.
use Rattle.std.proofs.Common.{◌≡◌, ℕ, ◌<◌, List, [], ◌∷◌, ◌++◌, length, true, Option, Some, refl, sym, ap, ap₂, ◌∙◌, subst, arith}
use Rattle.json.specs.Json.{after_end_array}
use Rattle.json.specs.Token.{Token, begin_array, begin_object, key, string as string_token}
use Rattle.json.specs.Tree.{items_tokens, members_tokens}
use Rattle.serde_json.specs.Data.{Data, null, boolean, number, string, array, object}
use Rattle.serde_json.specs.Written.{items_outline, members_outline}
use Rattle.cdp_json.specs.Kinds.{Kind, list_of}
use Rattle.cdp_json.specs.Lawful.{LawfulKind}
use Rattle.cdp_json.specs.Tokens.{data_tokens, field_tokens}
use Rattle.cdp_json.proofs.TakenTokens.{array_ended, shorter, ListTaken, list_taken}
use Rattle.css_objects.specs.declared.media.Media.{Media}
use Rattle.css_objects.specs.Media.{has_media, written_media}
use Rattle.css_objects.specs.Styles.{empty_list}

-- a value that is spelled as a text
pub said_read : {T : Type 0} {k : Kind T} {said : List ℕ} {x : T} {old new : List Token} → LawfulKind k → old ≡ string_token said ∷ new
    → k.reads (string said) ≡ Some x → old ≡ data_tokens (k.spell x) ++ new
said_read {said = said} {x = x} {new = new} law e read = e ∙ ap (λ d. data_tokens d ++ new) (sym (law.takes (string said) x read).0)

pub said_fits : {T : Type 0} {k : Kind T} (said : List ℕ) {x : T} → LawfulKind k → k.reads (string said) ≡ Some x → k.fits x ≡ true
said_fits said {x = x} law read = (law.takes (string said) x read).1

-- fewer tokens are left behind a value
fewer : (d : Data) (new : List Token) → length new < length (data_tokens d ++ new)
fewer null new = omega arith
fewer (boolean b) new = omega arith
fewer (number n) new = omega arith
fewer (string s) new = omega arith
fewer (array ds) new = shorter begin_array (items_tokens (items_outline ds)) (data_tokens (array ds) ++ new) new refl
fewer (object ms) new = shorter begin_object (members_tokens (members_outline ms)) (data_tokens (object ms) ++ new) new refl

pub fewer_left : (d : Data) (new : List Token) {left now : List Token} → now ≡ left → now ≡ data_tokens d ++ new → length new < length left
fewer_left d new same e = subst (λ (ts : List Token). length new < length ts) (sym e ∙ same) (fewer d new)

-- a list that was read whole
pub listed_read : {T : Type 0} {k : Kind T} {start left new : List Token} {xs ys : List T} → ys ≡ xs → ListTaken k start xs left
    → after_end_array left ≡ Some new → start ≡ data_tokens ((list_of k).spell ys) ++ new
listed_read {k = k} {new = new} e so ended =
    list_taken so ended ∙ ap (λ zs. data_tokens ((list_of k).spell zs) ++ new) (sym e)

pub listed_fits : {T : Type 0} {k : Kind T} {start left : List Token} {xs ys : List T} → ys ≡ xs → ListTaken k start xs left
    → (list_of k).fits ys ≡ true
listed_fits {k = k} e so = ap (list_of k).fits e ∙ so.fits

-- a field that may be absent and is there, with the name of the one behind it
pub there_read : {name said next : List ℕ} (d : Data) {o : Option Data} {old r1 r2 new : List Token} → said ≡ name → o ≡ Some d
    → old ≡ key said ∷ r1 → r1 ≡ data_tokens d ++ r2 → r2 ≡ key next ∷ new
    → old ≡ field_tokens name o ++ (key next ∷ new)
there_read {name = name} {next = next} d {new = new} same there e0 e1 e2 =
    e0 ∙ ap₂ (λ n ts. key n ∷ ts) same (e1 ∙ ap (λ ts. data_tokens d ++ ts) e2)
    ∙ ap (λ p. field_tokens name p ++ (key next ∷ new)) (sym there)

-- media rules of which there is one are written
pub written_there : (ms : List Media) → has_media ms ≡ true → written_media ms ≡ Some ms
written_there [] e = absurd cc
written_there (m ∷ ms) e = refl
