-- Tokens that are written one after the other.
use Rattle.std.proofs.Common.{◌≡◌, ℕ, ◌+◌, ◌<◌, ◌≤◌, List, [], ◌∷◌, ◌++◌, length, get_or, take, map, Option, Some, None, Result}
use Rattle.std.proofs.Common.{Ok, Err, OnOk, append_assoc, append-nil, refl, sym, ap, ◌∙◌, add-one}
use Rattle.std.specs.Prelude.{flat_map}
use Rattle.std.proofs.Math.Seq.{take-suc}
use Rattle.std.proofs.lemmas.List.{take_all, flat_map_more}
use Rattle.json.specs.Token.{Token, begin_object, end_object, begin_array, end_array, key}
use Rattle.json.specs.Tree.{items_tokens, members_tokens}
use Rattle.serde_json.specs.Data.{Data, object, Members}
use Rattle.serde_json.specs.View.{items_of}
use Rattle.serde_json.specs.Written.{items_outline, members_outline}
use Rattle.cdp_json.specs.Kinds.{Kind, list_of}
use Rattle.cdp_json.specs.Rows.{Written, maybe_member, members_of}
use Rattle.cdp_json.specs.Tokens.{data_tokens, field_tokens}

-- ---- one call after another

pub after : (old xs ys : List Token) {mid new : List Token} → mid ≡ old ++ xs → new ≡ mid ++ ys → new ≡ old ++ (xs ++ ys)
after old xs ys first rest = rest ∙ ap (λ ts. ts ++ ys) first ∙ append_assoc old xs ys

-- the same, where the second call is the last
pub after_last : {E : Type 0} (old xs ys : List Token) (r : Result (Unit {0}) E) (new : List Token) {mid : List Token} → mid ≡ old ++ xs
    → OnOk r (new ≡ mid ++ ys) → OnOk r (new ≡ old ++ (xs ++ ys))
after_last old xs ys (Ok u) new first rest = after old xs ys first rest
after_last old xs ys (Err e) new first rest = tt

-- ---- the members of an object

-- the tokens of the members, with the brace that closes the object
abbrev pub rest_tokens : Members → List Token
rest_tokens ms = members_tokens (members_outline ms)

pub field_first : (k : List ℕ) (o : Option Data) (ms : Members) (ts : List Token) → rest_tokens ms ≡ ts
    → rest_tokens (maybe_member k o ms) ≡ field_tokens k o ++ ts
field_first k None ms ts e = e
field_first k (Some d) ms ts e = ap (λ r. field_tokens k (Some d) ++ r) e

-- What stands behind `now` are these fields and the brace that ends their object.
pub record Ends (now : List Token) (fs : List Written) (new : List Token) : Type 0 where
  pub is : new ≡ now ++ rest_tokens (members_of fs)

-- no further field
pub no_field : {now new : List Token} → new ≡ now ++ end_object ∷ [] → Ends now [] new
no_field e = record { is = e }

-- a field, and then the later ones
pub then_field : {f : Written} {fs : List Written} {now mid new : List Token} → mid ≡ now ++ field_tokens f.0 f.1 → Ends mid fs new
    → Ends now (f ∷ fs) new
then_field {f = f} {fs = fs} {now = now} {new = new} e rest = record {
  is = after now (field_tokens f.0 f.1) (rest_tokens (members_of fs)) e rest.is
      ∙ ap (λ ts. now ++ ts) (sym (field_first f.0 f.1 (members_of fs) (rest_tokens (members_of fs)) refl));
}

-- the same of a field by its name and its value
pub then_key : {name : List ℕ} {d : Data} {fs : List Written} {now mid there new : List Token} → mid ≡ now ++ key name ∷ []
    → there ≡ mid ++ data_tokens d → Ends there fs new
    → Ends now ((name, Some d) ∷ fs) new
then_key {name = name} {d = d} {now = now} e v rest = then_field {f = (name, Some d)}
    (after now (key name ∷ []) (data_tokens d) e v) rest

-- an object by its fields
pub object_written : (old : List Token) (fs : List Written) {now new : List Token} → now ≡ old ++ begin_object ∷ [] → Ends now fs new
    → new ≡ old ++ data_tokens (object (members_of fs))
object_written old fs e rest = after old (begin_object ∷ []) (rest_tokens (members_of fs)) e rest.is

-- ---- the items of an array

-- the tokens of a value of that kind
abbrev pub kind_tokens : {T : Type 0} → Kind T → T → List Token
kind_tokens k x = data_tokens (k.spell x)

pub list_tokens : {T : Type 0} (k : Kind T) (xs : List T)
    → items_tokens (items_outline (items_of (map k.spell xs))) ≡ flat_map (kind_tokens k) xs ++ end_array ∷ []
list_tokens k [] = refl
list_tokens k (x ∷ xs) = ap (λ ts. kind_tokens k x ++ ts) (list_tokens k xs) ∙ sym
    (append_assoc (kind_tokens k x) (flat_map (kind_tokens k) xs) (end_array ∷ []))

-- a turn of a loop that writes items
pub items_turn : {A : Type 0} (f : A → List Token) (start now next : List Token) (xs : List A) (x : A) (i : ℕ) → i < length xs
    → x ≡ get_or xs i x → next ≡ now ++ f x
    → now ≡ start ++ flat_map f (take i xs) → next ≡ start ++ flat_map f (take (i + 1) xs)
items_turn f start now next xs x i below at step so =
    let more : take i xs ++ x ∷ [] ≡ take (i + 1) xs = sym (rw add-one (take-suc xs i x below ∙ ap (λ y. take i xs ++ y ∷ []) (sym at))) in
    step ∙ ap (λ ts. ts ++ f x) so ∙ flat_map_more f start (take i xs) x ∙ ap (λ ys. start ++ flat_map f ys) more

pub items_end : {A : Type 0} (f : A → List Token) (old start now last : List Token) (xs : List A) (i : ℕ) → length xs ≤ i
    → start ≡ old ++ begin_array ∷ []
    → now ≡ start ++ flat_map f (take i xs) → last ≡ now ++ end_array ∷ [] → last ≡ old ++ (begin_array ∷ (flat_map f xs ++ end_array ∷ []))
items_end f old start now last xs i all begun so framed =
    after old (begin_array ∷ []) _ begun
    (after start (flat_map f xs) (end_array ∷ []) (so ∙ ap (λ ys. start ++ flat_map f ys) (take_all i xs all)) framed)

-- What a loop over a list has written of it behind `old`.
pub record ListBegun {T : Type 0} (k : Kind T) (old now : List Token) (xs : List T) (i : ℕ) : Type 0 where
  pub is : now ≡ (old ++ begin_array ∷ []) ++ flat_map (kind_tokens k) (take i xs)

pub list_begun : {T : Type 0} (k : Kind T) (old now : List Token) (xs : List T) → now ≡ old ++ begin_array ∷ [] → ListBegun k old now xs 0
list_begun k old now xs e = record { is = e ∙ sym (append-nil (old ++ begin_array ∷ [])) }

pub list_turn : {T : Type 0} {k : Kind T} {old now next : List Token} {xs : List T} {x : T} {i : ℕ} → ListBegun k old now xs i
    → i < length xs → x ≡ get_or xs i x → next ≡ now ++ data_tokens (k.spell x)
    → ListBegun k old next xs (i + 1)
list_turn {k = k} {old = old} {now = now} {next = next} {xs = xs} {x = x} {i = i} so below at step =
    record { is = items_turn (kind_tokens k) (old ++ begin_array ∷ []) now next xs x i below at step so.is }

pub list_end : {T : Type 0} {k : Kind T} {old now last : List Token} {xs : List T} {i : ℕ} → ListBegun k old now xs i → length xs ≤ i
    → last ≡ now ++ end_array ∷ [] → last ≡ old ++ data_tokens ((list_of k).spell xs)
list_end {k = k} {old = old} {now = now} {last = last} {xs = xs} {i = i} so all framed =
    items_end (kind_tokens k) old (old ++ begin_array ∷ []) now last xs i all refl so.is framed
    ∙ ap (λ ts. old ++ (begin_array ∷ ts)) (sym (list_tokens k xs))
