-- Tokens that are read one after the other.
use Rattle.std.proofs.Common.{◌≡◌, ℕ, ◌<◌, List, [], ◌∷◌, ◌++◌, length, length-append, Bool, true, Some, append_assoc}
use Rattle.std.proofs.Common.{refl, sym, ap, ◌∙◌, arith}
use Rattle.std.specs.Prelude.{flat_map}
use Rattle.std.specs.List.{list_all}
use Rattle.std.proofs.lemmas.List.{flat_map_more}
use Rattle.json.specs.Json.{after_end_array}
use Rattle.json.specs.Token.{Token, begin_object, end_object, begin_array, end_array, key, string, number, boolean, null, bad}
use Rattle.serde_json.specs.Data.{Data, object}
use Rattle.cdp_json.specs.Kinds.{Kind, list_of}
use Rattle.cdp_json.specs.Rows.{Written, members_of}
use Rattle.cdp_json.specs.Tokens.{data_tokens, field_tokens}
use Rattle.cdp_json.proofs.Options.{both, both_parts}
use Rattle.cdp_json.proofs.WrittenTokens.{rest_tokens, field_first, kind_tokens, list_tokens}

-- ---- the members of an object

-- `old` are these fields, the brace that ends their object, and what is left.
pub record Takes (old : List Token) (fs : List Written) (left : List Token) : Type 0 where
  pub is : old ≡ rest_tokens (members_of fs) ++ left

-- no further field
pub none_taken : {old left : List Token} → old ≡ end_object ∷ left → Takes old [] left
none_taken e = record { is = e }

-- a field, and then the later ones
pub field_taken : {f : Written} {fs : List Written} {old mid left : List Token} → old ≡ field_tokens f.0 f.1 ++ mid → Takes mid fs left
    → Takes old (f ∷ fs) left
field_taken {f = f} {fs = fs} {old = old} {mid = mid} {left = left} e rest = record {
  is = e ∙ ap (λ ts. field_tokens f.0 f.1 ++ ts) rest.is
      ∙ sym (append_assoc (field_tokens f.0 f.1) (rest_tokens (members_of fs)) left)
      ∙ ap (λ ts. ts ++ left) (sym (field_first f.0 f.1 (members_of fs) (rest_tokens (members_of fs)) refl));
}

-- the same of a field by its name and its value
pub key_taken : {name : List ℕ} {d : Data} {fs : List Written} {old mid there left : List Token} → old ≡ key name ∷ mid
    → mid ≡ data_tokens d ++ there → Takes there fs left
    → Takes old ((name, Some d) ∷ fs) left
key_taken {name = name} {d = d} e v rest = field_taken {f = (name, Some d)} (e ∙ ap (λ ts. key name ∷ ts) v) rest

-- a field that may be absent, read with the name of the one behind it, and that one's value
pub ahead_taken : {f : Written} {name : List ℕ} {d : Data} {fs : List Written} {old mid there left : List Token}
    → old ≡ field_tokens f.0 f.1 ++ (key name ∷ mid) → mid ≡ data_tokens d ++ there → Takes there fs left
    → Takes old (f ∷ (name, Some d) ∷ fs) left
ahead_taken {f = f} {name = name} {d = d} e v rest = field_taken {f = f} e (key_taken {name = name} {d = d} refl v rest)

-- an object by its fields
pub object_taken : (fs : List Written) {old mid left : List Token} → old ≡ begin_object ∷ mid → Takes mid fs left
    → old ≡ data_tokens (object (members_of fs)) ++ left
object_taken fs e rest = e ∙ ap (λ ts. begin_object ∷ ts) rest.is

-- ---- the items of an array

pub array_ended : (old new : List Token) → after_end_array old ≡ Some new → old ≡ end_array ∷ new
array_ended [] new e = absurd cc
array_ended (begin_object ∷ ts) new e = absurd cc
array_ended (end_object ∷ ts) new e = absurd cc
array_ended (begin_array ∷ ts) new e = absurd cc
array_ended (end_array ∷ ts) new e = cc
array_ended (key s ∷ ts) new e = absurd cc
array_ended (string s ∷ ts) new e = absurd cc
array_ended (number s ∷ ts) new e = absurd cc
array_ended (boolean b ∷ ts) new e = absurd cc
array_ended (null ∷ ts) new e = absurd cc
array_ended (bad ∷ ts) new e = absurd cc

-- what was read of an array, and what is left
abbrev pub IsRead : {A : Type 0} → (A → List Token) → List Token → List A → List Token → Type 0
IsRead f start xs left = start ≡ begin_array ∷ (flat_map f xs ++ left)

-- nothing of it
pub none_yet : {A : Type 0} (f : A → List Token) (start left : List Token) (xs : List A) → xs ≡ [] → start ≡ begin_array ∷ left
    → IsRead f start xs left
none_yet f start left xs e begun = begun ∙ ap (λ ys. begin_array ∷ (flat_map f ys ++ left)) (sym e)

pub items_step : {A : Type 0} (f : A → List Token) (start left new : List Token) (xs ys : List A) (x : A) → IsRead f start xs left
    → left ≡ f x ++ new → ys ≡ xs ++ x ∷ [] → IsRead f start ys new
items_step f start left new xs ys x so e m =
    so ∙ ap (λ r. begin_array ∷ (flat_map f xs ++ r)) e ∙ ap (λ r. begin_array ∷ r) (sym (append_assoc (flat_map f xs) (f x) new))
    ∙ ap (λ r. begin_array ∷ (r ++ new)) (flat_map_more f [] xs x) ∙ ap (λ zs. begin_array ∷ (flat_map f zs ++ new)) (sym m)

pub items_over : {A : Type 0} (f : A → List Token) (start left new : List Token) (xs : List A) → IsRead f start xs left
    → after_end_array left ≡ Some new
    → start ≡ begin_array ∷ ((flat_map f xs ++ end_array ∷ []) ++ new)
items_over f start left new xs so e =
    so ∙ ap (λ r. begin_array ∷ (flat_map f xs ++ r)) (array_ended left new e) ∙ ap (λ r. begin_array ∷ r)
    (sym (append_assoc (flat_map f xs) (end_array ∷ []) new))

-- fewer tokens are left behind one that was taken
pub shorter : (t : Token) (rest left new : List Token) → left ≡ t ∷ (rest ++ new) → length new < length left
shorter t rest left new e = omega (arith, ap length e, length-append rest new)

-- What a loop has read of a list of that kind.
pub record ListTaken {T : Type 0} (k : Kind T) (start : List Token) (xs : List T) (left : List Token) : Type 0 where
  pub read : IsRead (kind_tokens k) start xs left
  pub fits : (list_of k).fits xs ≡ true

pub list_none : {T : Type 0} {k : Kind T} {start left : List Token} {xs : List T} → xs ≡ [] → start ≡ begin_array ∷ left
    → ListTaken k start xs left
list_none {k = k} {start = start} {left = left} {xs = xs} e begun = record {
  read = none_yet (kind_tokens k) start left xs e begun;
  fits = ap (list_all k.fits) e;
}

all_more : {T : Type 0} (f : T → Bool) (xs : List T) (x : T) → list_all f xs ≡ true → f x ≡ true → list_all f (xs ++ x ∷ []) ≡ true
all_more f [] x all here = both here refl
all_more f (y ∷ ys) x all here = let p = both_parts (f y) (list_all f ys) all in both p.0 (all_more f ys x p.1 here)

pub list_more : {T : Type 0} {k : Kind T} {start left now new : List Token} {xs ys : List T} {x : T} → ListTaken k start xs left
    → now ≡ left → now ≡ data_tokens (k.spell x) ++ new → k.fits x ≡ true → ys ≡ xs ++ x ∷ []
    → ListTaken k start ys new
list_more {k = k} {start = start} {left = left} {new = new} {xs = xs} {ys = ys} {x = x} so same e f m = record {
  read = items_step (kind_tokens k) start left new xs ys x so.read (sym same ∙ e) m;
  fits = ap (list_all k.fits) m ∙ all_more k.fits xs x so.fits f;
}

pub list_taken : {T : Type 0} {k : Kind T} {start left new : List Token} {xs : List T} → ListTaken k start xs left
    → after_end_array left ≡ Some new → start ≡ data_tokens ((list_of k).spell xs) ++ new
list_taken {k = k} {start = start} {left = left} {new = new} {xs = xs} so e =
    items_over (kind_tokens k) start left new xs so.read e ∙ ap (λ ts. (begin_array ∷ ts) ++ new) (sym (list_tokens k xs))
