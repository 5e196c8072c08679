-- A text compared with a name in upper case, byte by byte.
use Rattle.std.proofs.Common.{◌≡◌, ℕ, ◌+◌, ◌<◌, ◌≤◌, length, get_or, Bool, true, false, List, take, refl, sym, ap, ◌∙◌, arith}
use Rattle.std.proofs.lemmas.List.{take_more_same, take_all, length-map, get_or-map}
use Rattle.std.proofs.lemmas.Slice.Eq.{bytes_eq-Decides}
use Rattle.std.specs.Prelude.{bytes_eq}
use Rattle.std.specs.Char.{to_ascii_uppercase}
use Rattle.std.specs.Str.{str_to_ascii_uppercase}

-- two texts that are not the same
apart : (xs ys : List ℕ) → (xs ≡ ys → ⊥) → bytes_eq xs ys ≡ false
apart xs ys differ = by (bytes_eq xs ys) refl
  where
    by : (b : Bool) → bytes_eq xs ys ≡ b → b ≡ false
    by false e = refl
    by true e = absurd (differ ((bytes_eq-Decides xs ys).0 e))

upper_length : (name : List ℕ) → length (str_to_ascii_uppercase name) ≡ length name
upper_length name = length-map name to_ascii_uppercase

upper_at : (name : List ℕ) (at : ℕ) → at < length name
    → get_or (str_to_ascii_uppercase name) at 0 ≡ to_ascii_uppercase (get_or name at 0)
upper_at name at within = get_or-map to_ascii_uppercase name at 0 0 within

-- one more byte is the same
pub same_more : (text name : List ℕ) (at : ℕ) → at < length text → length text ≡ length name
    → take at text ≡ take at (str_to_ascii_uppercase name) → get_or text at 0 ≡ to_ascii_uppercase (get_or name at 0)
    → take (at + 1) text ≡ take (at + 1) (str_to_ascii_uppercase name)
same_more text name at within long front here =
    take_more_same text (str_to_ascii_uppercase name) at 0 within (omega (arith, upper_length name)) front
    (here ∙ sym (upper_at name at (omega arith)))

pub all_same : (text name : List ℕ) (at : ℕ) → length text ≤ at → length text ≡ length name
    → take at text ≡ take at (str_to_ascii_uppercase name) → true ≡ bytes_eq text (str_to_ascii_uppercase name)
all_same text name at over long front =
    let same : text ≡ str_to_ascii_uppercase name =
    sym (take_all at text over) ∙ front ∙ take_all at (str_to_ascii_uppercase name) (omega (arith, upper_length name)) in
    sym ((bytes_eq-Decides text (str_to_ascii_uppercase name)).1 same)

pub one_differs : (text name : List ℕ) (at : ℕ) → at < length name → (get_or text at 0 ≡ to_ascii_uppercase (get_or name at 0) → ⊥)
    → false ≡ bytes_eq text (str_to_ascii_uppercase name)
one_differs text name at within differs =
    sym (apart text (str_to_ascii_uppercase name) (λ e. differs (ap (λ t. get_or t at 0) e ∙ upper_at name at within)))
