-- The sheets without a fresh text: the first of them is known, and is no longer one once its text was fetched.
use Rattle.std.proofs.Common.{◌≡◌, ◌≤◌, ℕ, suc, ◌==◌, Bool, true, false, ◌||◌, cond, List, [], ◌∷◌, length, refl, sym, ◌∙◌, ap}
use Rattle.std.proofs.Common.{arith}
use Rattle.std.proofs.lemmas.Bool.{eqb-true, eq-eqb}
use Rattle.front_mirror.specs.declared.sheets.KnownSheet.{KnownSheet}
use Rattle.front_mirror.specs.Sheets.{fresh_sheet, has_sheet, with_fetched, has_fresh_text, stale_of}

-- no number comes twice
abbrev pub AreApart : List KnownSheet → Type 0
AreApart [] = Unit {0}
AreApart (s ∷ ss) = (has_sheet s.number ss ≡ false) × AreApart ss

or-right : (a b : Bool) → b ≡ true → (a || b) ≡ true
or-right true b e = refl
or-right false b e = e

-- the first of them is known
known-by : (b : Bool) (s : KnownSheet) (ss : List KnownSheet) (number : ℕ) (numbers : List ℕ)
    → cond b (stale_of ss) (s.number ∷ stale_of ss) ≡ number ∷ numbers
    → (stale_of ss ≡ number ∷ numbers → has_sheet number ss ≡ true) → has_sheet number (s ∷ ss) ≡ true
known-by true s ss number numbers e rest = or-right (s.number == number) (has_sheet number ss) (rest e)
known-by false s ss number numbers e rest = let same : s.number
    ≡ number = cc e in ap (λ b. b || has_sheet number ss) (eq-eqb s.number number same)

pub stale-known : (ks : List KnownSheet) (number : ℕ) (numbers : List ℕ) → stale_of ks ≡ number ∷ numbers → has_sheet number ks ≡ true
stale-known [] number numbers e = absurd cc
stale-known (s ∷ ss) number numbers e = known-by (has_fresh_text s) s ss number numbers e (λ rest. stale-known ss number numbers rest)

-- there are no more of them than sheets
few-by : (b : Bool) (n : ℕ) (numbers : List ℕ) (m : ℕ) → length numbers ≤ m → length (cond b numbers (n ∷ numbers)) ≤ suc m
few-by true n numbers m h = omega (arith, h)
few-by false n numbers m h = omega (arith, h)

pub stale-few : (ks : List KnownSheet) → length (stale_of ks) ≤ length ks
stale-few [] = omega arith
stale-few (s ∷ ss) = few-by (has_fresh_text s) s.number (stale_of ss) (length ss) (stale-few ss)

-- another number than the first sheet's, where no two are the same
apart-by : (s : KnownSheet) (ss : List KnownSheet) (number : ℕ) → has_sheet s.number ss ≡ false → has_sheet number ss ≡ true
    → (s.number == number) ≡ false
apart-by s ss number none some =
    (elim (s.number == number) as (λ (b : Bool). (s.number == number) ≡ b → b ≡ false) [
      | true ↦ λ same. let no : true ≡ false = sym some ∙ ap (λ n. has_sheet n ss) (sym (eqb-true s.number number same)) ∙ none in absurd cc
      | false ↦ λ other. refl
    ]) refl

-- once its text was fetched, the others are left
fetched-by : (b : Bool) (s : KnownSheet) (ss : List KnownSheet) (number : ℕ) (numbers text : List ℕ) → has_fresh_text s ≡ b
    → has_sheet s.number ss ≡ false
    → cond b (stale_of ss) (s.number ∷ stale_of ss) ≡ number ∷ numbers
    → (stale_of ss ≡ number ∷ numbers → stale_of (with_fetched number text ss) ≡ numbers)
    → stale_of (with_fetched number text (s ∷ ss)) ≡ numbers
fetched-by true s ss number numbers text fresh none e rest =
    let other : (s.number == number) ≡ false = apart-by s ss number none (stale-known ss number numbers e) in
    ap (λ c. stale_of (cond c (fresh_sheet text s ∷ ss) (s ∷ with_fetched number text ss))) other
    ∙ ap (λ c. cond c (stale_of (with_fetched number text ss)) (s.number ∷ stale_of (with_fetched number text ss))) fresh
    ∙ rest e
fetched-by false s ss number numbers text fresh none e rest =
    let same : s.number ≡ number = cc e in
    let left : stale_of ss ≡ numbers = cc e in
    ap (λ c. stale_of (cond c (fresh_sheet text s ∷ ss) (s ∷ with_fetched number text ss))) (eq-eqb s.number number same) ∙ left

pub stale-fetched : (ks : List KnownSheet) (number : ℕ) (numbers text : List ℕ) → AreApart ks → stale_of ks ≡ number ∷ numbers
    → stale_of (with_fetched number text ks) ≡ numbers
stale-fetched [] number numbers text apart e = absurd cc
stale-fetched (s ∷ ss) number numbers text apart e =
    fetched-by (has_fresh_text s) s ss number numbers text refl apart.0 e (λ rest. stale-fetched ss number numbers text apart.1 rest)
