-- Numbers, digit by digit.
use Rattle.std.proofs.Common.{◌≡◌, ℕ, ◌+◌, ◌-◌, ◌*◌, ◌/◌, ◌%◌, ◌<◌, ◌≤◌, ◌^◌, List, [], ◌∷◌, ◌++◌, length, append_assoc, decimal}
use Rattle.std.proofs.Common.{Option, Some, None, sym, ap, ap₂, ◌∙◌, arith, IfSome}
use Rattle.std.specs.Char.{IsAsciiDigit}
use Rattle.std.specs.List.{IsFirstAndRest}
use Rattle.std.proofs.lemmas.Fmt.{decimal_digit, decimal_step}

-- one digit more
digit_turn : (n d : ℕ) (rest : List ℕ) → 0 < n → d < 10 → n * 10 + d < 2 ^ 64
    → decimal (n * 10 + d) ++ rest ≡ decimal n ++ (48 + d) ∷ rest
digit_turn n d rest some small fits =
    let front : (n * 10 + d) / 10 ≡ n = omega (arith, small) in
    let last : (n * 10 + d) % 10 ≡ d = omega (arith, small) in
    ap (λ ds. ds ++ rest)
    (decimal_step (n * 10 + d) (omega (arith, some)) fits ∙ ap₂ (λ a b. decimal a ++ ((48 + b) ∷ [])) front last)
    ∙ append_assoc (decimal n) ((48 + d) ∷ []) rest

-- the digit of a code
of_code : (c : ℕ) → IsAsciiDigit c → 48 + (c - 48) ≡ c
of_code c digit = omega (arith, digit.0, digit.1)

pub digit_turned : (n c : ℕ) (rest others all : List ℕ) → 0 < n → n ≤ 1000000000 → IsAsciiDigit c → IsFirstAndRest rest c others
    → decimal n ++ rest ≡ all
    → (0 < n * 10 + (c - 48)) × (n * 10 + (c - 48) < 20000000000) × (decimal (n * 10 + (c - 48)) ++ others ≡ all)
digit_turned n c rest others all some few digit first so = (
  omega (arith, some),
  omega (arith, few, digit.1),
  digit_turn n (c - 48) others some (omega (arith, digit.0, digit.1)) (omega (arith, few, digit.1))
      ∙ ap (λ d. decimal n ++ d ∷ others) (of_code c digit) ∙ ap (λ ds. decimal n ++ ds) (sym first.0) ∙ so,
)

-- the digits behind the first one
pub digits_on : (o : Option ℕ) (c : ℕ) (text all others : List ℕ) → all ≡ text → IsAsciiDigit c → IsFirstAndRest all c others
    → IfSome o (λ n. decimal n ≡ decimal (c - 48) ++ others) → IfSome o (λ n. text ≡ decimal n)
digits_on None c text all others same digit first s = tt
digits_on (Some n) c text all others same digit first s =
    sym same ∙ first.0 ∙ ap (λ d. d ∷ others) (sym (of_code c digit))
    ∙ ap (λ ds. ds ++ others) (sym (decimal_digit (c - 48) (omega (arith, digit.1)))) ∙ sym s

-- a zero alone
pub zero_alone : (c : ℕ) (text all others : List ℕ) → all ≡ text → IsAsciiDigit c → c - 48 ≤ 0 → length others ≡ 0
    → IsFirstAndRest all c others → text ≡ decimal 0
zero_alone c text all [] same digit small e first =
    let is : c ≡ 48 + 0 = omega (arith, digit.0, small) in
    sym same ∙ first.0 ∙ ap (λ d. d ∷ []) is ∙ sym (decimal_digit 0 (omega arith))
zero_alone c text all (d ∷ ds) same digit small e first = absurd (omega (arith, e))
