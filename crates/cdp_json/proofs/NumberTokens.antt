-- Numbers spelled as they are written, and that none comes.
use Rattle.std.proofs.Common.{◌≡◌, ℕ, ◌<◌, ◌^◌, List, [], ◌∷◌, true, false, Result, Ok, Err}
use Rattle.std.proofs.Common.{sym, ap, ◌∙◌, decimal, arith}
use Rattle.std.specs.Str.Parse.{digits_value, ParsesUnsigned}
use Rattle.std.proofs.lemmas.Fmt.{decimal_is_IsNumeral, parse-decimal}
use Rattle.std.proofs.lemmas.Bool.Decides.{nat_tests}
use Rattle.json.specs.Token.{Token, key, number}
use Rattle.node_tree.specs.Numbers.{number_limit, counted_limit}
use Rattle.cdp_json.specs.Kinds.{is_counted}

-- two numbers that are written alike are one
one_decimal : (n m : ℕ) → n < number_limit → m < number_limit → decimal n ≡ decimal m → n ≡ m
one_decimal n m low small same =
    sym (decimal_is_IsNumeral n low).1 ∙ ap (λ t. digits_value 10 t) same ∙ (decimal_is_IsNumeral m small).1

-- a text that is read as no number is that of none
pub none_written : {E : Type 0} (text : List ℕ) (r : Result ℕ E) (error : E) → r ≡ Err error → ParsesUnsigned 64 10 text r
    → (n : ℕ) → n < number_limit → text ≡ decimal n → ⊥
none_written {E} text r error failed parses n low is =
    let no : ◌≡◌ {A = Result ℕ E} (Err error) (Ok n) = sym failed ∙ parse-decimal 64 n text r low low is parses in
    absurd cc

-- a text that is read as a number, and is not how that one is written, is that of none
pub other_written : {E : Type 0} (text : List ℕ) (r : Result ℕ E) (m : ℕ) → r ≡ Ok m → ParsesUnsigned 64 10 text r
    → (text ≡ decimal m → ⊥) → (n : ℕ) → n < number_limit → text ≡ decimal n → ⊥
other_written {E} text r m found parses other n low is =
    let same : ◌≡◌ {A = Result ℕ E} (Ok m) (Ok n) = sym found ∙ parse-decimal 64 n text r low low is parses in
    let one : n ≡ m = cc in
    other (is ∙ ap decimal one)

-- behind this name stands a number that is not counted, so no counted one
pub none_counted : (name : List ℕ) (old new : List Token) (m : ℕ) → m < number_limit → old ≡ key name ∷ (number (decimal m) ∷ new)
    → is_counted m ≡ false → (n : ℕ) (rest : List Token) → n < counted_limit → old ≡ key name ∷ (number (decimal n) ∷ rest) → ⊥
none_counted name old new m small there large n rest low is =
    let both : ◌≡◌ {A = List Token} (key name ∷ (number (decimal n) ∷ rest)) (key name ∷ (number (decimal m) ∷ new)) = sym is ∙ there in
    let same : decimal n ≡ decimal m = cc in
    let one : n ≡ m = one_decimal n m (omega arith) small same in
    grind (arith, nat_tests, large, low, one)
