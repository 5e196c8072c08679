-- The texts of the ids of sheets.
use Rattle.std.proofs.Common.{◌≡◌, ℕ, zero, suc, ◌^◌, ◌<◌, ◌≤◌, List, [], ◌∷◌, length, get_or, Bool, true, false, Some, None, Result, Ok}
use Rattle.std.proofs.Common.{Err, refl, sym, ap, ◌∙◌, subst, arith, lt-ltb, ltb-true}
use Rattle.std.specs.Prelude.{◌≢◌, nat_lt, drop, bytes_eq, decimal, IsUtf8, if◌then◌else◌}
use Rattle.std.specs.Str.Parse.{digits_value, AllDigits, ParsesUnsigned}
use Rattle.std.proofs.lemmas.Fmt.{decimal_is_IsNumeral, decimal-digits_value, parse-decimal, first_decimal, decimal_digit, IsAscii-decimal}
use Rattle.std.proofs.lemmas.Slice.Eq.{bytes_eq-Decides}
use Rattle.std.proofs.lemmas.Str.{IsUtf8-from_ascii, IsUtf8-append}
use Rattle.json.proofs.Printed.Utf8.{IsUtf8-are_ascii}
use Rattle.std.specs.Result.{OkIff}
use Rattle.std.proofs.lemmas.Str.Parse.{numerals_by_value, tells_digits, parse_plain}
use Rattle.css_objects.proofs.Options.{both, both_parts}
use Rattle.css_objects.specs.Sheets.{sheet_text, is_sheet, is_text_of, sheet_in}

-- a sheet's number is above 0, and well below 2^64
pub sheet_bounds : (n : ℕ) → is_sheet n ≡ true → (0 < n) × (n < 2 ^ 64)
sheet_bounds n f =
    let p = both_parts (nat_lt 0 n) (nat_lt n (2 ^ 53)) f in
    let low : 0 < n = ltb-true 0 n p.0 in
    let high : n < 2 ^ 53 = ltb-true n (2 ^ 53) p.1 in
    (low, omega arith)

-- the text of no sheet's id
pub no_sheet : (text : List ℕ) → ((n : ℕ) → is_sheet n ≡ true → sheet_text n ≡ text → ⊥) → None ≡ sheet_in text
no_sheet text other = at (is_text_of text n) refl where
  n : ℕ
  n = digits_value 10 (drop 1 text)

  at : (b : Bool) → is_text_of text n ≡ b → None ≡ (if b then Some n else None)
  at true e =
      let p = both_parts (is_sheet n) (bytes_eq (sheet_text n) text) e in
      absurd (other n p.0 ((bytes_eq-Decides (sheet_text n) text).0 p.1))
  at false e = refl

-- the text of a sheet's id
pub the_sheet : (n : ℕ) → is_sheet n ≡ true → Some n ≡ sheet_in (sheet_text n)
the_sheet n f =
    let value : digits_value 10 (decimal n) ≡ n = (decimal_is_IsNumeral n (sheet_bounds n f).1).1 in
    let fits : is_text_of (sheet_text n) n ≡ true = both f ((bytes_eq-Decides (sheet_text n) (sheet_text n)).1 refl) in
    sym (ap (λ m. if is_text_of (sheet_text n) m then Some m else None) value ∙ ap (λ b. if b then Some n else None) fits)

-- what is read is the text of that sheet's id
pub sheet_read : (text : List ℕ) (n : ℕ) → sheet_in text ≡ Some n → (sheet_text n ≡ text) × (is_sheet n ≡ true)
sheet_read text n e = at (is_text_of text m) refl e where
  m : ℕ
  m = digits_value 10 (drop 1 text)

  at : (b : Bool) → is_text_of text m ≡ b → (if b then Some m else None) ≡ Some n → (sheet_text n ≡ text) × (is_sheet n ≡ true)
  at true is e =
      let same : m ≡ n = cc in
      let p = both_parts (is_sheet m) (bytes_eq (sheet_text m) text) is in
      subst (λ k. (sheet_text k ≡ text) × (is_sheet k ≡ true)) same ((bytes_eq-Decides (sheet_text m) text).0 p.1, p.0)
  at false is e = absurd cc

-- ---- as it is read

-- a text that does not begin with `s`
pub read_no_s : (text : List ℕ) → ((rest : List ℕ) → text ≢ 115 ∷ rest) → None ≡ sheet_in text
read_no_s text other = no_sheet text (λ n f e. other (decimal n) (sym e))

tail_is : (a b : List ℕ) → ◌≡◌ {A = List ℕ} (115 ∷ a) (115 ∷ b) → a ≡ b
tail_is a b e = ap (drop 1) e

-- a first byte that is no digit but 0
pub read_low : (text digits : List ℕ) → text ≡ 115 ∷ digits → get_or digits 0 0 ≤ 48 → None ≡ sheet_in text
read_low text digits is low =
    no_sheet text (λ n f e.
    let same : decimal n ≡ digits = tail_is (decimal n) digits (e ∙ is) in
    let b = sheet_bounds n f in
    let first : 48 < get_or (decimal n) 0 0 = first_decimal n b.0 b.1 in
    let high : 48 < get_or digits 0 0 = subst (λ l. 48 < get_or l 0 0) same first in
    omega arith)

-- no number of 64 bits
pub read_no_number : {E : Type 0} (text digits : List ℕ) (r : Result ℕ E) (error : E) → text ≡ 115 ∷ digits → r ≡ Err error
    → ParsesUnsigned 64 10 digits r → None ≡ sheet_in text
read_no_number {E} text digits r error is failed parses =
    no_sheet text (λ n f e.
    let same : decimal n ≡ digits = tail_is (decimal n) digits (e ∙ is) in
    let b = sheet_bounds n f in
    let no : ◌≡◌ {A = Result ℕ E} (Err error) (Ok n) = sym failed ∙ parse-decimal 64 n digits r b.1 b.1 (sym same) parses in
    absurd cc)

-- the digits are those of the number
number_digits : {E : Type 0} (digits : List ℕ) (r : Result ℕ E) (n : ℕ) → r ≡ Ok n → ParsesUnsigned 64 10 digits r
    → (get_or digits 0 0 ≡ 48 → ⊥) → (get_or digits 0 0 ≡ 43 → ⊥) → decimal n ≡ digits
number_digits {E} digits r n found parses first plus =
    let own = numerals_by_value _ tells_digits in
    let read : (AllDigits 10 digits × (0 < length digits) × (digits_value 10 digits < 2 ^ 64)) × (n ≡ digits_value 10 digits) =
    subst (λ (q : Result ℕ E). OkIff q (AllDigits 10 digits × (0 < length digits) × (digits_value 10 digits < 2 ^ 64))
    (digits_value 10 digits)) found (parse_plain own 64 digits r parses plus) in
    ap decimal read.1 ∙ decimal-digits_value own digits read.0.0 read.0.1 (λ e. absurd (first e)) read.0.2

above_zero : (digits : List ℕ) (m : ℕ) → (get_or digits 0 0 ≡ 48 → ⊥) → decimal m ≡ digits → 0 < m
above_zero digits zero first e = absurd (first (ap (λ l. get_or l 0 0) (sym e ∙ decimal_digit 0 (omega arith))))
above_zero digits (suc m) first e = omega arith

pub read_number : {E : Type 0} (text digits : List ℕ) (r : Result ℕ E) (n : ℕ) → text ≡ 115 ∷ digits → r ≡ Ok n
    → ParsesUnsigned 64 10 digits r → (get_or digits 0 0 ≡ 48 → ⊥) → (get_or digits 0 0 ≡ 43 → ⊥)
    → n < 2 ^ 53 → Some n ≡ sheet_in text
read_number text digits r n is found parses first plus small =
    let same : decimal n ≡ digits = number_digits digits r n found parses first plus in
    let f : is_sheet n ≡ true = both (lt-ltb 0 n (above_zero digits n first same)) (lt-ltb n (2 ^ 53) small) in
    subst (λ t. Some n ≡ sheet_in t) (ap (λ l. 115 ∷ l) same ∙ sym is) (the_sheet n f)

-- ---- its bytes

pub sheet_text-utf8 : (n : ℕ) → is_sheet n ≡ true → IsUtf8 (sheet_text n)
sheet_text-utf8 n f = IsUtf8-append (115 ∷ []) (decimal n) (IsUtf8-are_ascii (115 ∷ []) refl)
    (IsUtf8-from_ascii (decimal n) (IsAscii-decimal n (sheet_bounds n f).1))
