-- The words of the program, and the number of divs in those of a drill.
use Rattle.std.proofs.Common.{◌≡◌, ℕ, suc, ◌<◌, ◌≤◌, ◌^◌, ◌&&◌, nat_le, Bool, true}
use Rattle.std.proofs.Common.{false, List, [], ◌∷◌, length, map, get_or, Some, None, Result, Ok, Err}
use Rattle.std.proofs.Common.{refl, sym, ap, ◌∙◌, subst, arith, decimal, codes}
use Rattle.std.specs.Prelude.{bytes_eq, if◌then◌else◌}
use Rattle.std.specs.Result.{OkIff}
use Rattle.std.specs.Str.Parse.{digits_value, AllDigits, ParsesUnsigned}
use Rattle.std.proofs.lemmas.Bool.Decides.{nat_tests}
use Rattle.std.proofs.lemmas.Fmt.{decimal_is_IsNumeral, decimal-digits_value, parse-decimal, first_decimal}
use Rattle.std.proofs.lemmas.Slice.Eq.{bytes_eq-Decides}
use Rattle.std.proofs.lemmas.Str.Parse.{numerals_by_value, tells_digits, parse_plain}
use Rattle.drill_script.specs.Given.{is_drill}
use Rattle.inspect_replay.specs.Words.{is_count, count_in, drill_in}

-- a list of one
pub one-item : {A B : Type 0} (f : A → B) (xs : List A) (x : A) → length xs ≡ 1 → x ≡ get_or xs 0 x → map f xs ≡ f x ∷ []
one-item f [] x one is = let none : 0 ≡ 1 = one in let gone : ⊥ = omega (arith, none) in absurd gone
one-item f (y ∷ []) x one is = ap (λ z. f z ∷ []) (sym is)
one-item f (y ∷ z ∷ more) x one is = let many : suc (suc (length more)) ≡ 1 = one in let gone : ⊥ = omega (arith, many) in absurd gone

-- `serve` and `share` have other second letters
pub serve-not-share : (word : List ℕ) → bytes_eq word (codes "serve") ≡ true → bytes_eq word (codes "share") ≡ false
serve-not-share word e = at (bytes_eq word (codes "share")) refl where
  apart : ◌≡◌ {A = ℕ} 101 104 → ⊥
  apart e = omega (arith, e)

  at : (b : Bool) → bytes_eq word (codes "share") ≡ b → b ≡ false
  at true f =
      let both : codes "serve" ≡ codes "share" =
      sym ((bytes_eq-Decides word (codes "serve")).0 e) ∙ (bytes_eq-Decides word (codes "share")).0 f in
      absurd (apart (ap (λ (t : List ℕ). get_or t 1 0) both))
  at false f = refl

both_parts : (a b : Bool) → (a && b) ≡ true → (a ≡ true) × (b ≡ true)
both_parts true true e = (refl, refl)
both_parts true false e = absurd cc
both_parts false b e = absurd cc

both : {a b : Bool} → a ≡ true → b ≡ true → (a && b) ≡ true
both e f = rw (e, f) refl

bounds : (n : ℕ) → is_drill n ≡ true → (0 < n) × (n < 2 ^ 64)
bounds n h = at (both_parts (nat_le 1 n) (nat_le n 50000) h) where
  at : (nat_le 1 n ≡ true) × (nat_le n 50000 ≡ true) → (0 < n) × (n < 2 ^ 64)
  at p = (grind (arith, nat_tests, p.0), grind (arith, nat_tests, p.1))

-- a text that is no such number
no_count : (text : List ℕ) → ((n : ℕ) → is_drill n ≡ true → decimal n ≡ text → ⊥) → None ≡ count_in text
no_count text other = at (is_count text n) refl where
  n : ℕ
  n = digits_value 10 text

  at : (b : Bool) → is_count text n ≡ b → None ≡ (if b then Some n else None)
  at true e = let p = both_parts (is_drill n) (bytes_eq (decimal n) text) e in
      absurd (other n p.0 ((bytes_eq-Decides (decimal n) text).0 p.1))
  at false e = refl

-- the text of such a number
the_count : (n : ℕ) → is_drill n ≡ true → Some n ≡ count_in (decimal n)
the_count n f =
    let value : digits_value 10 (decimal n) ≡ n = (decimal_is_IsNumeral n (bounds n f).1).1 in
    let fits : is_count (decimal n) n ≡ true = both f ((bytes_eq-Decides (decimal n) (decimal n)).1 refl) in
    sym (ap (λ m. if is_count (decimal n) m then Some m else None) value ∙ ap (λ b. if b then Some n else None) fits)

-- a first byte that is no digit but 0
pub count_low : (text : List ℕ) → get_or text 0 0 ≤ 48 → None ≡ count_in text
count_low text low = no_count text (λ n f e.
    let b = bounds n f in
    let first : 48 < get_or (decimal n) 0 0 = first_decimal n b.0 b.1 in
    let high : 48 < get_or text 0 0 = subst (λ l. 48 < get_or l 0 0) e first in
    omega arith)

-- no number of 64 bits
pub count_none : {E : Type 0} (text : List ℕ) (r : Result ℕ E) (error : E) → r ≡ Err error → ParsesUnsigned 64 10 text r
    → None ≡ count_in text
count_none {E} text r error failed parses = no_count text (λ n f e.
    let b = bounds n f in
    let no : ◌≡◌ {A = Result ℕ E} (Err error) (Ok n) = sym failed ∙ parse-decimal 64 n text r b.1 b.1 (sym e) parses in
    absurd cc)

count_digits : {E : Type 0} (digits : List ℕ) (r : Result ℕ E) (n : ℕ) → r ≡ Ok n → ParsesUnsigned 64 10 digits r
    → (get_or digits 0 0 ≡ 48 → ⊥) → (get_or digits 0 0 ≡ 43 → ⊥) → decimal n ≡ digits
count_digits {E} digits r n found parses first plus =
    let own = numerals_by_value _ tells_digits in
    let read : (AllDigits 10 digits × (0 < length digits) × (digits_value 10 digits < 2 ^ 64)) × (n ≡ digits_value 10 digits) =
    subst (λ (q : Result ℕ E). OkIff q (AllDigits 10 digits × (0 < length digits) × (digits_value 10 digits < 2 ^ 64))
    (digits_value 10 digits)) found (parse_plain own 64 digits r parses plus) in
    ap decimal read.1 ∙ decimal-digits_value own digits read.0.0 read.0.1 (λ e. absurd (first e)) read.0.2

pub count_read : {E : Type 0} (text : List ℕ) (r : Result ℕ E) (n : ℕ) → r ≡ Ok n → ParsesUnsigned 64 10 text r
    → (get_or text 0 0 ≡ 48 → ⊥) → (get_or text 0 0 ≡ 43 → ⊥) → is_drill n ≡ true → Some n ≡ count_in text
count_read text r n found parses first plus h =
    subst (λ t. Some n ≡ count_in t) (count_digits text r n found parses first plus) (the_count n h)

-- a number that no drill has
pub count_other : {E : Type 0} (text : List ℕ) (r : Result ℕ E) (n : ℕ) → r ≡ Ok n → ParsesUnsigned 64 10 text r
    → is_drill n ≡ false → None ≡ count_in text
count_other {E} text r n found parses h = no_count text (λ m f e.
    let b = bounds m f in
    let same : ◌≡◌ {A = Result ℕ E} (Ok n) (Ok m) = sym found ∙ parse-decimal 64 m text r b.1 b.1 (sym e) parses in
    let is : n ≡ m = cc in
    let no : false ≡ true = sym h ∙ ap is_drill is ∙ f in
    absurd cc)

-- ---- the words of a drill

count-drills : (text : List ℕ) (n : ℕ) → count_in text ≡ Some n → is_drill n ≡ true
count-drills text n e = at (is_count text m) refl e where
  m : ℕ
  m = digits_value 10 text

  at : (b : Bool) → is_count text m ≡ b → (if b then Some m else None) ≡ Some n → is_drill n ≡ true
  at true is e =
      let same : m ≡ n = cc in
      subst (λ k. is_drill k ≡ true) same (both_parts (is_drill m) (bytes_eq (decimal m) text) is).0
  at false is e = absurd cc

word-drills : (b : Bool) (number : List ℕ) (n : ℕ) → (if b then count_in number else None) ≡ Some n → is_drill n ≡ true
word-drills true number n e = count-drills number n e
word-drills false number n e = absurd cc

-- the number in the words of a drill is one of a drill
pub words-drill : (words : List (List ℕ)) (n : ℕ) → drill_in words ≡ Some n → is_drill n ≡ true
words-drill [] n e = absurd cc
words-drill (word ∷ []) n e = absurd cc
words-drill (word ∷ number ∷ []) n e = word-drills (bytes_eq word (codes "drill")) number n e
words-drill (word ∷ number ∷ next ∷ more) n e = absurd cc
