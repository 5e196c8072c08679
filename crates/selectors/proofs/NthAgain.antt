-- What the grammar of an+b says of a text, the reader reads.
use Rattle.std.proofs.Common.{◌≡◌, ℕ, ◌+◌, ◌*◌, ◌<◌, ◌≤◌, Bool, true, false, cond, ◌&&◌, ◌||◌, ◌==◌, nat_le, List, [], ◌∷◌, ◌++◌, length}
use Rattle.std.proofs.Common.{take, drop, Option, Some, None, refl, sym, ap, subst, ◌∙◌, append_assoc, append-nil, length-append, arith}
use Rattle.std.specs.Prelude.{ℤ, pos, map, codes}
use Rattle.std.specs.List.{list_all, prefix_len}
use Rattle.std.specs.Char.{is_ascii_digit, digit_value, to_ascii_lowercase}
use Rattle.std.proofs.Math.Seq.{take-append_seam, drop-append_seam}
use Rattle.std.proofs.lemmas.List.Folds.{list_all-append}
use Rattle.std.proofs.lemmas.List.Sums.{fold_push}
use Rattle.std.proofs.lemmas.Bool.{eq-eqb}
use Rattle.std.proofs.lemmas.Bool.Decides.{nat_tests}
use Rattle.css_tokens.specs.Codes.{begins, is_sign, is_white}
use Rattle.css_tokens.specs.Runs.{white_run, digits, sign_len}
use Rattle.css_tokens.proofs.RowForms.{passes_exact}
use Rattle.css_tokens.proofs.NameForms.{true_lt}
use Rattle.css_tokens.proofs.Ends.{and_true}
use Rattle.selectors.specs.Forms.{◌>>=◌}
use Rattle.selectors.specs.Nth.{skip_white, is_blank, decimal, nth_signed, is_negative, number_at, ends_number, offset_if, digits_of}
use Rattle.selectors.specs.Nth.{offset_of, after_n, nth_step, linear_by, linear_of, is_nth_letter, is_odd, is_even, nth_by, nth_of}
use Rattle.selectors.specs.NthGrammar.{AreWhite, AreLetters, Writes, no_digits, one_more, IsNthNumber, IsNthSign, plus, minus, MaySign}
use Rattle.selectors.specs.NthGrammar.{unsigned, with_sign, IsInteger, IsStep, step_written, step_one, IsOffset, offset_zero}
use Rattle.selectors.specs.NthGrammar.{offset_written, IsFormula, odd, even, constant, linear, IsNth}

-- ---- runs of codes

-- a run of codes that pass, where what follows goes on with none: its length, the run and what follows it
record RunIs (p : ℕ → Bool) (front rest : List ℕ) : Type 0 where
  len : prefix_len p (front ++ rest) ≡ length front
  own : take (prefix_len p (front ++ rest)) (front ++ rest) ≡ front
  behind : drop (prefix_len p (front ++ rest)) (front ++ rest) ≡ rest

run_is : (p : ℕ → Bool) (front rest : List ℕ) → list_all p front ≡ true → begins p rest ≡ false → RunIs p front rest
run_is p front rest all stops =
    let size = passes_exact p front rest all stops in
    record {
      len = size;
      own = ap (λ (k : ℕ). take k (front ++ rest)) size ∙ take-append_seam front rest;
      behind = ap (λ (k : ℕ). drop k (front ++ rest)) size ∙ drop-append_seam front rest;
    }

skip_again : (white rest : List ℕ) → AreWhite white → begins is_white rest ≡ false → skip_white (white ++ rest) ≡ rest
skip_again white rest are stops = (run_is is_white white rest are stops).behind

blank_again : (white : List ℕ) → AreWhite white → is_blank white ≡ true
blank_again white are = eq-eqb (white_run white) (length white)
    (ap white_run (sym (append-nil white)) ∙ passes_exact is_white white [] are refl)

apart : (a b : ℕ) → a < b → (a == b) ≡ false
apart a b less = grind (arith, nat_tests)

not_blank : (white : List ℕ) (c : ℕ) (rest : List ℕ) → AreWhite white → is_white c ≡ false → is_blank (white ++ c ∷ rest) ≡ false
not_blank white c rest are other =
    let run = run_is is_white white (c ∷ rest) are other in
    apart (white_run (white ++ c ∷ rest)) (length (white ++ c ∷ rest)) (omega (arith, run.len, length-append white (c ∷ rest)))

-- a code of one class is of no other
white_no_digit : (c : ℕ) → is_white c ≡ true → is_ascii_digit c ≡ false
white_no_digit c e = grind (arith, nat_tests)

white_no_n : (c : ℕ) → is_white c ≡ true → (c == 110 || c == 78) ≡ false
white_no_n c e = grind (arith, nat_tests)

digit_no_white : (c : ℕ) → is_ascii_digit c ≡ true → is_white c ≡ false
digit_no_white c e = grind (arith, nat_tests)

digit_no_sign : (c : ℕ) → is_ascii_digit c ≡ true → is_sign c ≡ false
digit_no_sign c e = grind (arith, nat_tests)

-- white space begins with no digit and no `n`
white_no_digit_first : (white : List ℕ) → AreWhite white → begins is_ascii_digit white ≡ false
white_no_digit_first [] are = refl
white_no_digit_first (c ∷ white) are = white_no_digit c (and_true (is_white c) (list_all is_white white) are).0

white_no_n_first : (white : List ℕ) → AreWhite white → begins (λ c. c == 110 || c == 78) white ≡ false
white_no_n_first [] are = refl
white_no_n_first (c ∷ white) are = white_no_n c (and_true (is_white c) (list_all is_white white) are).0

-- ---- numbers

digit_passes : (d : ℕ) → d ≤ 9 → is_ascii_digit (48 + d) ≡ true
digit_passes d small = grind (arith, nat_tests)

digit_says : (d : ℕ) → d ≤ 9 → digit_value (48 + d) ≡ d
digit_says d small = grind (arith, nat_tests)

record Written (ds : List ℕ) (n : ℕ) : Type 0 where
  are : list_all is_ascii_digit ds ≡ true
  value : decimal ds ≡ n

written : (ds : List ℕ) (n : ℕ) → Writes ds n → Written ds n
written ds n no_digits = record { are = refl; value = refl }
written ds n (one_more front all m d is small writes) =
    let w = written front m writes in
    let push : decimal (front ++ (48 + d) ∷ [])
    ≡ decimal front * 10 + digit_value (48 + d) = fold_push (λ k c. k * 10 + digit_value c) 0 front (48 + d) in
    record {
      are = ap (list_all is_ascii_digit) is ∙ list_all-append is_ascii_digit front ((48 + d) ∷ []) ∙ ap
          (λ (b : Bool). b && (is_ascii_digit (48 + d) && true)) w.are ∙ ap (λ (b : Bool). b && true) (digit_passes d small);
      value = ap decimal is ∙ push ∙ omega (arith, w.value, digit_says d small);
    }

small_passes : (a b : ℕ) → a ≤ b → nat_le a b ≡ true
small_passes a b e = grind (arith, nat_tests)

abbrev some_number : ℕ → Option ℕ
some_number n = Some n

abbrev some_integer : ℤ → Option ℤ
some_integer z = Some z

number_again : (ds rest : List ℕ) (n : ℕ) → Writes ds n → length ds ≤ 9 → begins is_ascii_digit rest ≡ false
    → number_at (ds ++ rest) ≡ Some n
number_again ds rest n writes fits stops =
    let w = written ds n writes in
    let run = run_is is_ascii_digit ds rest w.are stops in
    ap (λ (b : Bool). cond b (some_number (decimal (take (digits (ds ++ rest)) (ds ++ rest)))) None)
    (small_passes (digits (ds ++ rest)) 9 (omega (arith, run.len, fits)))
    ∙ ap (λ (xs : List ℕ). some_number (decimal xs)) run.own
    ∙ ap some_number w.value

digits_again : (negative : Bool) (ds after : List ℕ) (n : ℕ) → IsNthNumber ds n → AreWhite after
    → digits_of negative (ds ++ after) ≡ Some (nth_signed negative n)
unfolding digits_of
digits_again negative ds after n number white =
    let text = ds ++ after in
    let w = written ds n number.writes in
    let stops = white_no_digit_first after white in
    let run = run_is is_ascii_digit ds after w.are stops in
    let ends : ends_number text ≡ true = ap (λ (b : Bool). b && is_blank (drop (digits text) text))
    (true_lt 0 (digits text) (omega (arith, run.len, number.some))) ∙ ap is_blank run.behind ∙ blank_again after white in
    ap (λ (o : Option ℕ). o >>= λ m. offset_if (ends_number text) (nth_signed negative m))
    (number_again ds after n number.writes number.at_most_nine stops)
    ∙ ap (λ (b : Bool). cond b (some_integer (nth_signed negative n)) None) ends

-- ---- signs

-- what reading makes of a sign
record SignIs (sign : List ℕ) (n : ℕ) (z : ℤ) : Type 0 where
  mark : ℕ
  negative : Bool
  is : sign ≡ mark ∷ []
  no_white : is_white mark ≡ false
  value : nth_signed negative n ≡ z
  offset : (rest : List ℕ) → offset_of (sign ++ rest) ≡ digits_of negative (skip_white rest)
  linear : (rest : List ℕ) → linear_of (sign ++ rest) ≡ linear_by negative rest

sign_again : (sign : List ℕ) (n : ℕ) (z : ℤ) → IsNthSign sign n z → SignIs sign n z
unfolding offset_of linear_of
sign_again sign n z (plus m) = record {
  mark = 43;
  negative = false;
  is = refl;
  no_white = refl;
  value = refl;
  offset = λ rest. refl;
  linear = λ rest. refl;
}
sign_again sign n z (minus m) = record {
  mark = 45;
  negative = true;
  is = refl;
  no_white = refl;
  value = refl;
  offset = λ rest. refl;
  linear = λ rest. refl;
}

record MaySignIs (sign : List ℕ) (n : ℕ) (z : ℤ) : Type 0 where
  negative : Bool
  value : nth_signed negative n ≡ z
  linear : (rest : List ℕ) → begins is_sign rest ≡ false → linear_of (sign ++ rest) ≡ linear_by negative rest

no_minus : (c : ℕ) → is_sign c ≡ false → (c == 45) ≡ false
no_minus c e = grind (arith, nat_tests)

not_negative : (text : List ℕ) → begins is_sign text ≡ false → is_negative text ≡ false
not_negative [] e = refl
not_negative (c ∷ rest) e = no_minus c e

unsigned_linear : (text : List ℕ) → begins is_sign text ≡ false → linear_of text ≡ linear_by false text
unfolding linear_of
unsigned_linear text none =
    ap (λ (b : Bool). linear_by b (drop (sign_len text) text)) (not_negative text none)
    ∙ ap (λ (b : Bool). linear_by false (drop (cond b 1 0) text)) none

may_sign_again : (sign : List ℕ) (n : ℕ) (z : ℤ) → MaySign sign n z → MaySignIs sign n z
may_sign_again sign n z (unsigned m) = record { negative = false; value = refl; linear = λ rest none. unsigned_linear rest none }
may_sign_again sign n z (with_sign s m y is_sign) = let s = sign_again sign n z is_sign in record {
  negative = s.negative;
  value = s.value;
  linear = λ rest none. s.linear rest;
}

-- ---- the formula

-- what a text begins with, where that is no white space and begins no word
record Starts (text : List ℕ) : Type 0 where
  c : ℕ
  rest : List ℕ
  is : text ≡ c ∷ rest
  no_white : is_white c ≡ false
  no_o : is_nth_letter 111 c ≡ false
  no_e : is_nth_letter 101 c ≡ false

starts_white : (text : List ℕ) → Starts text → begins is_white text ≡ false
starts_white text s = ap (begins is_white) s.is ∙ s.no_white

starts_more : (text more : List ℕ) → Starts text → Starts (text ++ more)
starts_more text more s = record {
  c = s.c;
  rest = s.rest ++ more;
  is = ap (λ (xs : List ℕ). xs ++ more) s.is;
  no_white = s.no_white;
  no_o = s.no_o;
  no_e = s.no_e;
}

no_odd : (c : ℕ) (rest : List ℕ) → is_nth_letter 111 c ≡ false → is_odd (c ∷ rest) ≡ false
no_odd c [] e = refl
no_odd c (x ∷ []) e = refl
no_odd c (x ∷ y ∷ rest) e = ap (λ (b : Bool). (b && is_nth_letter 100 x) && (is_nth_letter 100 y && is_blank rest)) e

no_even : (c : ℕ) (rest : List ℕ) → is_nth_letter 101 c ≡ false → is_even (c ∷ rest) ≡ false
no_even c [] e = refl
no_even c (x ∷ []) e = refl
no_even c (x ∷ y ∷ []) e = refl
no_even c (x ∷ y ∷ z ∷ rest) e = ap
    (λ (b : Bool). (b && is_nth_letter 118 x) && ((is_nth_letter 101 y && is_nth_letter 110 z) && is_blank rest)) e

abbrev Read : Type 0
Read = Option (ℤ × ℤ)

abbrev some_pair : ℤ → ℤ → Read
some_pair a b = Some (a, b)

-- a text that begins no word is read as a linear one
no_word : (text : List ℕ) → Starts text → nth_by text ≡ linear_of text
no_word text s =
    ap (λ (b : Bool). cond b (some_pair (pos 2) (pos 1)) (cond (is_even text) (some_pair (pos 2) (pos 0)) (linear_of text)))
    (ap is_odd s.is ∙ no_odd s.c s.rest s.no_o)
    ∙ ap (λ (b : Bool). cond b (some_pair (pos 2) (pos 0)) (linear_of text)) (ap is_even s.is ∙ no_even s.c s.rest s.no_e)

digit_no_letter : (c : ℕ) → is_ascii_digit c ≡ true → (is_nth_letter 111 c ≡ false) × (is_nth_letter 101 c ≡ false)
digit_no_letter c e = (digit_no_o c e, digit_no_e c e)
  where
    digit_no_o : (d : ℕ) → is_ascii_digit d ≡ true → is_nth_letter 111 d ≡ false
    digit_no_o d f = grind (arith, nat_tests)

    digit_no_e : (d : ℕ) → is_ascii_digit d ≡ true → is_nth_letter 101 d ≡ false
    digit_no_e d f = grind (arith, nat_tests)

digits_start : (ds : List ℕ) → 0 < length ds → list_all is_ascii_digit ds ≡ true → Starts ds
digits_start [] some are = absurd (omega arith)
digits_start (c ∷ ds) some are =
    let first = (and_true (is_ascii_digit c) (list_all is_ascii_digit ds) are).0 in
    let none = digit_no_letter c first in
    record { c = c; rest = ds; is = refl; no_white = digit_no_white c first; no_o = none.0; no_e = none.1 }

sign_starts : (sign rest : List ℕ) (n : ℕ) (z : ℤ) → IsNthSign sign n z → Starts (sign ++ rest)
sign_starts sign rest n z (plus m) = record { c = 43; rest = rest; is = refl; no_white = refl; no_o = refl; no_e = refl }
sign_starts sign rest n z (minus m) = record { c = 45; rest = rest; is = refl; no_white = refl; no_o = refl; no_e = refl }

may_sign_starts : (sign rest : List ℕ) (n : ℕ) (z : ℤ) → MaySign sign n z → Starts rest → Starts (sign ++ rest)
may_sign_starts sign rest n z (unsigned m) s = s
may_sign_starts sign rest n z (with_sign s m y is_sign) _ = sign_starts sign rest n z is_sign

-- ---- integers

integer_starts : (text : List ℕ) (z : ℤ) → IsInteger text z → Starts text
integer_starts text z i = subst Starts (sym i.whole)
    (may_sign_starts i.sign i.digits i.n z i.signs (digits_start i.digits i.number.some (written i.digits i.n i.number.writes).are))

digits_no_sign : (ds rest : List ℕ) → 0 < length ds → list_all is_ascii_digit ds ≡ true → begins is_sign (ds ++ rest) ≡ false
digits_no_sign [] rest some are = absurd (omega arith)
digits_no_sign (c ∷ ds) rest some are = digit_no_sign c (and_true (is_ascii_digit c) (list_all is_ascii_digit ds) are).0

-- behind the sign: digits, and nothing but white space
constant_by : (negative : Bool) (ds after : List ℕ) (n : ℕ) → IsNthNumber ds n → AreWhite after
    → linear_by negative (ds ++ after) ≡ Some (pos 0, nth_signed negative n)
constant_by negative ds after n number white =
    let text = ds ++ after in
    let run = run_is is_ascii_digit ds after (written ds n number.writes).are (white_no_digit_first after white) in
    let rest = drop (digits text) text in
    let read = nth_step negative text >>= λ a. after_n (drop 1 rest) >>= λ b. some_pair a b in
    ap (λ (b : Bool). cond b read (digits_of negative text >>= λ z. some_pair (pos 0) z))
    (ap (begins (λ c. c == 110 || c == 78)) run.behind ∙ white_no_n_first after white)
    ∙ ap (λ (o : Option ℤ). o >>= λ z. some_pair (pos 0) z) (digits_again negative ds after n number white)

constant_again : (text after : List ℕ) (z : ℤ) → IsInteger text z → AreWhite after → linear_of (text ++ after) ≡ Some (pos 0, z)
constant_again text after z i white =
    let s = may_sign_again i.sign i.n z i.signs in
    let are = (written i.digits i.n i.number.writes).are in
    let whole : text ++ after ≡ i.sign
    ++ (i.digits ++ after) = ap (λ (xs : List ℕ). xs ++ after) i.whole ∙ append_assoc i.sign i.digits after in
    ap linear_of whole
    ∙ s.linear (i.digits ++ after) (digits_no_sign i.digits after i.number.some are)
    ∙ constant_by s.negative i.digits after i.n i.number white
    ∙ ap (λ (y : ℤ). some_pair (pos 0) y) s.value

-- ---- behind the `n`

number_no_white : (ds rest : List ℕ) (n : ℕ) → IsNthNumber ds n → begins is_white (ds ++ rest) ≡ false
number_no_white ds rest n number = starts_white (ds ++ rest)
    (starts_more ds rest (digits_start ds number.some (written ds n number.writes).are))

offset_again : (text after : List ℕ) (b : ℤ) → IsOffset text b → AreWhite after → after_n (text ++ after) ≡ Some b
unfolding after_n
offset_again text after b offset_zero white = ap (λ (t : Bool). cond t (some_integer (pos 0)) (offset_of (skip_white after)))
    (blank_again after white)
offset_again text after b (offset_written before sign between ds all n z is are is_sign are_between number) white =
    let s = sign_again sign n z is_sign in
    let tail = between ++ (ds ++ after) in
    let whole : all ++ after ≡ before ++ (s.mark ∷ tail) =
    ap (λ (xs : List ℕ). xs ++ after) is
    ∙ append_assoc before (sign ++ (between ++ ds)) after
    ∙ ap (λ (xs : List ℕ). before ++ xs)
    (append_assoc sign (between ++ ds) after ∙ ap (λ (xs : List ℕ). sign ++ xs) (append_assoc between ds after) ∙ ap
    (λ (xs : List ℕ). xs ++ tail) s.is) in
    ap (λ (xs : List ℕ). cond (is_blank xs) (some_integer (pos 0)) (offset_of (skip_white xs))) whole
    ∙ ap (λ (t : Bool). cond t (some_integer (pos 0)) (offset_of (skip_white (before ++ (s.mark ∷ tail)))))
    (not_blank before s.mark tail are s.no_white)
    ∙ ap offset_of (skip_again before (s.mark ∷ tail) are s.no_white ∙ ap (λ (xs : List ℕ). xs ++ tail) (sym s.is))
    ∙ s.offset tail
    ∙ ap (digits_of s.negative) (skip_again between (ds ++ after) are_between (number_no_white ds after n number))
    ∙ digits_again s.negative ds after n number white
    ∙ ap some_integer s.value

-- ---- before the `n`

-- what reading makes of a step and what follows it
record StepIs (step rest : List ℕ) (a : ℤ) : Type 0 where
  negative : Bool
  unsigned : List ℕ
  linear : linear_of (step ++ rest) ≡ linear_by negative unsigned
  behind : drop (digits unsigned) unsigned ≡ rest
  value : nth_step negative unsigned ≡ Some a

written_step : (negative : Bool) (ds rest : List ℕ) (n : ℕ) → IsNthNumber ds n → begins is_ascii_digit rest ≡ false
    → nth_step negative (ds ++ rest) ≡ Some (nth_signed negative n)
written_step negative ds rest n number stops =
    let run = run_is is_ascii_digit ds rest (written ds n number.writes).are stops in
    let some : (digits (ds ++ rest) == 0) ≡ false = not_zero (digits (ds ++ rest)) (omega (arith, run.len, number.some)) in
    ap (λ (o : Option ℕ). o >>= λ m. some_integer (nth_signed negative (cond (digits (ds ++ rest) == 0) 1 m)))
    (number_again ds rest n number.writes number.at_most_nine stops)
    ∙ ap (λ (t : Bool). some_integer (nth_signed negative (cond t 1 n))) some
  where
    not_zero : (k : ℕ) → 0 < k → (k == 0) ≡ false
    not_zero k some = grind (arith, nat_tests)

one_step : (negative : Bool) (rest : List ℕ) → begins is_ascii_digit rest ≡ false → nth_step negative rest ≡ Some (nth_signed negative 1)
one_step negative rest stops =
    let zero : digits rest ≡ 0 = passes_exact is_ascii_digit [] rest refl stops in
    ap (λ (o : Option ℕ). o >>= λ m. some_integer (nth_signed negative (cond (digits rest == 0) 1 m)))
    (number_again [] rest 0 no_digits (omega arith) stops)
    ∙ ap (λ (k : ℕ). some_integer (nth_signed negative (cond (k == 0) 1 0))) zero

step_again : (step rest : List ℕ) (a : ℤ) → IsStep step a → begins is_ascii_digit rest ≡ false → begins is_sign rest ≡ false
    → StepIs step rest a
step_again step rest a (step_written text z i) stops none =
    let s = may_sign_again i.sign i.n z i.signs in
    let are = (written i.digits i.n i.number.writes).are in
    record {
      negative = s.negative;
      unsigned = i.digits ++ rest;
      linear = ap (λ (xs : List ℕ). linear_of (xs ++ rest)) i.whole ∙ ap linear_of (append_assoc i.sign i.digits rest) ∙ s.linear
          (i.digits ++ rest) (digits_no_sign i.digits rest i.number.some are);
      behind = (run_is is_ascii_digit i.digits rest are stops).behind;
      value = written_step s.negative i.digits rest i.n i.number stops ∙ ap some_integer s.value;
    }
step_again step rest a (step_one sign z signs) stops none =
    let s = may_sign_again sign 1 z signs in
    record {
      negative = s.negative;
      unsigned = rest;
      linear = s.linear rest none;
      behind = (run_is is_ascii_digit [] rest refl stops).behind;
      value = one_step s.negative rest stops ∙ ap some_integer s.value;
    }

-- ---- letters

record Letter (x : ℕ) (others letters : List ℕ) : Type 0 where
  c : ℕ
  rest : List ℕ
  is : letters ≡ c ∷ rest
  letter : to_ascii_lowercase c ≡ x
  more : map to_ascii_lowercase rest ≡ others

letter_of : (x : ℕ) (others letters : List ℕ) → map to_ascii_lowercase letters ≡ x ∷ others → Letter x others letters
letter_of x others [] e = absurd (cc)
letter_of x others (c ∷ rest) e = record { c = c; rest = rest; is = refl; letter = cc; more = cc }

no_letters : (letters : List ℕ) → map to_ascii_lowercase letters ≡ [] → letters ≡ []
no_letters [] e = refl
no_letters (c ∷ rest) e = absurd (cc)

-- a letter is no white space
letter_no_white : (c x : ℕ) → 97 ≤ x → to_ascii_lowercase c ≡ x → is_white c ≡ false
letter_no_white c x small e = grind (arith, nat_tests)

letter_is : (c x : ℕ) → to_ascii_lowercase c ≡ x → is_nth_letter x c ≡ true
letter_is c x e = eq-eqb (to_ascii_lowercase c) x e

-- what the reader makes of a formula and the white space behind it
abbrev IsRead : List ℕ → List ℕ → ℤ → ℤ → Type 0
IsRead formula after a b = (begins is_white (formula ++ after) ≡ false) × (nth_by (formula ++ after) ≡ Some (a, b))

odd_test : (a b c : ℕ) (after : List ℕ) → is_nth_letter 111 a ≡ true → is_nth_letter 100 b ≡ true → is_nth_letter 100 c ≡ true
    → is_blank after ≡ true → is_odd (a ∷ b ∷ c ∷ after) ≡ true
odd_test a b c after first second third blank =
    ap (λ (t : Bool). (t && is_nth_letter 100 b) && (is_nth_letter 100 c && is_blank after)) first
    ∙ ap (λ (t : Bool). t && (is_nth_letter 100 c && is_blank after)) second
    ∙ ap (λ (t : Bool). t && is_blank after) third
    ∙ blank

odd_again : (letters after : List ℕ) → AreLetters (codes "odd") letters → AreWhite after → IsRead letters after (pos 2) (pos 1)
odd_again letters after e white =
    let f = letter_of 111 (100 ∷ 100 ∷ []) letters e in
    let s = letter_of 100 (100 ∷ []) f.rest f.more in
    let t = letter_of 100 [] s.rest s.more in
    let whole : letters ≡ f.c ∷ s.c ∷ t.c
    ∷ [] = f.is ∙ ap (λ (xs : List ℕ). f.c ∷ xs)
    (s.is ∙ ap (λ (xs : List ℕ). s.c ∷ xs) (t.is ∙ ap (λ (xs : List ℕ). t.c ∷ xs) (no_letters t.rest t.more))) in
    let says = odd_test f.c s.c t.c after (letter_is f.c 111 f.letter) (letter_is s.c 100 s.letter) (letter_is t.c 100 t.letter)
    (blank_again after white) in (
      ap (λ (xs : List ℕ). begins is_white (xs ++ after)) whole ∙ letter_no_white f.c 111 (omega arith) f.letter,
      ap (λ (b : Bool). cond b (some_pair (pos 2) (pos 1))
          (cond (is_even (letters ++ after)) (some_pair (pos 2) (pos 0)) (linear_of (letters ++ after))))
          (ap (λ (xs : List ℕ). is_odd (xs ++ after)) whole ∙ says),
    )

even_test : (a b c d : ℕ) (after : List ℕ) → is_nth_letter 101 a ≡ true → is_nth_letter 118 b ≡ true → is_nth_letter 101 c ≡ true
    → is_nth_letter 110 d ≡ true → is_blank after ≡ true → is_even (a ∷ b ∷ c ∷ d ∷ after) ≡ true
even_test a b c d after first second third fourth blank =
    ap (λ (t : Bool). (t && is_nth_letter 118 b) && ((is_nth_letter 101 c && is_nth_letter 110 d) && is_blank after)) first
    ∙ ap (λ (t : Bool). t && ((is_nth_letter 101 c && is_nth_letter 110 d) && is_blank after)) second
    ∙ ap (λ (t : Bool). (t && is_nth_letter 110 d) && is_blank after) third
    ∙ ap (λ (t : Bool). t && is_blank after) fourth
    ∙ blank

even_again : (letters after : List ℕ) → AreLetters (codes "even") letters → AreWhite after → IsRead letters after (pos 2) (pos 0)
even_again letters after e white =
    let f = letter_of 101 (118 ∷ 101 ∷ 110 ∷ []) letters e in
    let s = letter_of 118 (101 ∷ 110 ∷ []) f.rest f.more in
    let t = letter_of 101 (110 ∷ []) s.rest s.more in
    let u = letter_of 110 [] t.rest t.more in
    let whole : letters ≡ f.c ∷ s.c ∷ t.c ∷ u.c
    ∷ [] = f.is ∙ ap (λ (xs : List ℕ). f.c ∷ xs)
    (s.is ∙ ap (λ (xs : List ℕ). s.c ∷ xs)
    (t.is ∙ ap (λ (xs : List ℕ). t.c ∷ xs) (u.is ∙ ap (λ (xs : List ℕ). u.c ∷ xs) (no_letters u.rest u.more)))) in
    let says = even_test f.c s.c t.c u.c after (letter_is f.c 101 f.letter) (letter_is s.c 118 s.letter) (letter_is t.c 101 t.letter)
    (letter_is u.c 110 u.letter) (blank_again after white) in
    let none = no_odd f.c (s.c ∷ t.c ∷ u.c ∷ after) (ap (λ (x : ℕ). x == 111) f.letter) in (
      ap (λ (xs : List ℕ). begins is_white (xs ++ after)) whole ∙ letter_no_white f.c 101 (omega arith) f.letter,
      ap (λ (b : Bool). cond b (some_pair (pos 2) (pos 1))
          (cond (is_even (letters ++ after)) (some_pair (pos 2) (pos 0)) (linear_of (letters ++ after))))
          (ap (λ (xs : List ℕ). is_odd (xs ++ after)) whole ∙ none)
          ∙ ap (λ (b : Bool). cond b (some_pair (pos 2) (pos 0)) (linear_of (letters ++ after)))
          (ap (λ (xs : List ℕ). is_even (xs ++ after)) whole ∙ says),
    )

-- ---- the letter `n`

record IsN (c : ℕ) : Type 0 where
  letter : (c == 110 || c == 78) ≡ true
  no_digit : is_ascii_digit c ≡ false
  no_sign : is_sign c ≡ false
  no_o : is_nth_letter 111 c ≡ false
  no_e : is_nth_letter 101 c ≡ false

n_letter : (c : ℕ) → to_ascii_lowercase c ≡ 110 → (c == 110 || c == 78) ≡ true
n_letter c e = grind (arith, nat_tests)

n_no_digit : (c : ℕ) → to_ascii_lowercase c ≡ 110 → is_ascii_digit c ≡ false
n_no_digit c e = grind (arith, nat_tests)

n_no_sign : (c : ℕ) → to_ascii_lowercase c ≡ 110 → is_sign c ≡ false
n_no_sign c e = grind (arith, nat_tests)

is_n : (c : ℕ) → to_ascii_lowercase c ≡ 110 → IsN c
is_n c e = record {
  letter = n_letter c e;
  no_digit = n_no_digit c e;
  no_sign = n_no_sign c e;
  no_o = ap (λ (x : ℕ). x == 111) e;
  no_e = ap (λ (x : ℕ). x == 101) e;
}

step_starts : (step rest : List ℕ) (a : ℤ) → IsStep step a → Starts rest → Starts (step ++ rest)
step_starts step rest a (step_written text z i) s = starts_more text rest (integer_starts text z i)
step_starts step rest a (step_one sign z signs) s = may_sign_starts sign rest 1 z signs s

linear_again : (step offset after : List ℕ) (c : ℕ) (a b : ℤ) → IsStep step a → to_ascii_lowercase c ≡ 110 → IsOffset offset b
    → AreWhite after → IsRead (step ++ (c ∷ offset)) after a b
linear_again step offset after c a b is_step e is_offset white =
    let n = is_n c e in
    let rest = c ∷ (offset ++ after) in
    let first : Starts rest = record {
      c = c;
      rest = offset ++ after;
      is = refl;
      no_white = letter_no_white c 110 (omega arith) e;
      no_o = n.no_o;
      no_e = n.no_e;
    } in
    let starts : Starts (step ++ rest) = step_starts step rest a is_step first in
    let s = step_again step rest a is_step n.no_digit n.no_sign in
    let whole : (step ++ (c ∷ offset)) ++ after ≡ step ++ rest = append_assoc step (c ∷ offset) after in
    let linear_read = nth_step s.negative s.unsigned >>= λ x. after_n
    (drop 1 (drop (digits s.unsigned) s.unsigned)) >>= λ y. some_pair x y in (
      ap (begins is_white) whole ∙ starts_white (step ++ rest) starts,
      ap nth_by whole
          ∙ no_word (step ++ rest) starts
          ∙ s.linear
          ∙ ap (λ (t : Bool). cond t linear_read (digits_of s.negative s.unsigned >>= λ z. some_pair (pos 0) z))
          (ap (begins (λ d. d == 110 || d == 78)) s.behind ∙ n.letter)
          ∙ ap (λ (o : Option ℤ). o >>= λ x. after_n (drop 1 (drop (digits s.unsigned) s.unsigned)) >>= λ y. some_pair x y) s.value
          ∙ ap (λ (xs : List ℕ). after_n (drop 1 xs) >>= λ y. some_pair a y) s.behind
          ∙ ap (λ (o : Option ℤ). o >>= λ y. some_pair a y) (offset_again offset after b is_offset white),
    )

formula_again : (formula after : List ℕ) (a b : ℤ) → IsFormula formula a b → AreWhite after → IsRead formula after a b
formula_again formula after a b (odd letters e) white = odd_again letters after e white
formula_again formula after a b (even letters e) white = even_again letters after e white
formula_again formula after a b (constant text z i) white =
    let starts = starts_more text after (integer_starts text z i) in
    (starts_white (text ++ after) starts, no_word (text ++ after) starts ∙ constant_again text after z i white)
formula_again formula after a b (linear step letter offset text x y is is_step e is_offset) white =
    let n = letter_of 110 [] letter e in
    let one : letter ≡ n.c ∷ [] = n.is ∙ ap (λ (xs : List ℕ). n.c ∷ xs) (no_letters n.rest n.more) in
    let whole : text ≡ step ++ (n.c ∷ offset) = is ∙ ap (λ (xs : List ℕ). step ++ (xs ++ offset)) one in
    subst (λ (xs : List ℕ). IsRead xs after x y) (sym whole) (linear_again step offset after n.c x y is_step n.letter is_offset white)

pub nth_reads : (text : List ℕ) (a b : ℤ) → IsNth text a b → nth_of text ≡ Some (a, b)
unfolding nth_of
nth_reads text a b i =
    let read = formula_again i.formula i.after a b i.is_formula i.white_after in
    ap (λ (xs : List ℕ). nth_by (skip_white xs)) i.whole
    ∙ ap nth_by (skip_again i.before (i.formula ++ i.after) i.white_before read.0)
    ∙ read.1
