-- What is read of a text as an+b, the grammar of an+b says.
use Rattle.std.proofs.Common.{◌≡◌, ◌⊎◌, inl, inr, ℕ, ◌+◌, ◌*◌, ◌<◌, ◌≤◌, Bool, true, false, cond, ◌&&◌, ◌||◌, ◌==◌, nat_le, nat_lt, List}
use Rattle.std.proofs.Common.{[], ◌∷◌, ◌++◌, length, take, drop, Option, Some, refl, sym, ap, subst, ◌∙◌, append_assoc, append-nil}
use Rattle.std.proofs.Common.{length-append, arith}
use Rattle.std.specs.Prelude.{ℤ, pos, codes}
use Rattle.std.specs.List.{list_all, prefix_len, fold}
use Rattle.std.specs.Char.{is_ascii_digit, digit_value, to_ascii_lowercase}
use Rattle.std.proofs.Math.Seq.{take-append_seam, drop-append_seam}
use Rattle.std.proofs.lemmas.Bool.{eqb-true}
use Rattle.std.proofs.lemmas.Bool.Decides.{nat_tests}
use Rattle.css_tokens.specs.Codes.{begins, is_sign, is_white}
use Rattle.css_tokens.specs.Runs.{white_run, digits, sign_len}
use Rattle.css_tokens.proofs.RowForms.{passes_cut}
use Rattle.css_tokens.proofs.NameForms.{lt_true}
use Rattle.css_tokens.proofs.Ends.{and_true}
use Rattle.selectors.specs.Forms.{◌>>=◌}
use Rattle.selectors.specs.Nth.{skip_white, is_blank, decimal, nth_signed, is_negative, number_at, ends_number, offset_if, digits_of}
use Rattle.selectors.specs.Nth.{offset_of, after_n, nth_step, linear_by, linear_of, is_nth_letter, is_odd, is_even, nth_by, nth_of}
use Rattle.selectors.specs.NthGrammar.{AreWhite, AreLetters, Writes, no_digits, one_more, IsNthNumber, IsNthSign, plus, minus, MaySign}
use Rattle.selectors.specs.NthGrammar.{unsigned, with_sign, IsStep, step_written, step_one, IsOffset, offset_zero, offset_written}
use Rattle.selectors.specs.NthGrammar.{IsFormula, odd, even, constant, linear, IsNth}
use Rattle.selectors.proofs.Choices.{some_is, chosen, passed_test, bind_some}

-- ---- runs of codes

-- a text cut behind its longest run of codes that pass
record RunCut (p : ℕ → Bool) (text : List ℕ) : Type 0 where
  front : List ℕ
  rest : List ℕ
  is : text ≡ front ++ rest
  len : prefix_len p text ≡ length front
  own : take (prefix_len p text) text ≡ front
  behind : drop (prefix_len p text) text ≡ rest
  are : list_all p front ≡ true

run_cut : (p : ℕ → Bool) (text : List ℕ) → RunCut p text
run_cut p text =
    let c = passes_cut p text in
    record {
      front = c.front;
      rest = c.rest;
      is = c.is;
      len = c.len;
      own = ap (λ (k : ℕ). take k text) c.len ∙ ap (take (length c.front)) c.is ∙ take-append_seam c.front c.rest;
      behind = ap (λ (k : ℕ). drop k text) c.len ∙ ap (drop (length c.front)) c.is ∙ drop-append_seam c.front c.rest;
      are = c.form.0;
    }

no_rest : (text front rest : List ℕ) → text ≡ front ++ rest → length text ≡ length front → front ≡ text
no_rest text front [] is len = sym (is ∙ append-nil front)
no_rest text front (c ∷ rest) is len = absurd (omega (arith, len, ap length is, length-append front (c ∷ rest)))

blank_takes : (text : List ℕ) → is_blank text ≡ true → AreWhite text
blank_takes text e =
    let c = run_cut is_white text in
    subst AreWhite (no_rest text c.front c.rest c.is (sym (eqb-true (white_run text) (length text) e) ∙ c.len)) c.are

-- ---- numbers

digit_code : (c : ℕ) → is_ascii_digit c ≡ true → c ≡ 48 + digit_value c
digit_code c e = grind (arith, nat_tests)

digit_small : (c : ℕ) → is_ascii_digit c ≡ true → digit_value c ≤ 9
digit_small c e = grind (arith, nat_tests)

abbrev push : ℕ → ℕ → ℕ
push n c = n * 10 + digit_value c

writes_from : (front ds : List ℕ) (n : ℕ) → Writes front n → list_all is_ascii_digit ds ≡ true → Writes (front ++ ds) (fold push n ds)
writes_from front [] n writes are = subst (λ (xs : List ℕ). Writes xs n) (sym (append-nil front)) writes
writes_from front (c ∷ ds) n writes are =
    let t = and_true (is_ascii_digit c) (list_all is_ascii_digit ds) are in
    let sum : 10 * n + digit_value c ≡ push n c = omega arith in
    let one : Writes (front ++ c ∷ []) (push n c) = subst (Writes (front ++ c ∷ [])) sum
    (one_more front (front ++ c ∷ []) n (digit_value c) (ap (λ (x : ℕ). front ++ x ∷ []) (digit_code c t.0))
    (digit_small c t.0) writes) in
    subst (λ (xs : List ℕ). Writes xs (fold push (push n c) ds)) (append_assoc front (c ∷ []) ds)
    (writes_from (front ++ c ∷ []) ds (push n c) one t.1)

abbrev some_number : ℕ → Option ℕ
some_number n = Some n

abbrev some_integer : ℤ → Option ℤ
some_integer z = Some z

-- digits in front, and the number that they write
record FoundNumber (text : List ℕ) (n : ℕ) : Type 0 where
  ds : List ℕ
  rest : List ℕ
  is : text ≡ ds ++ rest
  len : digits text ≡ length ds
  behind : drop (digits text) text ≡ rest
  fits : length ds ≤ 9
  writes : Writes ds n

small : (a b : ℕ) → nat_le a b ≡ true → a ≤ b
small a b e = grind (arith, nat_tests)

number_takes : (text : List ℕ) (n : ℕ) → number_at text ≡ Some n → FoundNumber text n
number_takes text n e =
    let t = passed_test (nat_le (digits text) 9) (some_number (decimal (take (digits text) text))) n e in
    let c = run_cut is_ascii_digit text in
    record {
      ds = c.front;
      rest = c.rest;
      is = c.is;
      len = c.len;
      behind = c.behind;
      fits = omega (arith, c.len, small (digits text) 9 t.0);
      writes = subst (Writes c.front) (ap decimal (sym c.own) ∙ some_is (decimal (take (digits text) text)) n t.1)
          (writes_from [] c.front 0 no_digits c.are);
    }

-- digits in front, and nothing but white space behind them
record FoundDigits (negative : Bool) (text : List ℕ) (z : ℤ) : Type 0 where
  ds : List ℕ
  after : List ℕ
  n : ℕ
  is : text ≡ ds ++ after
  number : IsNthNumber ds n
  white : AreWhite after
  value : nth_signed negative n ≡ z

digits_take : (negative : Bool) (text : List ℕ) (z : ℤ) → digits_of negative text ≡ Some z → FoundDigits negative text z
unfolding digits_of
digits_take negative text z e =
    let b = bind_some (number_at text) (λ n. offset_if (ends_number text) (nth_signed negative n)) z e in
    let t = passed_test (ends_number text) (some_integer (nth_signed negative b.0)) z b.2 in
    let f = number_takes text b.0 b.1 in
    let ends = and_true (nat_lt 0 (digits text)) (is_blank (drop (digits text) text)) t.0 in
    record {
      ds = f.ds;
      after = f.rest;
      n = b.0;
      is = f.is;
      number = record { some = omega (arith, f.len, lt_true 0 (digits text) ends.0); at_most_nine = f.fits; writes = f.writes };
      white = blank_takes f.rest (ap is_blank (sym f.behind) ∙ ends.1);
      value = some_is (nth_signed negative b.0) z t.1;
    }

-- ---- signs

record FoundSign (text : List ℕ) : Type 0 where
  sign : List ℕ
  rest : List ℕ
  is : text ≡ sign ++ rest
  behind : drop (sign_len text) text ≡ rest
  signs : (n : ℕ) → MaySign sign n (nth_signed (is_negative text) n)

may_sign_takes : (text : List ℕ) → FoundSign text
may_sign_takes [] = record { sign = []; rest = []; is = refl; behind = refl; signs = λ n. unsigned n }
may_sign_takes (c ∷ rest) = by_plus (c == 43) refl
  where
    by_minus : (b : Bool) → (c == 43) ≡ false → (c == 45) ≡ b → FoundSign (c ∷ rest)
    by_minus true plain is =
        subst (λ (x : ℕ). FoundSign (x ∷ rest)) (sym (eqb-true c 45 is))
        (record { sign = 45 ∷ []; rest = rest; is = refl; behind = refl; signs = λ n. with_sign (45 ∷ []) n (nth_signed true n) (minus n) })
    by_minus false plain other = record {
      sign = [];
      rest = c ∷ rest;
      is = refl;
      behind = ap (λ (b : Bool). drop (cond (b || c == 45) 1 0) (c ∷ rest)) plain ∙ ap (λ (b : Bool). drop (cond b 1 0) (c ∷ rest)) other;
      signs = λ n. subst (λ (b : Bool). MaySign [] n (nth_signed b n)) (sym other) (unsigned n);
    }

    by_plus : (b : Bool) → (c == 43) ≡ b → FoundSign (c ∷ rest)
    by_plus true is =
        subst (λ (x : ℕ). FoundSign (x ∷ rest)) (sym (eqb-true c 43 is))
        (record { sign = 43 ∷ []; rest = rest; is = refl; behind = refl; signs = λ n. with_sign (43 ∷ []) n (nth_signed false n) (plus n) })
    by_plus false plain = by_minus (c == 45) plain refl

record FoundMark (text : List ℕ) : Type 0 where
  sign : List ℕ
  rest : List ℕ
  is : text ≡ sign ++ rest
  behind : drop 1 text ≡ rest
  signs : (n : ℕ) → IsNthSign sign n (nth_signed (is_negative text) n)

sign_takes : (text : List ℕ) → begins is_sign text ≡ true → FoundMark text
sign_takes [] e = absurd (cc)
sign_takes (c ∷ rest) e = by_plus (c == 43) refl
  where
    by_minus : (b : Bool) → (c == 43) ≡ false → (c == 45) ≡ b → FoundMark (c ∷ rest)
    by_minus true plain is =
        subst (λ (x : ℕ). FoundMark (x ∷ rest)) (sym (eqb-true c 45 is))
        (record { sign = 45 ∷ []; rest = rest; is = refl; behind = refl; signs = λ n. minus n })
    by_minus false plain other =
        let none : is_sign c ≡ false = ap (λ (b : Bool). b || c == 45) plain ∙ other in
        absurd (cc)

    by_plus : (b : Bool) → (c == 43) ≡ b → FoundMark (c ∷ rest)
    by_plus true is =
        subst (λ (x : ℕ). FoundMark (x ∷ rest)) (sym (eqb-true c 43 is))
        (record { sign = 43 ∷ []; rest = rest; is = refl; behind = refl; signs = λ n. plus n })
    by_plus false plain = by_minus (c == 45) plain refl

-- ---- behind the `n`

record FoundOffset (text : List ℕ) (b : ℤ) : Type 0 where
  offset : List ℕ
  after : List ℕ
  is : text ≡ offset ++ after
  white : AreWhite after
  form : IsOffset offset b

written_takes : (text : List ℕ) (b : ℤ) → offset_of (skip_white text) ≡ Some b → FoundOffset text b
unfolding offset_of
written_takes text b e =
    let w = run_cut is_white text in
    let t = passed_test (begins is_sign w.rest) (digits_of (is_negative w.rest) (skip_white (drop 1 w.rest))) b
    (ap offset_of (sym w.behind) ∙ e) in
    let s = sign_takes w.rest t.0 in
    let v = run_cut is_white s.rest in
    let f = digits_take (is_negative w.rest) v.rest b
    (ap (digits_of (is_negative w.rest)) (sym v.behind ∙ ap skip_white (sym s.behind)) ∙ t.1) in
    let whole : text ≡ (w.front ++ (s.sign ++ (v.front ++ f.ds))) ++ f.after =
    w.is
    ∙ ap (λ (xs : List ℕ). w.front ++ xs)
    (s.is ∙ ap (λ (xs : List ℕ). s.sign ++ xs)
    (v.is ∙ ap (λ (xs : List ℕ). v.front ++ xs) f.is ∙ sym (append_assoc v.front f.ds f.after)) ∙ sym
    (append_assoc s.sign (v.front ++ f.ds) f.after))
    ∙ sym (append_assoc w.front (s.sign ++ (v.front ++ f.ds)) f.after) in
    record {
      offset = w.front ++ (s.sign ++ (v.front ++ f.ds));
      after = f.after;
      is = whole;
      white = f.white;
      form = offset_written w.front s.sign v.front f.ds (w.front ++ (s.sign ++ (v.front ++ f.ds))) f.n b refl w.are
          (subst (IsNthSign s.sign f.n) f.value (s.signs f.n)) v.are f.number;
    }

offset_takes : (text : List ℕ) (b : ℤ) → after_n text ≡ Some b → FoundOffset text b
unfolding after_n
offset_takes text b e = by_case (chosen (is_blank text) (some_integer (pos 0)) (offset_of (skip_white text)) (Some b) e)
  where
    by_case : ((is_blank text ≡ true) × (some_integer (pos 0) ≡ Some b))
        ⊎ ((is_blank text ≡ false) × (offset_of (skip_white text) ≡ Some b)) → FoundOffset text b
    by_case (inl h) = record {
      offset = [];
      after = text;
      is = refl;
      white = blank_takes text h.0;
      form = subst (IsOffset []) (some_is (pos 0) b h.1) offset_zero;
    }
    by_case (inr h) = written_takes text b h.1

-- ---- before the `n`

abbrev Read : Type 0
Read = Option (ℤ × ℤ)

abbrev some_pair : ℤ → ℤ → Read
some_pair a b = Some (a, b)

record FoundStep (sign text : List ℕ) (a : ℤ) : Type 0 where
  ds : List ℕ
  rest : List ℕ
  is : text ≡ ds ++ rest
  behind : drop (digits text) text ≡ rest
  form : IsStep (sign ++ ds) a

step_takes : (negative : Bool) (sign text : List ℕ) (a : ℤ) → ((n : ℕ) → MaySign sign n (nth_signed negative n))
    → nth_step negative text ≡ Some a → FoundStep sign text a
step_takes negative sign text a signs e =
    let b = bind_some (number_at text) (λ n. some_integer (nth_signed negative (cond (digits text == 0) 1 n))) a e in
    let f = number_takes text b.0 b.1 in
    by_count (digits text == 0) refl f b.2
  where
    no_code : (ds : List ℕ) → length ds ≡ 0 → ds ≡ []
    no_code [] len = refl
    no_code (c ∷ ds) len = absurd (omega arith)

    some_code : (k : ℕ) → (k == 0) ≡ false → 0 < k
    some_code k t = grind (arith, nat_tests)

    by_count : (t : Bool) → (digits text == 0) ≡ t → {n : ℕ} (f : FoundNumber text n)
        → some_integer (nth_signed negative (cond (digits text == 0) 1 n)) ≡ Some a → FoundStep sign text a
    by_count true zero {n = n} f value =
        let one : nth_signed negative 1
        ≡ a = some_is (nth_signed negative 1) a
        (ap (λ (t : Bool). some_integer (nth_signed negative (cond t 1 n))) (sym zero) ∙ value) in
        let none : f.ds ≡ [] = no_code f.ds (sym f.len ∙ eqb-true (digits text) 0 zero) in
        record {
          ds = f.ds;
          rest = f.rest;
          is = f.is;
          behind = f.behind;
          form = subst (λ (xs : List ℕ). IsStep xs a) (sym (append-nil sign) ∙ ap (λ (xs : List ℕ). sign ++ xs) (sym none))
              (step_one sign a (subst (MaySign sign 1) one (signs 1)));
        }
    by_count false some {n = n} f value =
        let z : nth_signed negative n ≡ a = some_is (nth_signed negative n) a
        (ap (λ (t : Bool). some_integer (nth_signed negative (cond t 1 n))) (sym some) ∙ value) in
        record {
          ds = f.ds;
          rest = f.rest;
          is = f.is;
          behind = f.behind;
          form = step_written (sign ++ f.ds) a (record {
            sign = sign;
            digits = f.ds;
            n = n;
            whole = refl;
            signs = subst (MaySign sign n) z (signs n);
            number = record { some = omega (arith, f.len, some_code (digits text) some); at_most_nine = f.fits; writes = f.writes };
          });
        }

-- ---- the formula

-- a formula, and nothing but white space behind it
record FoundFormula (text : List ℕ) (a b : ℤ) : Type 0 where
  formula : List ℕ
  after : List ℕ
  is : text ≡ formula ++ after
  white : AreWhite after
  form : IsFormula formula a b

n_letter : (c : ℕ) → (c == 110 || c == 78) ≡ true → to_ascii_lowercase c ≡ 110
n_letter c e = grind (arith, nat_tests)

record FoundN (text : List ℕ) : Type 0 where
  c : ℕ
  rest : List ℕ
  is : text ≡ c ∷ rest
  behind : drop 1 text ≡ rest
  letter : to_ascii_lowercase c ≡ 110

n_takes : (text : List ℕ) → begins (λ c. c == 110 || c == 78) text ≡ true → FoundN text
n_takes [] e = absurd (cc)
n_takes (c ∷ rest) e = record { c = c; rest = rest; is = refl; behind = refl; letter = n_letter c e }

regroup : (sign ds formula after : List ℕ) → sign ++ (ds ++ (formula ++ after)) ≡ ((sign ++ ds) ++ formula) ++ after
regroup sign ds formula after = sym (append_assoc sign ds (formula ++ after)) ∙ sym (append_assoc (sign ++ ds) formula after)

-- behind a sign or none: digits or none, `n` and what follows it
steps_take : (negative : Bool) (sign text : List ℕ) (a b : ℤ) → ((n : ℕ) → MaySign sign n (nth_signed negative n))
    → begins (λ c. c == 110 || c == 78) (drop (digits text) text) ≡ true
    → (nth_step negative text >>= λ x. after_n (drop 1 (drop (digits text) text)) >>= λ y. some_pair x y) ≡ Some (a, b)
    → FoundFormula (sign ++ text) a b
steps_take negative sign text a b signs is_n e =
    let rest = drop (digits text) text in
    let x = bind_some (nth_step negative text) (λ x. after_n (drop 1 rest) >>= λ y. some_pair x y) (a, b) e in
    let y = bind_some (after_n (drop 1 rest)) (λ y. some_pair x.0 y) (a, b) x.2 in
    let same = some_is {A = ℤ × ℤ} (x.0, y.0) (a, b) y.2 in
    let s = step_takes negative sign text x.0 signs x.1 in
    let n = n_takes rest is_n in
    let o = offset_takes n.rest y.0 (ap after_n (sym n.behind) ∙ y.1) in
    let step = sign ++ s.ds in
    let F : ℤ × ℤ → Type 0 = λ p. IsFormula (step ++ (n.c ∷ o.offset)) p.0 p.1 in
    let tail : text ≡ s.ds ++ ((n.c ∷ o.offset) ++ o.after) = s.is ∙ ap (λ (xs : List ℕ). s.ds ++ xs)
    (sym s.behind ∙ n.is ∙ ap (λ (xs : List ℕ). n.c ∷ xs) o.is) in
    record {
      formula = step ++ (n.c ∷ o.offset);
      after = o.after;
      is = ap (λ (xs : List ℕ). sign ++ xs) tail ∙ regroup sign s.ds (n.c ∷ o.offset) o.after;
      white = o.white;
      form = subst F same (linear step (n.c ∷ []) o.offset (step ++ (n.c ∷ o.offset)) x.0 y.0 refl s.form
          (ap (λ (k : ℕ). k ∷ []) n.letter) o.form);
    }

-- behind a sign or none: digits, and nothing but white space
constant_takes : (negative : Bool) (sign text : List ℕ) (a b : ℤ) → ((n : ℕ) → MaySign sign n (nth_signed negative n))
    → (digits_of negative text >>= λ z. some_pair (pos 0) z) ≡ Some (a, b) → FoundFormula (sign ++ text) a b
constant_takes negative sign text a b signs e =
    let z = bind_some (digits_of negative text) (λ z. some_pair (pos 0) z) (a, b) e in
    let same = some_is {A = ℤ × ℤ} (pos 0, z.0) (a, b) z.2 in
    let f = digits_take negative text z.0 z.1 in
    let F : ℤ × ℤ → Type 0 = λ p. IsFormula (sign ++ f.ds) p.0 p.1 in
    record {
      formula = sign ++ f.ds;
      after = f.after;
      is = ap (λ (xs : List ℕ). sign ++ xs) f.is ∙ sym (append_assoc sign f.ds f.after);
      white = f.white;
      form = subst F same (constant (sign ++ f.ds) z.0
          (record {
            sign = sign;
            digits = f.ds;
            n = f.n;
            whole = refl;
            signs = subst (MaySign sign f.n) f.value (signs f.n);
            number = f.number;
          }));
    }

linear_takes : (text : List ℕ) (a b : ℤ) → linear_of text ≡ Some (a, b) → FoundFormula text a b
unfolding linear_of
linear_takes text a b e =
    let s = may_sign_takes text in
    let rest = drop (digits s.rest) s.rest in
    let read = nth_step (is_negative text) s.rest >>= λ x. after_n (drop 1 rest) >>= λ y. some_pair x y in
    subst (λ (xs : List ℕ). FoundFormula xs a b) (sym s.is)
    (by_case s (chosen (begins (λ c. c == 110 || c == 78) rest) read (digits_of (is_negative text) s.rest >>= λ z. some_pair (pos 0) z)
    (Some (a, b)) (ap (linear_by (is_negative text)) (sym s.behind) ∙ e)))
  where
    by_case : (s : FoundSign text)
        → ((begins (λ c. c == 110 || c == 78) (drop (digits s.rest) s.rest) ≡ true)
        × ((nth_step (is_negative text) s.rest >>= λ x. after_n (drop 1 (drop (digits s.rest) s.rest)) >>= λ y. some_pair x y)
        ≡ Some (a, b)))
        ⊎ ((begins (λ c. c == 110 || c == 78) (drop (digits s.rest) s.rest) ≡ false)
        × ((digits_of (is_negative text) s.rest >>= λ z. some_pair (pos 0) z) ≡ Some (a, b))) → FoundFormula (s.sign ++ s.rest) a b
    by_case s (inl h) = steps_take (is_negative text) s.sign s.rest a b s.signs h.0 h.1
    by_case s (inr h) = constant_takes (is_negative text) s.sign s.rest a b s.signs h.1

-- ---- words

odd_takes : (text : List ℕ) → is_odd text ≡ true → FoundFormula text (pos 2) (pos 1)
odd_takes [] e = absurd (cc)
odd_takes (x ∷ []) e = absurd (cc)
odd_takes (x ∷ y ∷ []) e = absurd (cc)
odd_takes (x ∷ y ∷ z ∷ rest) e =
    let t = and_true (is_nth_letter 111 x && is_nth_letter 100 y) (is_nth_letter 100 z && is_blank rest) e in
    let u = and_true (is_nth_letter 111 x) (is_nth_letter 100 y) t.0 in
    let v = and_true (is_nth_letter 100 z) (is_blank rest) t.1 in
    let first : to_ascii_lowercase x ≡ 111 = eqb-true (to_ascii_lowercase x) 111 u.0 in
    let second : to_ascii_lowercase y ≡ 100 = eqb-true (to_ascii_lowercase y) 100 u.1 in
    let third : to_ascii_lowercase z ≡ 100 = eqb-true (to_ascii_lowercase z) 100 v.0 in
    let letters : AreLetters (codes "odd") (x ∷ y ∷ z ∷ []) = ap
    (λ (k : ℕ). k ∷ to_ascii_lowercase y ∷ to_ascii_lowercase z ∷ []) first ∙ ap
    (λ (k : ℕ). 111 ∷ k ∷ to_ascii_lowercase z ∷ []) second ∙ ap (λ (k : ℕ). 111 ∷ 100 ∷ k ∷ []) third in
    record { formula = x ∷ y ∷ z ∷ []; after = rest; is = refl; white = blank_takes rest v.1; form = odd (x ∷ y ∷ z ∷ []) letters }

even_takes : (text : List ℕ) → is_even text ≡ true → FoundFormula text (pos 2) (pos 0)
even_takes [] e = absurd (cc)
even_takes (x ∷ []) e = absurd (cc)
even_takes (x ∷ y ∷ []) e = absurd (cc)
even_takes (x ∷ y ∷ z ∷ []) e = absurd (cc)
even_takes (x ∷ y ∷ z ∷ w ∷ rest) e =
    let t = and_true (is_nth_letter 101 x && is_nth_letter 118 y) ((is_nth_letter 101 z && is_nth_letter 110 w) && is_blank rest) e in
    let u = and_true (is_nth_letter 101 x) (is_nth_letter 118 y) t.0 in
    let v = and_true (is_nth_letter 101 z && is_nth_letter 110 w) (is_blank rest) t.1 in
    let q = and_true (is_nth_letter 101 z) (is_nth_letter 110 w) v.0 in
    let first : to_ascii_lowercase x ≡ 101 = eqb-true (to_ascii_lowercase x) 101 u.0 in
    let second : to_ascii_lowercase y ≡ 118 = eqb-true (to_ascii_lowercase y) 118 u.1 in
    let third : to_ascii_lowercase z ≡ 101 = eqb-true (to_ascii_lowercase z) 101 q.0 in
    let fourth : to_ascii_lowercase w ≡ 110 = eqb-true (to_ascii_lowercase w) 110 q.1 in
    let letters : AreLetters (codes "even") (x ∷ y ∷ z ∷ w ∷ []) =
    ap (λ (k : ℕ). k ∷ to_ascii_lowercase y ∷ to_ascii_lowercase z ∷ to_ascii_lowercase w ∷ []) first
    ∙ ap (λ (k : ℕ). 101 ∷ k ∷ to_ascii_lowercase z ∷ to_ascii_lowercase w ∷ []) second
    ∙ ap (λ (k : ℕ). 101 ∷ 118 ∷ k ∷ to_ascii_lowercase w ∷ []) third
    ∙ ap (λ (k : ℕ). 101 ∷ 118 ∷ 101 ∷ k ∷ []) fourth in
    record { formula = x ∷ y ∷ z ∷ w ∷ []; after = rest; is = refl; white = blank_takes rest v.1; form = even (x ∷ y ∷ z ∷ w ∷ []) letters }

formula_takes : (text : List ℕ) (a b : ℤ) → nth_by text ≡ Some (a, b) → FoundFormula text a b
formula_takes text a b e = by_odd
    (chosen (is_odd text) (some_pair (pos 2) (pos 1)) (cond (is_even text) (some_pair (pos 2) (pos 0)) (linear_of text)) (Some (a, b)) e)
  where
    said : (x y : ℤ) → some_pair x y ≡ Some (a, b) → FoundFormula text x y → FoundFormula text a b
    said x y same f =
        let F : ℤ × ℤ → Type 0 = λ p. FoundFormula text p.0 p.1 in
        subst F (some_is {A = ℤ × ℤ} (x, y) (a, b) same) f

    by_even : ((is_even text ≡ true) × (some_pair (pos 2) (pos 0) ≡ Some (a, b)))
        ⊎ ((is_even text ≡ false) × (linear_of text ≡ Some (a, b))) → FoundFormula text a b
    by_even (inl h) = said (pos 2) (pos 0) h.1 (even_takes text h.0)
    by_even (inr h) = linear_takes text a b h.1

    by_odd : ((is_odd text ≡ true) × (some_pair (pos 2) (pos 1) ≡ Some (a, b)))
        ⊎ ((is_odd text ≡ false) × (cond (is_even text) (some_pair (pos 2) (pos 0)) (linear_of text) ≡ Some (a, b))) → FoundFormula text a b
    by_odd (inl h) = said (pos 2) (pos 1) h.1 (odd_takes text h.0)
    by_odd (inr h) = by_even (chosen (is_even text) (some_pair (pos 2) (pos 0)) (linear_of text) (Some (a, b)) h.1)

pub nth_spells : (text : List ℕ) (a b : ℤ) → nth_of text ≡ Some (a, b) → IsNth text a b
unfolding nth_of
nth_spells text a b e =
    let w = run_cut is_white text in
    let f = formula_takes w.rest a b (ap nth_by (sym w.behind) ∙ e) in
    record {
      before = w.front;
      formula = f.formula;
      after = f.after;
      whole = w.is ∙ ap (λ (xs : List ℕ). w.front ++ xs) f.is;
      white_before = w.are;
      white_after = f.white;
      is_formula = f.form;
    }
