-- The row of numbers gives the pieces of its form: what is read is a number, and no longer front of the text is one.
use Rattle.std.proofs.Common.{◌≡◌, ◌⊎◌, inl, inr, ℕ, suc, ◌+◌, ◌<◌, ◌≤◌, ◌==◌, Bool, true, false, cond, ◌&&◌, ◌||◌, nat_lt, List, [], ◌∷◌}
use Rattle.std.proofs.Common.{◌++◌, length, drop, Some, refl, ap, sym, ◌∙◌, subst, append_assoc, length-append, arith}
use Rattle.std.specs.List.{list_all, prefix_len}
use Rattle.std.specs.Char.{is_ascii_digit}
use Rattle.std.proofs.Math.Seq.{drop-append_seam}
use Rattle.std.proofs.lemmas.List.{drop-drop}
use Rattle.std.proofs.lemmas.Bool.Decides.{nat_tests}
use Rattle.css_tokens.specs.declared.token.TokenKind.{TokenKind}
use Rattle.css_tokens.specs.declared.token.TokenKind.TheVariants.{Number, Percentage, Dimension}
use Rattle.css_tokens.specs.declared.token.Piece.{Piece}
use Rattle.css_tokens.specs.Codes.{begins, is_sign}
use Rattle.css_tokens.specs.Runs.{digits, fraction_len, decimal_len, sign_len, exponent_len, number_len, name_len, starts_ident}
use Rattle.css_tokens.specs.Rows.{piece, numeric}
use Rattle.css_tokens.specs.Forms.{AreDigits, IsDecimal, decimal_whole, decimal_fraction, IsSign, sign_none, sign_plus, sign_minus}
use Rattle.css_tokens.specs.Forms.{IsExponent, exponent_none, exponent_some, IsNumber, IsLongestNumber, NumericForm, a_percentage}
use Rattle.css_tokens.specs.Forms.{a_dimension, a_number}
use Rattle.css_tokens.proofs.Ends.{and_true, when_some}
use Rattle.css_tokens.proofs.Unescaping.{same_code}
use Rattle.css_tokens.proofs.RunForms.{Cut}
use Rattle.css_tokens.proofs.RowForms.{RowLaw, passes_exact, passes_cut, begins_all, some_prefix}
use Rattle.css_tokens.proofs.NameForms.{begins_with, name_cut, name_is, true_lt, lt_true}

past : (text front rest : List ℕ) (n : ℕ) → text ≡ front ++ rest → n ≡ length front → drop n text ≡ rest
past text front rest n is len = ap (λ (k : ℕ). drop k text) len ∙ ap (drop (length front)) is ∙ drop-append_seam front rest

-- what is read
sign_cut : (text : List ℕ) → Cut (λ front rest. IsSign front) text (sign_len text)
sign_cut [] = record { front = []; rest = []; is = refl; len = refl; form = sign_none }
sign_cut (c ∷ rest) =
    elim (c == 43) as (λ a. (c == 43) ≡ a → Cut (λ front rest. IsSign front) (c ∷ rest) (cond (a || c == 45) 1 0)) [
      | true ↦ λ plus. record {
        front = 43 ∷ [];
        rest = rest;
        is = ap (λ (x : ℕ). x ∷ rest) (same_code c 43 plus);
        len = refl;
        form = sign_plus;
      }
      | false ↦ λ _. elim (c == 45) as (λ a. (c == 45) ≡ a → Cut (λ front rest. IsSign front) (c ∷ rest) (cond a 1 0)) [
        | true ↦ λ minus. record {
          front = 45 ∷ [];
          rest = rest;
          is = ap (λ (x : ℕ). x ∷ rest) (same_code c 45 minus);
          len = refl;
          form = sign_minus;
        }
        | false ↦ λ _. record { front = []; rest = c ∷ rest; is = refl; len = refl; form = sign_none }
      ] refl
    ] refl

-- digits at the front, where there are some
digits_cut : (text : List ℕ) → begins is_ascii_digit text ≡ true → Cut (λ front rest. AreDigits front) text (digits text)
digits_cut text there =
    let c = passes_cut is_ascii_digit text in
    record {
      front = c.front;
      rest = c.rest;
      is = c.is;
      len = c.len;
      form = (omega (arith, c.len, some_prefix is_ascii_digit text there), c.form.0);
    }

fraction_cut : (text : List ℕ)
    → (fraction_len text ≡ 0) ⊎ Cut (λ front rest. (es : List ℕ) × (front ≡ 46 ∷ es) × AreDigits es) text (fraction_len text)
fraction_cut [] = inl refl
fraction_cut (c ∷ rest) =
    elim (c == 46 && begins is_ascii_digit rest) as
    (λ b. (c == 46 && begins is_ascii_digit rest) ≡ b
    → (cond b (1 + digits rest) 0 ≡ 0)
    ⊎ Cut (λ front rest. (es : List ℕ) × (front ≡ 46 ∷ es) × AreDigits es) (c ∷ rest) (cond b (1 + digits rest) 0)) [
      | true ↦ λ both.
          let t = and_true (c == 46) (begins is_ascii_digit rest) both in
          let d = digits_cut rest t.1 in
          inr (record {
            front = 46 ∷ d.front;
            rest = d.rest;
            is = ap (λ (x : ℕ). x ∷ rest) (same_code c 46 t.0) ∙ ap (λ (x : List ℕ). 46 ∷ x) d.is;
            len = omega (arith, d.len);
            form = (d.front, refl, d.form);
          })
      | false ↦ λ _. inl refl
    ] refl

decimal_cut : (text : List ℕ) → 0 < decimal_len text → Cut (λ front rest. IsDecimal front) text (decimal_len text)
decimal_cut text some =
    let a = passes_cut is_ascii_digit text in
    let rest : drop (digits text) text ≡ a.rest = past text a.front a.rest _ a.is a.len in
    elim (fraction_cut a.rest) [
      | inl none ↦
          let zero_more : fraction_len (drop (digits text) text) ≡ 0 = ap fraction_len rest ∙ none in
          let size : decimal_len text ≡ length a.front = omega (arith, zero_more, a.len) in
          record { front = a.front; rest = a.rest; is = a.is; len = size; form = decimal_whole (omega (arith, size), a.form.0) }
      | inr f ↦
          let more : fraction_len (drop (digits text) text) ≡ length f.front = ap fraction_len rest ∙ f.len in
          record {
            front = a.front ++ f.front;
            rest = f.rest;
            is = a.is ∙ ap (λ (x : List ℕ). a.front ++ x) f.is ∙ sym (append_assoc a.front f.front f.rest);
            len = omega (arith, more, a.len, length-append a.front f.front);
            form = decimal_fraction a.front f.form.0 a.form.0 f.form.2 (ap (λ (x : List ℕ). a.front ++ x) f.form.1);
          }
    ]

exponent_cut : (text : List ℕ) → Cut (λ front rest. IsExponent front) text (exponent_len text)
exponent_cut [] = record { front = []; rest = []; is = refl; len = refl; form = exponent_none }
exponent_cut (c ∷ rest) =
    let s = sign_cut rest in
    let mark = 1 + sign_len rest in
    let one : mark ≡ suc (sign_len rest) = omega arith in
    let behind : drop mark (c ∷ rest) ≡ s.rest = ap (λ (n : ℕ). drop n (c ∷ rest)) one ∙ past rest s.front s.rest _ s.is s.len in
    elim ((c == 69 || c == 101) && begins is_ascii_digit (drop mark (c ∷ rest))) as
    (λ b. ((c == 69 || c == 101) && begins is_ascii_digit (drop mark (c ∷ rest))) ≡ b
    → Cut (λ front rest. IsExponent front) (c ∷ rest) (cond b (mark + digits (drop mark (c ∷ rest))) 0)) [
      | true ↦ λ both.
          let t = and_true (c == 69 || c == 101) (begins is_ascii_digit (drop mark (c ∷ rest))) both in
          let d = digits_cut s.rest (sym (ap (begins is_ascii_digit) behind) ∙ t.1) in
          let size : digits (drop mark (c ∷ rest)) ≡ length d.front = ap digits behind ∙ d.len in
          record {
            front = c ∷ (s.front ++ d.front);
            rest = d.rest;
            is = ap (λ (x : List ℕ). c ∷ x) (s.is ∙ ap (λ (x : List ℕ). s.front ++ x) d.is ∙ sym (append_assoc s.front d.front d.rest));
            len = omega (arith, size, s.len, length-append s.front d.front);
            form = exponent_some c s.front d.front t.0 s.form d.form refl;
          }
      | false ↦ λ _. record { front = []; rest = c ∷ rest; is = refl; len = refl; form = exponent_none }
    ] refl

number_parts : (text : List ℕ) → 0 < decimal_len (drop (sign_len text) text)
    → Cut (λ front rest. IsNumber front) text
    (sign_len text + decimal_len (drop (sign_len text) text)
    + exponent_len (drop (sign_len text + decimal_len (drop (sign_len text) text)) text))
number_parts text some =
    let s = sign_cut text in
    let one : drop (sign_len text) text ≡ s.rest = past text s.front s.rest _ s.is s.len in
    let d = decimal_cut s.rest (subst (λ (x : List ℕ). 0 < decimal_len x) one some) in
    let size : decimal_len (drop (sign_len text) text) ≡ length d.front = ap decimal_len one ∙ d.len in
    let two : drop (sign_len text + decimal_len (drop (sign_len text) text)) text ≡ d.rest =
    sym (drop-drop (decimal_len (drop (sign_len text) text)) (sign_len text) text) ∙ ap
    (drop (decimal_len (drop (sign_len text) text))) one ∙ past s.rest d.front d.rest _ d.is size in
    let e = exponent_cut d.rest in
    let more : exponent_len (drop (sign_len text + decimal_len (drop (sign_len text) text)) text)
    ≡ length e.front = ap exponent_len two ∙ e.len in
    record {
      front = s.front ++ (d.front ++ e.front);
      rest = e.rest;
      is = s.is ∙ ap (λ (x : List ℕ). s.front ++ x)
          (d.is ∙ ap (λ (x : List ℕ). d.front ++ x) e.is ∙ sym (append_assoc d.front e.front e.rest)) ∙ sym
          (append_assoc s.front (d.front ++ e.front) e.rest);
      len = omega (arith, s.len, size, more, length-append s.front (d.front ++ e.front), length-append d.front e.front);
      form = record {
        sign = s.front;
        decimal = d.front;
        exponent = e.front;
        is = refl;
        a_sign = s.form;
        a_decimal = d.form;
        an_exponent = e.form;
      };
    }

positive_test : (a : ℕ) → (a == 0) ≡ false → 0 < a
positive_test a e = grind (arith, nat_tests)

number_cut : (text : List ℕ) → 0 < number_len text → Cut (λ front rest. IsNumber front) text (number_len text)
unfolding number_len
number_cut text some =
    elim (decimal_len (drop (sign_len text) text) == 0) as
    (λ b. (decimal_len (drop (sign_len text) text) == 0) ≡ b
    → 0 < cond b 0 (sign_len text + decimal_len (drop (sign_len text) text)
    + exponent_len (drop (sign_len text + decimal_len (drop (sign_len text) text)) text))
    → Cut (λ front rest. IsNumber front) text
    (cond b 0 (sign_len text + decimal_len (drop (sign_len text) text)
    + exponent_len (drop (sign_len text + decimal_len (drop (sign_len text) text)) text)))) [
      | true ↦ λ _ none. absurd (omega arith)
      | false ↦ λ there _. number_parts text (positive_test _ there)
    ] refl some

-- no longer front is a number
passes_least : (p : ℕ → Bool) (front rest : List ℕ) → list_all p front ≡ true → length front ≤ prefix_len p (front ++ rest)
passes_least p [] rest all = omega arith
passes_least p (c ∷ front) rest all =
    let t = and_true (p c) (list_all p front) all in
    let first : p c ≡ true = t.0 in
    let more : length front ≤ prefix_len p (front ++ rest) = passes_least p front rest t.1 in
    rw first (omega arith)

digit_no_sign : (c : ℕ) → is_ascii_digit c ≡ true → is_sign c ≡ false
digit_no_sign c digit = grind (arith, nat_tests)

digits_no_sign : (ds rest : List ℕ) → AreDigits ds → begins is_sign (ds ++ rest) ≡ false
digits_no_sign [] rest are = absurd (omega (arith, are.0))
digits_no_sign (c ∷ ds) rest are = digit_no_sign c (and_true (is_ascii_digit c) (list_all is_ascii_digit ds) are.1).0

decimal_no_sign : (decimal rest : List ℕ) → IsDecimal decimal → begins is_sign (decimal ++ rest) ≡ false
decimal_no_sign decimal rest (decimal_whole are) = digits_no_sign decimal rest are
decimal_no_sign decimal rest (decimal_fraction [] es all are is) = rw is refl
decimal_no_sign decimal rest (decimal_fraction (c ∷ whole) es all are is) = rw is
    (digit_no_sign c (and_true (is_ascii_digit c) (list_all is_ascii_digit whole) all).0)

sign_exact : (sign rest : List ℕ) → IsSign sign → begins is_sign rest ≡ false → sign_len (sign ++ rest) ≡ length sign
sign_exact sign rest sign_none none = rw none refl
sign_exact sign rest sign_plus none = refl
sign_exact sign rest sign_minus none = refl

-- `.` and digits
fraction_least : (es rest : List ℕ) → AreDigits es
    → (1 + length es ≤ fraction_len (46 ∷ (es ++ rest)))
    × (begins is_ascii_digit rest ≡ false → fraction_len (46 ∷ (es ++ rest)) ≡ 1 + length es)
fraction_least es rest are =
    let there : begins is_ascii_digit (es ++ rest) ≡ true = begins_all is_ascii_digit es rest are.0 are.1 in (
      rw there (omega (arith, passes_least is_ascii_digit es rest are.1)),
      λ stops. rw there
          (omega (arith, passes_exact is_ascii_digit es rest are.1 stops)),
    )

fraction_none : (text : List ℕ) → begins (λ c. c == 46) text ≡ false → fraction_len text ≡ 0
fraction_none text none = rw none refl

-- a decimal is no longer than what is read, and as long where neither a digit nor a `.` follows
decimal_least : (decimal rest : List ℕ) → IsDecimal decimal
    → (length decimal ≤ decimal_len (decimal ++ rest))
    × (begins is_ascii_digit rest ≡ false → begins (λ c. c == 46) rest ≡ false → decimal_len (decimal ++ rest) ≡ length decimal)
decimal_least decimal rest (decimal_whole are) = (
  omega (arith, passes_least is_ascii_digit decimal rest are.1),
  λ stops dot.
      let size : digits (decimal ++ rest) ≡ length decimal = passes_exact is_ascii_digit decimal rest are.1 stops in
      let none : fraction_len (drop (digits (decimal ++ rest)) (decimal ++ rest))
      ≡ 0 = ap fraction_len (past (decimal ++ rest) decimal rest _ refl size) ∙ fraction_none rest dot in
      omega (arith, size, none),
)
decimal_least decimal rest (decimal_fraction whole es all are is) =
    let assoc : decimal ++ rest ≡ whole ++ 46 ∷ (es ++ rest) = ap (λ (x : List ℕ). x ++ rest) is ∙ append_assoc whole (46 ∷ es) rest in
    let size : digits (decimal ++ rest) ≡ length whole = ap digits assoc ∙ passes_exact is_ascii_digit whole (46 ∷ (es ++ rest)) all refl in
    let more : fraction_len (drop (digits (decimal ++ rest)) (decimal ++ rest))
    ≡ fraction_len (46 ∷ (es ++ rest)) = ap fraction_len (past (decimal ++ rest) whole (46 ∷ (es ++ rest)) _ assoc size) in
    let f = fraction_least es rest are in
    let long : length decimal ≡ length whole + (1 + length es) = ap length is ∙ omega (arith, length-append whole (46 ∷ es)) in
    (omega (arith, size, more, f.0, long), λ stops dot. omega (arith, size, more, f.1 stops, long))

mark_no_digit : (c : ℕ) → (c == 69 || c == 101) ≡ true → is_ascii_digit c ≡ false
mark_no_digit c mark = grind (arith, nat_tests)

mark_no_dot : (c : ℕ) → (c == 69 || c == 101) ≡ true → (c == 46) ≡ false
mark_no_dot c mark = grind (arith, nat_tests)

exponent_least : (mark : ℕ) (sign ds rest : List ℕ) → (mark == 69 || mark == 101) ≡ true → IsSign sign → AreDigits ds
    → 1 + (length sign + length ds) ≤ exponent_len (mark ∷ ((sign ++ ds) ++ rest))
exponent_least mark sign ds rest marks a_sign are =
    let assoc : (sign ++ ds) ++ rest ≡ sign ++ (ds ++ rest) = append_assoc sign ds rest in
    let size : sign_len ((sign ++ ds) ++ rest)
    ≡ length sign = ap sign_len assoc ∙ sign_exact sign (ds ++ rest) a_sign (digits_no_sign ds rest are) in
    let one : 1 + sign_len ((sign ++ ds) ++ rest) ≡ suc (length sign) = omega (arith, size) in
    let behind : drop (1 + sign_len ((sign ++ ds) ++ rest)) (mark ∷ ((sign ++ ds) ++ rest)) ≡ ds ++ rest =
    ap (λ (n : ℕ). drop n (mark ∷ ((sign ++ ds) ++ rest))) one ∙ ap (drop (length sign)) assoc ∙ drop-append_seam sign (ds ++ rest) in
    let there : begins is_ascii_digit (drop (1 + sign_len ((sign ++ ds) ++ rest)) (mark ∷ ((sign ++ ds) ++ rest)))
    ≡ true = ap (begins is_ascii_digit) behind ∙ begins_all is_ascii_digit ds rest are.0 are.1 in
    let long : length ds ≤ digits (drop (1 + sign_len ((sign ++ ds) ++ rest)) (mark ∷ ((sign ++ ds) ++ rest))) = subst
    (λ (x : List ℕ). length ds ≤ digits x) (sym behind) (passes_least is_ascii_digit ds rest are.1) in
    rw (marks, there) (omega (arith, size, long))

-- the parts of a number that a text begins with
by_exponent : (text sign decimal exponent rest : List ℕ) → text ≡ sign ++ (decimal ++ (exponent ++ rest)) → IsDecimal decimal
    → IsExponent exponent → sign_len text ≡ length sign →
    length sign + (length decimal + length exponent)
    ≤ sign_len text + decimal_len (drop (sign_len text) text)
    + exponent_len (drop (sign_len text + decimal_len (drop (sign_len text) text)) text)
by_exponent text sign decimal exponent rest whole a_decimal exponent_none one =
    let behind : drop (sign_len text) text ≡ decimal ++ rest = past text sign (decimal ++ rest) _ whole one in
    let d = decimal_least decimal rest a_decimal in
    omega (arith, one, ap decimal_len behind, d.0)
by_exponent text sign decimal exponent rest whole a_decimal (exponent_some mark sg ds marks a_sign are is) one =
    let here : exponent ++ rest ≡ mark ∷ ((sg ++ ds) ++ rest) = ap (λ (x : List ℕ). x ++ rest) is in
    let behind : drop (sign_len text) text ≡ decimal ++ (exponent ++ rest) = past text sign (decimal ++ (exponent ++ rest)) _ whole one in
    let d = decimal_least decimal (exponent ++ rest) a_decimal in
    let exact : decimal_len (decimal ++ (exponent ++ rest))
    ≡ length decimal = d.1 (ap (begins is_ascii_digit) here ∙ mark_no_digit mark marks)
    (ap (begins (λ c. c == 46)) here ∙ mark_no_dot mark marks) in
    let size : decimal_len (drop (sign_len text) text) ≡ length decimal = ap decimal_len behind ∙ exact in
    let last : drop (sign_len text + decimal_len (drop (sign_len text) text)) text ≡ mark ∷ ((sg ++ ds) ++ rest) =
    sym (drop-drop (decimal_len (drop (sign_len text) text)) (sign_len text) text) ∙ ap
    (drop (decimal_len (drop (sign_len text) text))) behind ∙ past (decimal ++ (exponent ++ rest)) decimal
    (exponent ++ rest) _ refl size ∙ here in
    let more = exponent_least mark sg ds rest marks a_sign are in
    omega (arith, one, size, ap exponent_len last, more, ap length is, length-append sg ds)

decimal_some : (decimal : List ℕ) → IsDecimal decimal → 0 < length decimal
decimal_some decimal (decimal_whole are) = are.0
decimal_some decimal (decimal_fraction whole es all are is) = omega (arith, ap length is, length-append whole (46 ∷ es))

no_zero : (a : ℕ) → 0 < a → (a == 0) ≡ false
no_zero a some = grind (arith, nat_tests)

parts_least : (sign decimal exponent rest : List ℕ) → IsSign sign → IsDecimal decimal → IsExponent exponent
    → length sign + (length decimal + length exponent) ≤ number_len (sign ++ (decimal ++ (exponent ++ rest)))
unfolding number_len
parts_least sign decimal exponent rest a_sign a_decimal an_exponent =
    let text = sign ++ (decimal ++ (exponent ++ rest)) in
    let one : sign_len text ≡ length sign = sign_exact sign (decimal ++ (exponent ++ rest)) a_sign
    (decimal_no_sign decimal (exponent ++ rest) a_decimal) in
    let behind : drop (sign_len text) text ≡ decimal ++ (exponent ++ rest) = past text sign (decimal ++ (exponent ++ rest)) _ refl one in
    let d = decimal_least decimal (exponent ++ rest) a_decimal in
    let there : (decimal_len (drop (sign_len text) text) == 0)
    ≡ false = no_zero _ (omega (arith, ap decimal_len behind, d.0, decimal_some decimal a_decimal)) in
    subst (λ (b : Bool). length sign + (length decimal + length exponent)
    ≤ cond b 0 (sign_len text + decimal_len (drop (sign_len text) text)
    + exponent_len (drop (sign_len text + decimal_len (drop (sign_len text) text)) text))) (sym there)
    (by_exponent text sign decimal exponent rest refl a_decimal an_exponent one)

number_least : (other others : List ℕ) → IsNumber other → length other ≤ number_len (other ++ others)
number_least other others f =
    let whole : other ++ others ≡ f.sign ++ (f.decimal ++ (f.exponent ++ others)) =
    ap (λ (x : List ℕ). x ++ others) f.is ∙ append_assoc f.sign (f.decimal ++ f.exponent) others ∙ ap (λ (x : List ℕ). f.sign ++ x)
    (append_assoc f.decimal f.exponent others) in
    omega (
      arith,
      ap number_len whole,
      parts_least f.sign f.decimal f.exponent others f.a_sign f.a_decimal f.an_exponent,
      ap length f.is,
      length-append f.sign (f.decimal ++ f.exponent),
      length-append f.decimal f.exponent,
    )

pub number_some : (number : List ℕ) → IsNumber number → 0 < length number
number_some number f = omega (
  arith,
  ap length f.is,
  length-append f.sign
      (f.decimal ++ f.exponent),
  length-append f.decimal f.exponent,
  decimal_some f.decimal f.a_decimal,
)

longest_cut : (text : List ℕ) → 0 < number_len text → Cut IsLongestNumber text (number_len text)
longest_cut text some =
    let c = number_cut text some in
    record {
      front = c.front;
      rest = c.rest;
      is = c.is;
      len = c.len;
      form = record {
        form = c.form;
        longest = λ other others e f. omega (arith, number_least other others f, ap number_len (c.is ∙ e), c.len);
      };
    }

longest_is : (number rest : List ℕ) → IsLongestNumber number rest → number_len (number ++ rest) ≡ length number
longest_is number rest h =
    let least = number_least number rest h.form in
    let c = number_cut (number ++ rest) (omega (arith, least, number_some number h.form)) in
    omega (arith, least, c.len, h.longest c.front c.rest c.is c.form)

start_no_percent : (text : List ℕ) → starts_ident text ≡ true → begins (λ c. c == 37) text ≡ false
start_no_percent [] starts = cc
start_no_percent (c ∷ rest) starts =
    elim (c == 37) as (λ b. (c == 37) ≡ b → b ≡ false) [
      | true ↦ λ is.
          let same : c ≡ 37 = same_code c 37 is in
          let none : starts_ident (c ∷ rest) ≡ false = rw same refl in
          cc
      | false ↦ λ _. refl
    ] refl

-- where the number is known, and what follows it
numeric_is : (text number rest : List ℕ) → text ≡ number ++ rest → IsLongestNumber number rest
    → (nat_lt 0 (number_len text) ≡ true) × (number_len text ≡ length number) × (drop (number_len text) text ≡ rest)
numeric_is text number rest whole h =
    let size : number_len text ≡ length number = ap number_len whole ∙ longest_is number rest h in
    (true_lt 0 (number_len text) (omega (arith, size, number_some number h.form)), size, past text number rest _ whole size)

numeric_only : (kind : TokenKind) (front rest : List ℕ) → NumericForm kind front rest
    → numeric (front ++ rest) ≡ Some (piece kind (length front))
unfolding numeric
numeric_only kind front rest (a_percentage number h is) =
    let whole : front ++ rest ≡ number ++ 37 ∷ rest = ap (λ (x : List ℕ). x ++ rest) is ∙ append_assoc number (37 ∷ []) rest in
    let t = numeric_is (front ++ rest) number (37 ∷ rest) whole h in
    let some : nat_lt 0 (number_len (front ++ rest)) ≡ true = t.0 in
    let percent : begins (λ c. c == 37) (drop (number_len (front ++ rest)) (front ++ rest)) ≡ true = ap (begins (λ c. c == 37)) t.2 in
    rw (some, percent) (ap (λ (n : ℕ). Some (piece Percentage n)) (omega (arith, t.1, ap length is, length-append number (37 ∷ []))))
numeric_only kind front rest (a_dimension number name h is starts a_name) =
    let whole : front ++ rest ≡ number ++ (name ++ rest) = ap (λ (x : List ℕ). x ++ rest) is ∙ append_assoc number name rest in
    let t = numeric_is (front ++ rest) number (name ++ rest) whole h in
    let some : nat_lt 0 (number_len (front ++ rest)) ≡ true = t.0 in
    let percent : begins (λ c. c == 37) (drop (number_len (front ++ rest)) (front ++ rest))
    ≡ false = ap (begins (λ c. c == 37)) t.2 ∙ start_no_percent (name ++ rest) starts in
    let start : starts_ident (drop (number_len (front ++ rest)) (front ++ rest)) ≡ true = ap starts_ident t.2 ∙ starts in
    rw (some, percent, start) (ap (λ (n : ℕ). Some (piece Dimension n))
    (omega (arith, t.1, ap name_len t.2, name_is name rest a_name, ap length is, length-append number name)))
numeric_only kind front rest (a_number h percent none) =
    let t = numeric_is (front ++ rest) front rest refl h in
    let some : nat_lt 0 (number_len (front ++ rest)) ≡ true = t.0 in
    let other : begins (λ c. c == 37) (drop (number_len (front ++ rest)) (front ++ rest))
    ≡ false = ap (begins (λ c. c == 37)) t.2 ∙ percent in
    let start : starts_ident (drop (number_len (front ++ rest)) (front ++ rest)) ≡ false = ap starts_ident t.2 ∙ none in
    rw (some, other, start) (ap (λ (n : ℕ). Some (piece Number n)) t.1)

pub numeric_row_law : RowLaw NumericForm numeric
unfolding numeric
numeric_row_law = record {
  form = λ text p found.
      let n = number_len text in
      let h = when_some (nat_lt 0 n) _ p found in
      let c = longest_cut text (lt_true 0 n h.0) in
      let behind : drop n text ≡ c.rest = past text c.front c.rest n c.is c.len in
      subst (λ (q : Piece). Cut (NumericForm q.kind) text q.len) h.1
      (elim (begins (λ c. c == 37) (drop n text)) as
      (λ b. begins (λ c. c == 37) (drop n text) ≡ b
      → Cut (NumericForm (cond b (piece Percentage (n + 1))
      (cond (starts_ident (drop n text)) (piece Dimension (n + name_len (drop n text))) (piece Number n))).kind) text
      (cond b (piece Percentage (n + 1))
      (cond (starts_ident (drop n text)) (piece Dimension (n + name_len (drop n text))) (piece Number n))).len) [
        | true ↦ λ percent.
            let b = begins_with 37 c.rest (sym (ap (begins (λ c. c == 37)) behind) ∙ percent) in
            record {
              front = c.front ++ 37 ∷ [];
              rest = b.0;
              is = c.is ∙ ap (λ (x : List ℕ). c.front ++ x) b.1 ∙ sym (append_assoc c.front (37 ∷ []) b.0);
              len = omega (arith, c.len, length-append c.front (37 ∷ []));
              form = a_percentage c.front (subst (IsLongestNumber c.front) b.1 c.form) refl;
            }
        | false ↦ λ percent. elim (starts_ident (drop n text)) as
            (λ b. starts_ident (drop n text) ≡ b
            → Cut (NumericForm (cond b (piece Dimension (n + name_len (drop n text))) (piece Number n)).kind) text
            (cond b (piece Dimension (n + name_len (drop n text))) (piece Number n)).len) [
              | true ↦ λ starts.
                  let m = name_cut c.rest in
                  record {
                    front = c.front ++ m.front;
                    rest = m.rest;
                    is = c.is ∙ ap (λ (x : List ℕ). c.front ++ x) m.is ∙ sym (append_assoc c.front m.front m.rest);
                    len = omega (arith, c.len, ap name_len behind, m.len, length-append c.front m.front);
                    form = a_dimension c.front m.front (subst (IsLongestNumber c.front) m.is c.form) refl
                        (sym (ap starts_ident (behind ∙ m.is)) ∙ starts) m.form;
                  }
              | false ↦ λ none.
                  record {
                    front = c.front;
                    rest = c.rest;
                    is = c.is;
                    len = c.len;
                    form = a_number c.form (sym (ap (begins (λ c. c == 37)) behind) ∙ percent) (sym (ap starts_ident behind) ∙ none);
                  }
            ] refl
      ] refl);
  only = numeric_only;
}
