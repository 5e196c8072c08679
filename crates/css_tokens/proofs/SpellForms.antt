-- A name read letter by letter.
use Rattle.std.proofs.Common.{◌≡◌, ℕ, zero, suc, ◌+◌, ◌<◌, ◌≤◌, ◌==◌, Bool, true, false, cond, ◌&&◌, not, List, [], ◌∷◌, ◌++◌, length, All}
use Rattle.std.proofs.Common.{drop, map, get_or, refl, ap, sym, ◌∙◌, subst, length-append, lit<, arith}
use Rattle.std.specs.Char.{is_ascii_hexdigit, to_ascii_lowercase, encode_utf8}
use Rattle.std.proofs.lemmas.Str.{length-encode, len_utf8_bounds}
use Rattle.std.proofs.lemmas.List.{length-map}
use Rattle.std.proofs.lemmas.List.Elements.{All-head, All-tail}
use Rattle.std.proofs.lemmas.Bool.Decides.{Decides-eqb}
use Rattle.std.proofs.lemmas.Slice.Eq.{bytes_eq-Decides}
use Rattle.css_tokens.specs.Codes.{begins, is_newline}
use Rattle.css_tokens.specs.Escapes.{newline_len, escape_tail, escape_value, escape_bytes, unescaped, unescaped_after, hex_len, hex_value}
use Rattle.css_tokens.specs.Escapes.{character_of}
use Rattle.css_tokens.specs.Rows.{letter_len}
use Rattle.css_tokens.specs.Spelling.{spells, begins_line}
use Rattle.css_tokens.proofs.Ends.{and_true}
use Rattle.css_tokens.proofs.Unescaping.{line, escape}
use Rattle.css_tokens.proofs.UrlNames.{bytes_letter, letter_bytes, plain_says}

abbrev lower : List ℕ → List ℕ
lower text = map to_ascii_lowercase text

-- the first letter of a name, if it is this one
record Letter (l : ℕ) (rest : List ℕ) : Type 0 where
  more : List ℕ
  test : Bool
  size : ℕ
  len : letter_len l rest ≡ cond test size 0
  some : 0 < size
  past : drop size rest ≡ more
  yes : (says : List ℕ) → lower (unescaped rest) ≡ l ∷ says → (test ≡ true) × (lower (unescaped more) ≡ says)
  whole : (says : List ℕ) → test ≡ true → lower (unescaped more) ≡ says → lower (unescaped rest) ≡ l ∷ says
  more_there : 0 < length (unescaped rest)

plain_letter : (l c : ℕ) (tail : List ℕ) → (c == 92) ≡ false → Letter l (c ∷ tail)
plain_letter l c tail other = record {
  more = tail;
  test = to_ascii_lowercase c == l;
  size = 1;
  len = ap (λ (b : Bool). cond b (cond (to_ascii_lowercase (escape_value tail) == l) (1 + escape_tail tail) 0)
      (cond (to_ascii_lowercase c == l) 1 0)) other;
  some = lit< tt;
  past = refl;
  yes = λ says e.
      let here : to_ascii_lowercase c ∷ lower (unescaped tail) ≡ l ∷ says = sym (ap lower (plain_says c tail other)) ∙ e in
      let first : to_ascii_lowercase c ≡ l = cc in
      ((Decides-eqb (to_ascii_lowercase c) l).1 first, cc);
  whole = λ says test is.
      ap lower (plain_says c tail other)
      ∙ (λ i. (Decides-eqb (to_ascii_lowercase c) l).0 test i ∷ is i);
  more_there = let n = ap (λ (x : List ℕ). length x) (plain_says c tail other) in omega (arith, n);
}

bytes_some : (tail : List ℕ) → 0 < length (escape_bytes tail)
unfolding escape_bytes
bytes_some [] = let n = length-encode 0xFFFD in let b = len_utf8_bounds 0xFFFD in omega (arith, n, b.0)
bytes_some (c ∷ rest) =
    elim (is_ascii_hexdigit c) as (λ b. 0 < length (cond b (encode_utf8 (escape_value (c ∷ rest))) (c ∷ []))) [
      | true ↦ let n = length-encode (escape_value (c ∷ rest)) in let b = len_utf8_bounds (escape_value (c ∷ rest)) in omega (arith, n, b.0)
      | false ↦ omega arith
    ]

escape_letter : (l : ℕ) (tail : List ℕ) → l < 123 → begins is_newline tail ≡ false → Letter l (92 ∷ tail)
escape_letter l tail low newline =
    let more = drop (escape_tail tail) tail in
    let says_it = escape tail newline in
    let one : 1 + escape_tail tail ≡ suc (escape_tail tail) = omega arith in
    record {
      more = more;
      test = to_ascii_lowercase (escape_value tail) == l;
      size = 1 + escape_tail tail;
      len = refl;
      some = omega arith;
      past = ap (λ (n : ℕ). drop n (92 ∷ tail)) one;
      yes = λ says e.
          let b = bytes_letter tail l (unescaped more) says (omega (arith, low)) (ap lower (sym says_it) ∙ e) in
          ((Decides-eqb (to_ascii_lowercase (escape_value tail)) l).1 b.0, b.1);
      whole = λ says test is.
          ap lower says_it
          ∙ letter_bytes tail l (unescaped more) low ((Decides-eqb (to_ascii_lowercase (escape_value tail)) l).0 test)
          ∙ ap (λ (x : List ℕ). l ∷ x) is;
      more_there =
          let n = ap (λ (x : List ℕ). length x) says_it ∙ length-append (escape_bytes tail) (unescaped more) in
          let b = bytes_some tail in
          omega (arith, n, b);
    }

letter_of : (l c : ℕ) (tail : List ℕ) → l < 123 → (c == 92 && begins is_newline tail) ≡ false → Letter l (c ∷ tail)
letter_of l c tail low goes = by (c == 92) refl goes
  where
    by : (b : Bool) → (c == 92) ≡ b → (b && begins is_newline tail) ≡ false → Letter l (c ∷ tail)
    by false e f = plain_letter l c tail e
    by true e f = subst (λ (x : ℕ). Letter l (x ∷ tail)) (sym ((Decides-eqb c 92).0 e)) (escape_letter l tail low f)

-- ---- what is left of a name and a word is as equal as the whole

pub record AsEqual (name word rest left : List ℕ) : Type 0 where
  pub on : lower (unescaped name) ≡ word → lower (unescaped rest) ≡ left
  pub back : lower (unescaped rest) ≡ left → lower (unescaped name) ≡ word

pub skip_line : (name word rest left new : List ℕ) (n : ℕ) → begins_line rest ≡ true → n ≡ 1 + newline_len (drop 1 rest)
    → new ≡ drop n rest → AsEqual name word rest left → AsEqual name word new left
skip_line name word [] left new n is is_n is_new so_far = absurd (cc)
skip_line name word (c ∷ tail) left new n is is_n is_new so_far =
    let both = and_true (c == 92) (begins is_newline tail) is in
    let one : 1 + newline_len tail ≡ suc (newline_len tail) = omega arith in
    let cut : new ≡ drop (newline_len tail) tail = is_new ∙ ap (λ (k : ℕ). drop k (c ∷ tail)) (is_n ∙ one) in
    let same : unescaped (c ∷ tail) ≡ unescaped new =
    ap (λ (x : ℕ). unescaped (x ∷ tail)) ((Decides-eqb c 92).0 both.0) ∙ line tail both.1 ∙ ap unescaped (sym cut) in
    record { on = λ e. sym (ap lower same) ∙ so_far.on e; back = λ e. so_far.back (ap lower same ∙ e) }

pub letter_more : (name word rest left new others : List ℕ) (f n : ℕ) → 0 < length rest → 0 < length left
    → begins_line rest ≡ false → All (λ c. c < 123) left
    → n ≡ letter_len (get_or left 0 f) rest → (n ≡ 0 → ⊥) → new ≡ drop n rest → others ≡ drop 1 left
    → AsEqual name word rest left → AsEqual name word new others
letter_more name word [] left new others f n some there goes low is_n hit is_new is_others so_far = absurd (omega (arith, some))
letter_more name word (c ∷ tail) [] new others f n some there goes low is_n hit is_new is_others so_far = absurd (omega (arith, there))
letter_more name word (c ∷ tail) (l ∷ ls) new others f n some there goes low is_n hit is_new is_others so_far =
    let a = letter_of l c tail (All-head (λ c. c < 123) l ls low) goes in
    by a a.test refl
  where
    by : (a : Letter l (c ∷ tail)) (b : Bool) → a.test ≡ b → AsEqual name word new others
    by a false e =
        let none : n ≡ 0 = is_n ∙ a.len ∙ ap (λ (b : Bool). cond b a.size 0) e in
        absurd (hit none)
    by a true e =
        let size : n ≡ a.size = is_n ∙ a.len ∙ ap (λ (b : Bool). cond b a.size 0) e in
        let rest : new ≡ a.more = is_new ∙ ap (λ (k : ℕ). drop k (c ∷ tail)) size ∙ a.past in
        record {
          on = λ whole. ap (λ (x : List ℕ). lower (unescaped x)) rest ∙ (a.yes ls (so_far.on whole)).1 ∙ sym is_others;
          back = λ same. so_far.back
              (a.whole ls e (sym (ap (λ (x : List ℕ). lower (unescaped x)) rest) ∙ same ∙ is_others));
        }

differ : (name word : List ℕ) → (lower (unescaped name) ≡ word → ⊥) → false ≡ spells name word
differ name word never = by (spells name word) refl
  where
    by : (b : Bool) → spells name word ≡ b → false ≡ b
    by false e = refl
    by true e = absurd (never ((bytes_eq-Decides (lower (unescaped name)) word).0 e))

pub letter_missed : (name word rest left : List ℕ) (f n : ℕ) → 0 < length rest → 0 < length left
    → begins_line rest ≡ false → All (λ c. c < 123) left
    → n ≡ letter_len (get_or left 0 f) rest → n ≡ 0 → AsEqual name word rest left → false ≡ spells name word
letter_missed name word [] left f n some there goes low is_n miss so_far = absurd (omega (arith, some))
letter_missed name word (c ∷ tail) [] f n some there goes low is_n miss so_far = absurd (omega (arith, there))
letter_missed name word (c ∷ tail) (l ∷ ls) f n some there goes low is_n miss so_far =
    let a = letter_of l c tail (All-head (λ c. c < 123) l ls low) goes in
    differ name word (λ whole.
    let y = a.yes ls (so_far.on whole) in
    let size : n ≡ a.size = is_n ∙ a.len ∙ ap (λ (b : Bool). cond b a.size 0) y.0 in
    omega (arith, size, a.some, miss))

pub word_over : (name word rest left : List ℕ) → 0 < length rest → length left < 1
    → begins_line rest ≡ false → AsEqual name word rest left → false ≡ spells name word
word_over name word [] left some over goes so_far = absurd (omega (arith, some))
word_over name word (c ∷ tail) (l ∷ ls) some over goes so_far = absurd (omega (arith, over))
word_over name word (c ∷ tail) [] some over goes so_far =
    let a = letter_of 97 c tail (lit< tt) goes in
    differ name word (λ whole.
    let n = sym (length-map (unescaped (c ∷ tail)) to_ascii_lowercase) ∙ ap (λ (x : List ℕ). length x) (so_far.on whole) in
    omega (arith, n, a.more_there))

pub name_over : (name word rest left : List ℕ) (b : Bool) → length rest < 1 → AsEqual name word rest left
    → ((length left ≡ 0) → b ≡ true) → (b ≡ true → length left ≡ 0) → b ≡ spells name word
unfolding unescaped_after
name_over name word (c ∷ rest) left b over so_far when_none when_true = absurd (omega (arith, over))
name_over name word [] [] b over so_far when_none when_true = when_none refl
    ∙ sym ((bytes_eq-Decides (lower (unescaped name)) word).1 (so_far.back refl))
name_over name word [] (l ∷ ls) b over so_far when_none when_true = by b refl
  where
    by : (x : Bool) → b ≡ x → b ≡ spells name word
    by true e = absurd (let none = when_true e in omega (arith, none))
    by false e = e ∙ differ name word (λ whole. let never : [] ≡ l ∷ ls = so_far.on whole in cc)

pub some_length : (text : List ℕ) → (length text == 0) ≡ false → 0 < length text
some_length [] e = absurd (cc)
some_length (c ∷ rest) e = omega arith

pub no_length : (text : List ℕ) → (length text == 0) ≡ true → length text < 1
no_length text e = let none = (Decides-eqb (length text) 0).0 e in omega (arith, none)
