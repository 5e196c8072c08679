-- What a text says, a step at a time.
use Rattle.std.proofs.Common.{◌≡◌, ◌⊎◌, inl, inr, ℕ, zero, suc, ◌+◌, ◌-◌, ◌<◌, ◌≤◌, ◌==◌, Bool, true, false, cond, ◌&&◌, not, List, [], ◌∷◌}
use Rattle.std.proofs.Common.{◌++◌, length, take, drop, slice_index, refl, ap, sym, ◌∙◌, subst, lit<, append_assoc, arith}
use Rattle.std.specs.List.{prefix_len}
use Rattle.std.specs.Char.{is_ascii_hexdigit}
use Rattle.std.specs.Str.{IsUtf8, IsCharBoundary}
use Rattle.std.proofs.lemmas.List.{append-nil, get_or-drop, length-take, get_or-take}
use Rattle.std.proofs.lemmas.List.Sums.{prefix_len_passes, prefix_len_stops, prefix_len-le-length}
use Rattle.std.proofs.lemmas.Bool.Decides.{nat_tests}
use Rattle.std.proofs.lemmas.Str.{IsCharBoundary-after_ascii, IsCharBoundary-from_rest}
use Rattle.css_tokens.proofs.Ends.{and_true, not_true}
use Rattle.css_tokens.specs.Codes.{is_newline, is_white, begins}
use Rattle.css_tokens.specs.Escapes.{newline_len, white_len, hex_len, escape_tail, begins_escape, is_coded, escape_bytes, unescaped}
use Rattle.css_tokens.specs.Escapes.{unescaped_after, Replaces}

abbrev plain_code : ℕ → Bool
plain_code c = not (c == 92)

abbrev pub plain_len : List ℕ → ℕ
plain_len text = prefix_len (λ c. not (c == 92)) text

skip_to : (skip : ℕ) (text : List ℕ) → unescaped_after skip text ≡ unescaped (drop skip text)
unfolding unescaped_after
skip_to zero text = refl
skip_to (suc skip) [] = refl
skip_to (suc skip) (c ∷ rest) = skip_to skip rest

plain : (text : List ℕ) → unescaped text ≡ take (plain_len text) text ++ unescaped (drop (plain_len text) text)
unfolding unescaped_after
plain [] = refl
plain (c ∷ rest) =
    elim (c == 92) as (λ b. (c == 92) ≡ b
    → unescaped (c ∷ rest) ≡ take (cond (not b) (1 + plain_len rest) 0) (c ∷ rest)
    ++ unescaped (drop (cond (not b) (1 + plain_len rest) 0) (c ∷ rest))) [
      | true ↦ λ is. refl
      | false ↦ λ is. let one : 1 + plain_len rest ≡ suc (plain_len rest) = omega arith in rw (one, is) (ap (λ more. c ∷ more) (plain rest))
    ] refl

pub line : (tail : List ℕ) → begins is_newline tail ≡ true → unescaped (92 ∷ tail) ≡ unescaped (drop (newline_len tail) tail)
unfolding unescaped_after
line tail newline = rw newline (skip_to (newline_len tail) tail)

pub escape : (tail : List ℕ) → begins is_newline tail ≡ false
    → unescaped (92 ∷ tail) ≡ escape_bytes tail ++ unescaped (drop (escape_tail tail) tail)
unfolding unescaped_after
escape tail newline = rw newline (ap (λ more. escape_bytes tail ++ more) (skip_to (escape_tail tail) tail))

-- where each step ends
newline_low : (c : ℕ) → is_newline c ≡ true → c < 128
newline_low c newline = grind (arith, nat_tests)

white_low : (c : ℕ) → is_white c ≡ true → c < 128
white_low c white = grind (arith, nat_tests)

hex_low : (c : ℕ) → is_ascii_hexdigit c ≡ true → c < 128
hex_low c hex = grind (arith, nat_tests)

both_ten : (a : Bool) (d : ℕ) → (a && (d == 10)) ≡ true → d < 128
both_ten true d is = grind (arith, nat_tests)
both_ten false d is = cc

newline_last : (tail : List ℕ) → begins is_newline tail ≡ true → slice_index (92 ∷ tail) (newline_len tail) < 128
newline_last [] newline = cc
newline_last (c ∷ []) newline =
    rw newline
    (elim (c == 13) as (λ b. slice_index (92 ∷ c ∷ [])
    (cond (b && false) 2 1) < 128) [ true ↦ newline_low c newline | false ↦ newline_low c newline ])
newline_last (c ∷ d ∷ rest) newline =
    rw newline
    (elim (c == 13 && d == 10) as (λ b. (c == 13 && d == 10) ≡ b → slice_index (92 ∷ c ∷ d ∷ rest) (cond b 2 1) < 128) [
      | true ↦ both_ten (c == 13) d
      | false ↦ λ _. newline_low c newline
    ] refl)

abbrev IsLastLow : ℕ → List ℕ → ℕ → Type 0
IsLastLow c rest n = (n ≡ 0) ⊎ ((0 < n) × (slice_index (c ∷ rest) (n - 1) < 128))

one_white : (c : ℕ) (rest : List ℕ) → IsLastLow c rest (cond (is_white c) 1 0)
one_white c rest = elim (is_white c) as
    (λ b. is_white c ≡ b → IsLastLow c rest (cond b 1 0)) [ true ↦ λ white. inr (lit< tt, white_low c white) | false ↦ λ _. inl refl ] refl

white_last : (rest : List ℕ) → (white_len rest ≡ 0) ⊎ ((0 < white_len rest) × (slice_index rest (white_len rest - 1) < 128))
white_last [] = inl refl
white_last (c ∷ []) =
    elim (c == 13) as (λ a. IsLastLow c [] (cond (a && false) 2 (cond (is_white c) 1 0))) [ true ↦ one_white c [] | false ↦ one_white c [] ]
white_last (c ∷ d ∷ rest) =
    elim (c == 13 && d == 10) as (λ a. (c == 13 && d == 10) ≡ a → IsLastLow c (d ∷ rest) (cond a 2 (cond (is_white c) 1 0))) [
      | true ↦ λ both. inr (lit< tt, both_ten (c == 13) d both)
      | false ↦ λ _. one_white c (d ∷ rest)
    ] refl

-- the last of the hex digits
hex_last : (tail : List ℕ) → 0 < hex_len tail → slice_index tail (hex_len tail - 1) < 128
hex_last tail some =
    let most : hex_len tail ≤ 6 = omega (arith, prefix_len-le-length is_ascii_hexdigit (take 6 tail), length-take 6 tail) in
    let same : slice_index (take 6 tail) (hex_len tail - 1)
    ≡ slice_index tail (hex_len tail - 1) = get_or-take 6 tail (hex_len tail - 1) 0 (omega arith) in
    omega (
      arith,
      same,
      hex_low (slice_index (take 6 tail) (hex_len tail - 1))
          (prefix_len_passes is_ascii_hexdigit (take 6 tail) (hex_len tail - 1) 0 (omega arith)),
    )

hex_some : (c : ℕ) (rest : List ℕ) → is_ascii_hexdigit c ≡ true → 0 < hex_len (c ∷ rest)
hex_some c rest hex = rw hex (omega arith)

behind_one : (c n : ℕ) (tail : List ℕ) → 0 < n → slice_index (c ∷ tail) n ≡ slice_index tail (n - 1)
behind_one c zero tail some = absurd (omega arith)
behind_one c (suc n) tail some = ap (slice_index tail) (omega arith)

-- digits and the white space behind them
two_last : (tail : List ℕ) (d w : ℕ) → 0 < d → slice_index tail (d - 1) < 128
    → (w ≡ 0) ⊎ ((0 < w) × (slice_index (drop d tail) (w - 1) < 128)) → slice_index (92 ∷ tail) (d + w) < 128
two_last tail d w some digit (inl none) =
    let at : d + w - 1 ≡ d - 1 = omega arith in
    let last : slice_index (92 ∷ tail) (d + w)
    ≡ slice_index tail (d - 1) = behind_one 92 (d + w) tail (omega arith) ∙ ap (slice_index tail) at in
    omega (arith, last)
two_last tail d w some digit (inr white) =
    let at : d + w - 1 ≡ d + (w - 1) = omega (arith, white.0) in
    let last : slice_index (92 ∷ tail) (d + w)
    ≡ slice_index (drop d tail) (w - 1) = behind_one 92 (d + w) tail (omega arith) ∙ ap (slice_index tail) at ∙ sym
    (get_or-drop d tail (w - 1) 0) in
    omega (arith, last, white.1)

coded_last : (tail : List ℕ) → is_coded tail ≡ true → slice_index (92 ∷ tail) (escape_tail tail) < 128
unfolding escape_tail
coded_last [] coded = lit< tt
coded_last (c ∷ rest) coded =
    let tail = c ∷ rest in
    subst (λ (b : Bool). slice_index (92 ∷ tail) (cond b (hex_len tail + white_len (drop (hex_len tail) tail)) 1) < 128) (sym coded)
    (two_last tail (hex_len tail) (white_len (drop (hex_len tail) tail)) (hex_some c rest coded) (hex_last tail (hex_some c rest coded))
    (white_last (drop (hex_len tail) tail)))

cut_after : (text : List ℕ) (n : ℕ) → IsUtf8 text → n < length text → slice_index text n < 128 → IsCharBoundary text (1 + n)
cut_after text n utf8 within low = let is : n + 1
    ≡ 1 + n = omega arith in subst (IsCharBoundary text) is (IsCharBoundary-after_ascii text n utf8 within low)

-- a text's plain part ends before a `\`, or with the text
plain_cut : (text : List ℕ) → IsCharBoundary text (plain_len text)
plain_cut text = (
  prefix_len-le-length plain_code text,
  λ within wide. absurd
      (back_low (slice_index text (plain_len text)) (prefix_len_stops plain_code text 0 within) wide),
)
  where
    back_low : (c : ℕ) → not (c == 92) ≡ false → 128 ≤ c → ⊥
    back_low c stops wide = grind (arith, nat_tests)

pub same_code : (a b : ℕ) → (a == b) ≡ true → a ≡ b
same_code a b e = grind (arith, nat_tests)

-- the four steps
pub by_line : (old rest : List ℕ) (n : ℕ) → IsUtf8 rest → 0 < length rest → slice_index rest 0 ≡ 92
    → begins is_newline (drop 1 rest) ≡ true → n ≡ newline_len (drop 1 rest) → n ≤ length (drop 1 rest) → Replaces old old rest (1 + n)
by_line old [] n utf8 some back newline is fits = absurd (omega arith)
by_line old (c ∷ tail) n utf8 some back newline is fits =
    let one : 1 + n ≡ suc n = omega arith in
    let low : slice_index (c ∷ tail) n < 128 = rw (back, is) (newline_last tail newline) in
    let says : unescaped (c ∷ tail) ≡ unescaped (drop n tail) = rw (back, is) (line tail newline) in
    record {
      some = omega arith;
      cut = cut_after (c ∷ tail) n utf8 (omega arith) low;
      bytes = rw one (ap (λ more. old ++ more) (sym says));
    }

pub by_code : (old new value rest : List ℕ) (n : ℕ) → IsUtf8 rest → begins_escape rest ≡ true → is_coded (drop 1 rest) ≡ true
    → escape_bytes (drop 1 rest) ≡ value → n ≡ escape_tail (drop 1 rest) → n ≤ length (drop 1 rest) → new ≡ old ++ value
    → Replaces old new rest (1 + n)
by_code old new value [] n utf8 begins coded gives is fits wrote = cc
by_code old new value (c ∷ tail) n utf8 begins coded gives is fits wrote =
    let t = and_true (c == 92) _ begins in
    let back : c ≡ 92 = same_code c 92 t.0 in
    let one : 1 + n ≡ suc n = omega arith in
    let low : slice_index (c ∷ tail) n < 128 = rw (back, is) (coded_last tail coded) in
    let says : unescaped (c ∷ tail) ≡ value ++ unescaped (drop n tail) = rw (back, is, ← gives) (escape tail (not_true _ t.1)) in
    record {
      some = omega arith;
      cut = cut_after (c ∷ tail) n utf8 (omega arith) low;
      bytes = rw (one, wrote) (append_assoc old value (unescaped (drop n tail)) ∙ ap (λ more. old ++ more) (sym says));
    }

pub by_character : (old new rest : List ℕ) (n : ℕ) → IsUtf8 rest → begins_escape rest ≡ true → is_coded (drop 1 rest) ≡ false
    → n ≡ plain_len (drop 2 rest) → new ≡ old ++ take (1 + n) (drop 1 rest) → Replaces old new rest (2 + n)
unfolding escape_bytes escape_tail
by_character old new [] n utf8 begins coded is wrote = cc
by_character old new (c ∷ []) n utf8 begins coded is wrote = cc
by_character old new (c ∷ d ∷ rest) n utf8 begins coded is wrote =
    let t = and_true (c == 92) _ begins in
    let back : c ≡ 92 = same_code c 92 t.0 in
    let one : 1 + n ≡ suc n = omega arith in
    let two : 2 + n ≡ suc (suc n) = omega arith in
    let here : new ≡ old ++ d ∷ take n rest = rw one at wrote in
    let says : unescaped (92 ∷ d ∷ rest) ≡ d ∷ unescaped rest = rw coded at (escape (d ∷ rest) (not_true _ t.1)) in
    let more : unescaped rest ≡ take n rest ++ unescaped (drop n rest) = rw is (plain rest) in
    record {
      some = omega arith;
      cut = IsCharBoundary-from_rest (c ∷ d ∷ rest) 2 n (omega arith) (rw is (plain_cut rest));
      bytes = rw (two, here, back, says, more) (append_assoc old (d ∷ take n rest) (unescaped (drop n rest)));
    }

pub by_plain : (old new rest : List ℕ) (n : ℕ) → 0 < length rest → (slice_index rest 0 ≡ 92 → ⊥) → n ≡ plain_len rest
    → new ≡ old ++ take n rest → Replaces old new rest n
by_plain old new rest n some other is wrote =
    record {
      some = rw is (first rest some other);
      cut = rw is (plain_cut rest);
      bytes = rw (wrote, is) (append_assoc old (take (plain_len rest) rest) (unescaped (drop (plain_len rest) rest)) ∙ ap
          (λ more. old ++ more) (sym (plain rest)));
    }
  where
    differ : (a b : ℕ) → (a ≡ b → ⊥) → (a == b) ≡ false
    differ a b e = grind (arith, nat_tests)

    first : (rest : List ℕ) → 0 < length rest → (slice_index rest 0 ≡ 92 → ⊥) → 0 < plain_len rest
    first [] some other = absurd (omega arith)
    first (c ∷ rest) some other = let no_back : (c == 92) ≡ false = differ c 92 other in rw no_back (omega arith)

pub plain_end : (rest : List ℕ) (n : ℕ) → n ≡ plain_len rest → IsCharBoundary rest n
plain_end rest n is = rw is (plain_cut rest)

pub character_end : (rest : List ℕ) (n : ℕ) → 2 ≤ length rest → n ≡ plain_len (drop 2 rest) → IsCharBoundary rest (2 + n)
character_end rest n two is = IsCharBoundary-from_rest rest 2 n two (rw is (plain_cut (drop 2 rest)))

-- a text may be cut behind the `\` that it begins with
pub back_cut : (rest : List ℕ) → IsUtf8 rest → begins_escape rest ≡ true → IsCharBoundary rest 1
back_cut [] utf8 begins = cc
back_cut (c ∷ tail) utf8 begins = cut_after (c ∷ tail) 0 utf8 (omega arith) (low c (and_true (c == 92) _ begins).0)
  where
    low : (c : ℕ) → (c == 92) ≡ true → c < 128
    low c e = grind (arith, nat_tests)

pub uncoded_two : (rest : List ℕ) → begins_escape rest ≡ true → is_coded (drop 1 rest) ≡ false → 2 ≤ length rest
uncoded_two [] begins coded = cc
uncoded_two (c ∷ []) begins coded = cc
uncoded_two (c ∷ d ∷ rest) begins coded = omega arith

pub all_said : (out rest all : List ℕ) → length rest ≡ 0 → out ++ unescaped rest ≡ all → out ≡ all
unfolding unescaped_after
all_said out [] all empty says = sym (append-nil out) ∙ says
all_said out (c ∷ rest) all empty says = absurd (omega arith)
