-- What a text says with its escapes replaced is UTF-8, where the text is.
use Rattle.std.proofs.Common.{◌≡◌, ℕ, zero, suc, ◌+◌, ◌-◌, ◌≤◌, ◌==◌, Bool, true, false, cond, ◌&&◌, List, [], ◌∷◌, length, take, drop}
use Rattle.std.proofs.Common.{refl, sym, subst, length-drop, arith}
use Rattle.std.specs.Char.{is_ascii_hexdigit, encode_utf8}
use Rattle.std.specs.Str.{IsUtf8}
use lib.Utf8.{scalar}
use Rattle.std.proofs.lemmas.List.{length-take}
use Rattle.std.proofs.lemmas.List.Sums.{prefix_len-le-length}
use Rattle.std.proofs.lemmas.Bool.Decides.{nat_tests}
use Rattle.std.proofs.lemmas.Str.{IsUtf8-nil, IsUtf8-append, IsUtf8-take, IsUtf8-drop, IsUtf8-between, IsUtf8-encode}
use Rattle.css_tokens.specs.Codes.{is_newline, is_white, begins}
use Rattle.css_tokens.specs.Escapes.{newline_len, white_len, hex_len, escape_tail, begins_escape, is_coded, escape_bytes, escape_value}
use Rattle.css_tokens.specs.Escapes.{hex_value, character_of, unescaped, unescaped_after, Replaces}
use Rattle.css_tokens.proofs.Unescaping.{by_line, by_code, by_character, by_plain, plain_len, back_cut, same_code}

-- ---- how far an escape goes

white-fits : (text : List ℕ) → white_len text ≤ length text
white-fits [] = omega arith
white-fits (c ∷ []) = elim (c == 13) as (λ b. cond (b && false) 2 (cond (is_white c) 1 0) ≤ 1) [
  | true ↦ one (is_white c)
  | false ↦ one (is_white c)
]
  where
    one : (b : Bool) → cond b 1 0 ≤ 1
    one true = omega arith
    one false = omega arith
white-fits (c ∷ d ∷ rest) = at (c == 13 && d == 10) (is_white c) where
  at : (a b : Bool) → cond a 2 (cond b 1 0) ≤ length (c ∷ d ∷ rest)
  at true b = omega arith
  at false true = omega arith
  at false false = omega arith

newline-fits : (text : List ℕ) → newline_len text ≤ length text
newline-fits [] = omega arith
newline-fits (c ∷ []) = at (is_newline c) (c == 13) where
  at : (a b : Bool) → cond a (cond (b && false) 2 1) 0 ≤ 1
  at true true = omega arith
  at true false = omega arith
  at false b = omega arith
newline-fits (c ∷ d ∷ rest) = at (is_newline c) (c == 13 && d == 10) where
  at : (a b : Bool) → cond a (cond b 2 1) 0 ≤ length (c ∷ d ∷ rest)
  at true true = omega arith
  at true false = omega arith
  at false b = omega arith

hex-fits : (text : List ℕ) → hex_len text ≤ length text
hex-fits text = omega (arith, prefix_len-le-length is_ascii_hexdigit (take 6 text), length-take 6 text)

escape-fits : (text : List ℕ) → escape_tail text ≤ length text
unfolding escape_tail
escape-fits [] = omega arith
escape-fits (c ∷ rest) = at (is_ascii_hexdigit c) where
  both : hex_len (c ∷ rest) + white_len (drop (hex_len (c ∷ rest)) (c ∷ rest)) ≤ length (c ∷ rest)
  both = omega (arith, hex-fits (c ∷ rest), white-fits (drop (hex_len (c ∷ rest)) (c ∷ rest)), length-drop (hex_len (c ∷ rest)) (c ∷ rest))

  at : (b : Bool) → cond b (hex_len (c ∷ rest) + white_len (drop (hex_len (c ∷ rest)) (c ∷ rest))) 1 ≤ length (c ∷ rest)
  at true = both
  at false = omega arith

-- ---- the value of an escape

character-scalar : (n : ℕ) → scalar (character_of n) ≡ true
character-scalar n = at (n == 0) (scalar n) refl where
  at : (a b : Bool) → scalar n ≡ b → scalar (cond a 0xFFFD (cond b n 0xFFFD)) ≡ true
  at true b e = refl
  at false true e = e
  at false false e = refl

value-scalar : (c : ℕ) (rest : List ℕ) → is_ascii_hexdigit c ≡ true → scalar (escape_value (c ∷ rest)) ≡ true
unfolding escape_value
value-scalar c rest coded =
    let n = hex_value (take (hex_len (c ∷ rest)) (c ∷ rest)) in
    subst (λ (b : Bool). scalar (cond b (character_of n) c) ≡ true) (sym coded) (character-scalar n)

value-utf8 : (tail : List ℕ) → is_coded tail ≡ true → IsUtf8 (escape_bytes tail)
unfolding escape_bytes
value-utf8 [] coded = IsUtf8-encode 0xFFFD refl
value-utf8 (c ∷ rest) coded =
    let value = escape_value (c ∷ rest) in
    subst (λ (b : Bool). IsUtf8 (cond b (encode_utf8 value) (c ∷ []))) (sym coded) (IsUtf8-encode value (value-scalar c rest coded))

-- ---- the text

-- one step, and then the rest
stepped : (new rest : List ℕ) (n k : ℕ) → IsUtf8 new → IsUtf8 rest → length rest ≤ suc k → Replaces [] new rest n
    → ((r : List ℕ) → length r ≤ k → IsUtf8 r → IsUtf8 (unescaped r)) → IsUtf8 (unescaped rest)
stepped new rest n k here utf8 few r later =
    let shorter : length (drop n rest) ≤ k = omega (arith, length-drop n rest, r.some, few) in
    subst IsUtf8 r.bytes (IsUtf8-append new (unescaped (drop n rest)) here (later (drop n rest) shorter (IsUtf8-drop rest n utf8 r.cut)))

not-back : (c : ℕ) → (c == 92) ≡ false → c ≡ 92 → ⊥
not-back c e is = grind (arith, nat_tests)

unescaped-all : (k : ℕ) (rest : List ℕ) → length rest ≤ k → IsUtf8 rest → IsUtf8 (unescaped rest)
unfolding unescaped_after
unescaped-all k [] few utf8 = IsUtf8-nil
unescaped-all zero (c ∷ tail) few utf8 = absurd (omega (arith, few))
unescaped-all (suc k) (c ∷ tail) few utf8 = at (c == 92) refl (begins is_newline tail) refl (is_coded tail) refl
    (λ r. unescaped-all k r) where
      at : (a : Bool) → (c == 92) ≡ a → (b : Bool) → begins is_newline tail ≡ b → (d : Bool) → is_coded tail ≡ d
          → ((r : List ℕ) → length r ≤ k → IsUtf8 r → IsUtf8 (unescaped r)) → IsUtf8 (unescaped (c ∷ tail))
      at true back true newline d coded later =
          stepped [] (c ∷ tail) (1 + newline_len tail) k IsUtf8-nil utf8 few
          (by_line [] (c ∷ tail) (newline_len tail) utf8 (omega arith) (same_code c 92 back) newline refl (newline-fits tail)) later
      at true back false newline true coded later =
          let begun : begins_escape (c ∷ tail) ≡ true = rw (back, newline) refl in
          stepped (escape_bytes tail) (c ∷ tail) (1 + escape_tail tail) k (value-utf8 tail coded) utf8 few
          (by_code [] (escape_bytes tail) (escape_bytes tail) (c ∷ tail) (escape_tail tail) utf8 begun coded refl refl
          (escape-fits tail) refl) later
      at true back false newline false coded later =
          let begun : begins_escape (c ∷ tail) ≡ true = rw (back, newline) refl in
          let n = plain_len (drop 1 tail) in
          let r : Replaces [] (take (1 + n) tail) (c ∷ tail) (2 + n) = by_character [] (take (1 + n) tail)
          (c ∷ tail) n utf8 begun coded refl refl in
          let count : 2 + n - 1 ≡ 1 + n = omega arith in
          let here : IsUtf8 (take (1 + n) tail) = subst (λ (m : ℕ). IsUtf8 (take m tail)) count
          (IsUtf8-between (c ∷ tail) 1 (2 + n) utf8 (omega arith) (back_cut (c ∷ tail) utf8 begun) r.cut) in
          stepped (take (1 + n) tail) (c ∷ tail) (2 + n) k here utf8 few r later
      at false other b newline d coded later =
          let n = plain_len (c ∷ tail) in
          let r : Replaces [] (take n (c ∷ tail)) (c ∷ tail) n = by_plain [] (take n (c ∷ tail)) (c ∷ tail) n (omega arith)
          (not-back c other) refl refl in
          stepped (take n (c ∷ tail)) (c ∷ tail) n k (IsUtf8-take (c ∷ tail) n utf8 r.cut) utf8 few r later

pub unescaped-utf8 : (text : List ℕ) → IsUtf8 text → IsUtf8 (unescaped text)
unescaped-utf8 text utf8 = unescaped-all (length text) text (omega arith) utf8
