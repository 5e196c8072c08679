-- No compact text has a zero byte, whatever the value.
use Rattle.std.proofs.Common.{◌≡◌, ℕ, zero, suc, ◌+◌, ◌/◌, ◌%◌, ◌==◌, ◌<◌, ◌≤◌, pos, negsuc, List, [], ◌∷◌, ◌++◌, Bool, true, false, cond}
use Rattle.std.proofs.Common.{nat_lt, decimal, refl, arith, ltb-true, ltb-false}
use Rattle.std.specs.Prelude.{◌≢◌}
use Rattle.std.specs.Fmt.{digit_glyph, digits_onto, digits}
use Rattle.std.specs.Char.{digit_char}
use Rattle.std.specs.List.{AllByRecursion}
use Rattle.std.proofs.lemmas.List.Elements.{All-from_recursion}
use Rattle.json.specs.Print.{escape_letter, escape_byte, escape, quoted}
use Rattle.serde_json.specs.Data.{Num, unsigned, negative, float, Data, null, boolean, number, string, array, object, Items, no_items, item}
use Rattle.serde_json.specs.Data.{Members, no_members, member}
use Rattle.serde_json.specs.Written.{number_text, comma_if, compact_text, items_text, members_text}
use Rattle.pipe_frames.specs.Frames.{IsText}

-- each byte is above zero
abbrev Above : List ℕ → Type 0
Above = AllByRecursion (λ b. 0 < b)

above-append : (xs ys : List ℕ) → Above xs → Above ys → Above (xs ++ ys)
above-append [] ys p q = q
above-append (x ∷ xs) ys p q = (p.0, above-append xs ys p.1 q)

digit_above : (d : ℕ) → 0 < digit_char d
digit_above d = at (nat_lt d 10) where
  at : (b : Bool) → 0 < cond b (48 + d) (87 + d)
  at true = omega arith
  at false = omega arith

escape_above : (x : ℕ) → Above (escape_byte x)
unfolding escape_byte
escape_above x = at (nat_lt 0 (escape_letter x)) (nat_lt x 32) refl refl where
  at : (b c : Bool) → nat_lt 0 (escape_letter x) ≡ b → nat_lt x 32 ≡ c
      → Above (cond b (92 ∷ escape_letter x ∷ []) (cond c (92 ∷ 117 ∷ 48 ∷ 48 ∷ digit_char (x / 16) ∷ digit_char (x % 16) ∷ []) (x ∷ [])))
  at true c e f = (omega arith, (ltb-true 0 (escape_letter x) e, tt))
  at false true e f = (omega arith, (omega arith, (omega arith, (omega arith, (digit_above (x / 16), (digit_above (x % 16), tt))))))
  at false false e f = let big : 32 ≤ x = ltb-false x 32 f in (omega arith, tt)

escaped_above : (s : List ℕ) → Above (escape s)
escaped_above [] = tt
escaped_above (x ∷ s) = above-append (escape_byte x) (escape s) (escape_above x) (escaped_above s)

quoted_above : (s : List ℕ) → Above (quoted s)
quoted_above s = (omega arith, above-append (escape s) (34 ∷ []) (escaped_above s) ((omega arith, tt)))

glyph_above : (d : ℕ) → 0 < digit_glyph false d
glyph_above d = digit_above d

onto_above : (k n : ℕ) (acc : List ℕ) → Above acc → Above (digits_onto k 10 false n acc)
onto_above zero n acc p = p
onto_above (suc k) n acc p =
    at (n / 10 == 0) ((glyph_above (n % 10), p))
    (onto_above k (n / 10) (digit_glyph false (n % 10) ∷ acc) ((glyph_above (n % 10), p))) where
      at : (b : Bool) → Above (digit_glyph false (n % 10) ∷ acc)
          → Above (digits_onto k 10 false (n / 10) (digit_glyph false (n % 10) ∷ acc))
          → Above (cond b (digit_glyph false (n % 10) ∷ acc) (digits_onto k 10 false (n / 10) (digit_glyph false (n % 10) ∷ acc)))
      at true now later = now
      at false now later = later

decimal_above : (n : ℕ) → Above (decimal n)
unfolding digits
decimal_above n = onto_above 64 n [] tt

number_above : (n : Num) → Above (number_text n)
number_above (unsigned n) = decimal_above n
number_above (negative (pos n)) = decimal_above n
number_above (negative (negsuc n)) = (omega arith, decimal_above (suc n))
number_above (float x) = tt

comma_above : (later : Bool) → Above (comma_if later)
comma_above true = (omega arith, tt)
comma_above false = tt

word_above : (b : Bool) → Above (compact_text (boolean b))
word_above true = (omega arith, (omega arith, (omega arith, (omega arith, tt))))
word_above false = (omega arith, (omega arith, (omega arith, (omega arith, (omega arith, tt)))))

mutual
  text_above : (d : Data) → Above (compact_text d)
  text_above null = (omega arith, (omega arith, (omega arith, (omega arith, tt))))
  text_above (boolean b) = word_above b
  text_above (number n) = number_above n
  text_above (string s) = quoted_above s
  text_above (array ds) = (omega arith, items_above false ds)
  text_above (object ms) = (omega arith, members_above false ms)

  items_above : (later : Bool) (ds : Items) → Above (items_text later ds)
  items_above later no_items = (omega arith, tt)
  items_above later (item d ds) =
      above-append (comma_if later) _ (comma_above later) (above-append (compact_text d) _ (text_above d) (items_above true ds))

  members_above : (later : Bool) (ms : Members) → Above (members_text later ms)
  members_above later no_members = (omega arith, tt)
  members_above later (member k d ms) =
      above-append (comma_if later) _ (comma_above later)
      (above-append (quoted k) _ (quoted_above k)
      (omega arith, above-append (compact_text d) _ (text_above d) (members_above true ms)))

not_zero : (xs : List ℕ) → Above xs → AllByRecursion (λ byte. byte ≢ 0) xs
not_zero [] p = tt
not_zero (x ∷ xs) p = (λ e. absurd (omega arith), not_zero xs p.1)

-- a compact text has no zero byte
pub compact-is-text : (d : Data) → IsText (compact_text d)
compact-is-text d = All-from_recursion (λ byte. byte ≢ 0) (compact_text d) (not_zero (compact_text d) (text_above d))
