-- No text of JSON has a zero byte.
use Rattle.std.proofs.Common.{◌≡◌, ℕ, suc, ◌+◌, ◌/◌, ◌%◌, ◌^◌, ◌<◌, ◌≤◌, pos, negsuc, List, [], ◌∷◌, ◌++◌, length, get_or, Bool, true}
use Rattle.std.proofs.Common.{false, cond, nat_lt, decimal, refl, arith, ltb-true, ltb-false}
use Rattle.std.specs.Prelude.{◌≢◌}
use Rattle.std.specs.Char.{digit_char}
use Rattle.std.specs.List.{AllByRecursion}
use Rattle.std.proofs.lemmas.List.Elements.{All-from_recursion}
use Rattle.std.proofs.lemmas.Fmt.{decimal_is_IsNumeral}
use Rattle.std.proofs.lemmas.Str.Parse.{digit_at}
use Rattle.json.specs.Print.{escape_letter, escape_byte, escape, quoted}
use Rattle.serde_json.specs.Data.{Num, unsigned, negative, float, Data, null, boolean, number, string, array, object, Items, no_items, item}
use Rattle.serde_json.specs.Data.{Members, no_members, member}
use Rattle.serde_json.specs.Written.{number_text, comma_if, compact_text, items_text, members_text}
use Rattle.cdp_json.specs.Plain.{number_is_plain, is_plain, items_are_plain, starts_after, members_are_plain}
use Rattle.cdp_messages.specs.Laws.{TextsHaveNoZero}
use Rattle.cdp_json.proofs.Options.{both_parts}

abbrev Above : List ℕ → Type 0
Above = AllByRecursion (λ b. 0 < b)

above-append : (xs ys : List ℕ) → Above xs → Above ys → Above (xs ++ ys)
above-append [] ys p q = q
above-append (x ∷ xs) ys p q = (p.0, above-append xs ys p.1 q)

digit_above : (d : ℕ) → 0 < digit_char d
digit_above d = at (nat_lt d 10) where
  at : (b : Bool) → 0 < cond b (48 + d) (87 + d)
  at true = omega arith
  at false = omega arith

escape_above : (x : ℕ) → Above (escape_byte x)
unfolding escape_byte
escape_above x = at (nat_lt 0 (escape_letter x)) (nat_lt x 32) refl refl where
  at : (b c : Bool) → nat_lt 0 (escape_letter x) ≡ b → nat_lt x 32 ≡ c
      → Above (cond b (92 ∷ escape_letter x ∷ []) (cond c (92 ∷ 117 ∷ 48 ∷ 48 ∷ digit_char (x / 16) ∷ digit_char (x % 16) ∷ []) (x ∷ [])))
  at true c e f = (omega arith, (ltb-true 0 (escape_letter x) e, tt))
  at false true e f = (omega arith, (omega arith, (omega arith, (omega arith, (digit_above (x / 16), (digit_above (x % 16), tt))))))
  at false false e f = let big : 32 ≤ x = ltb-false x 32 f in (omega arith, tt)

escaped_above : (s : List ℕ) → Above (escape s)
escaped_above [] = tt
escaped_above (x ∷ s) = above-append (escape_byte x) (escape s) (escape_above x) (escaped_above s)

quoted_above : (s : List ℕ) → Above (quoted s)
quoted_above s = (omega arith, above-append (escape s) (34 ∷ []) (escaped_above s) ((omega arith, tt)))

digits_above : (ds : List ℕ) → ((i : ℕ) → i < length ds → 48 ≤ get_or ds i 0) → Above ds
digits_above [] h = tt
digits_above (d ∷ ds) h = let first : 48 ≤ d = h 0 (omega arith) in (omega arith, digits_above ds (λ i l. h (suc i) (omega arith)))

decimal_above : (n : ℕ) → n < 2 ^ 64 → Above (decimal n)
decimal_above n h = digits_above (decimal n) (λ i l. (digit_at (decimal n) i (decimal_is_IsNumeral n h).0.1 l).0)

number_above : (n : Num) → number_is_plain n ≡ true → Above (number_text n)
number_above (unsigned n) p = decimal_above n (ltb-true n (2 ^ 64) p)
number_above (negative (pos n)) p = absurd cc
number_above (negative (negsuc n)) p = let small : n < 2 ^ 63 = ltb-true n (2 ^ 63) p in (omega arith, decimal_above (suc n) (omega arith))
number_above (float x) p = absurd cc

comma_above : (later : Bool) → Above (comma_if later)
comma_above true = (omega arith, tt)
comma_above false = tt

word_above : (b : Bool) → Above (compact_text (boolean b))
word_above true = (omega arith, (omega arith, (omega arith, (omega arith, tt))))
word_above false = (omega arith, (omega arith, (omega arith, (omega arith, (omega arith, tt)))))

mutual
  text_above : (d : Data) → is_plain d ≡ true → Above (compact_text d)
  text_above null p = (omega arith, (omega arith, (omega arith, (omega arith, tt))))
  text_above (boolean b) p = word_above b
  text_above (number n) p = number_above n p
  text_above (string s) p = quoted_above s
  text_above (array ds) p = (omega arith, items_above false ds p)
  text_above (object ms) p = (omega arith, members_above false ms p)

  items_above : (later : Bool) (ds : Items) → items_are_plain ds ≡ true → Above (items_text later ds)
  items_above later no_items p = (omega arith, tt)
  items_above later (item d ds) p =
      let q = both_parts (is_plain d) (items_are_plain ds) p in
      above-append (comma_if later) _ (comma_above later) (above-append (compact_text d) _ (text_above d q.0) (items_above true ds q.1))

  members_above : (later : Bool) (ms : Members) → members_are_plain ms ≡ true → Above (members_text later ms)
  members_above later no_members p = (omega arith, tt)
  members_above later (member k d ms) p =
      let q = both_parts (is_plain d) _ p in
      let r = both_parts (starts_after k ms) (members_are_plain ms) q.1 in
      above-append (comma_if later) _ (comma_above later)
      (above-append (quoted k) _ (quoted_above k)
      (omega arith, above-append (compact_text d) _ (text_above d q.0) (members_above true ms r.1)))

not_zero : (xs : List ℕ) → Above xs → AllByRecursion (λ byte. byte ≢ 0) xs
not_zero [] p = tt
not_zero (x ∷ xs) p = (λ e. absurd (omega arith), not_zero xs p.1)

pub texts_have_no_zero : TextsHaveNoZero
texts_have_no_zero d p = All-from_recursion (λ byte. byte ≢ 0) (compact_text d) (not_zero (compact_text d) (text_above d p))
