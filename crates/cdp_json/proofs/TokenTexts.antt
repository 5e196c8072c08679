-- The tokens of JSON that is UTF-8: each of their texts is UTF-8.
use Rattle.std.proofs.Common.{◌≡◌, ℕ, suc, ◌+◌, ◌-◌, ◌*◌, ◌<◌, ◌≤◌, ◌==◌, nat_lt, Bool, true, false, cond, ◌&&◌, List, [], ◌∷◌, ◌++◌}
use Rattle.std.proofs.Common.{length, get_or, take, drop, append_assoc, append-nil, Option, Some, None, option_and_then, IsUtf8, refl, sym}
use Rattle.std.proofs.Common.{ap, ◌∙◌, inl, inr, subst, arith, ltb-true, length-append}
use Rattle.std.specs.Prelude.{⊤}
use Rattle.std.specs.Char.{IsScalar, InScalarRange, digit_value, is_digit, encode_utf8}
use Rattle.std.proofs.Math.Seq.{get_or-append_seam, take-append_seam, drop-append_seam}
use Rattle.std.proofs.lemmas.Bool.{cases_lt}
use Rattle.std.proofs.lemmas.Bool.Decides.{nat_tests}
use Rattle.std.proofs.lemmas.Str.{IsUtf8-append, IsUtf8-encode, IsUtf8-from_ascii, IsUtf8-take, IsUtf8-drop, IsCharBoundary-before_ascii}
use Rattle.std.proofs.lemmas.Str.{IsCharBoundary-after_ascii}
use Rattle.std.proofs.lemmas.Str.Ascii.{IsAscii-nil, IsAscii-cons}
use Rattle.json.specs.Text.{code_unit, short_escape, is_high_surrogate, is_low_surrogate, surrogate_pair, Within, plain, after_backslash}
use Rattle.json.specs.Text.{after_u, after_high, prepend, content}
use Rattle.json.specs.Token.{Token, begin_object, end_object, begin_array, end_array, key, string, number, boolean, null, bad}
use Rattle.json.specs.Word.{head, is_operator, is_space, ends_word, after_number, number_before, word}
use Rattle.json.specs.Lex.{Lexeme, token, comma, colon, Class, quote, backslash, operator, space, other, class, operator_lexeme}
use Rattle.json.specs.Lex.{string_token, Mode, between, in_word, in_string, in_escape, lex_byte, lex}
use Rattle.json.specs.Lex.{Place, fresh, after_value, after_comma, after_key, begins_colon, may_begin, may_close, if_allowed, place_token}
use Rattle.json.specs.Lex.{punctuate, tokens}
use Rattle.cdp_json.proofs.Options.{both_parts, and_then_some, map_some}

-- ---- the content of a string

-- what stands before a byte of ASCII, and what follows it
around : (p : List ℕ) (x : ℕ) (xs : List ℕ) → IsUtf8 (p ++ x ∷ xs) → x < 128 → IsUtf8 p × IsUtf8 xs
around p x xs u small =
    let bs = p ++ x ∷ xs in
    let at : get_or bs (length p) 0 ≡ x = get_or-append_seam p x xs 0 in
    let long : length bs ≡ length p + suc (length xs) = length-append p (x ∷ xs) in
    let within : length p < length bs = omega (arith, long) in
    let ascii : get_or bs (length p) 0 < 128 = omega (arith, at, small) in
    let before : take (length p) bs ≡ p = take-append_seam p (x ∷ xs) in
    let one : length (p ++ x ∷ []) ≡ length p + 1 = length-append p (x ∷ []) in
    let after : drop (length p + 1) bs ≡ xs =
    ap (λ n. drop n bs) (sym one) ∙ ap (drop (length (p ++ x ∷ []))) (sym (append_assoc p (x ∷ []) xs)) ∙ drop-append_seam
    (p ++ x ∷ []) xs in (
      subst IsUtf8 before (IsUtf8-take bs (length p) u (IsCharBoundary-before_ascii bs (length p) within ascii)),
      subst IsUtf8 after (IsUtf8-drop bs (length p + 1) u (IsCharBoundary-after_ascii bs (length p) u within ascii)),
    )

-- bytes of ASCII, and then what is UTF-8 after them
after_one : (x : ℕ) (xs : List ℕ) → IsUtf8 (x ∷ xs) → x < 128 → IsUtf8 xs
after_one x xs u small = (around [] x xs u small).1

digit_small : (x : ℕ) → is_digit x 16 ≡ true → x < 128
digit_small x e = elim (cases_lt x 128) [ inl lt ↦ lt | inr ge ↦ absurd (grind (arith, nat_tests)) ]

digit_value_small : (x : ℕ) → is_digit x 16 ≡ true → digit_value x < 16
digit_value_small x e = ltb-true (digit_value x) 16 e

-- four digits that spell a code unit
record Unit4 (a b c d u : ℕ) : Type 0 where
  pub first : a < 128
  pub second : b < 128
  pub third : c < 128
  pub fourth : d < 128
  pub small : u < 65536

unit_of : (a b c d u : ℕ) → code_unit a b c d ≡ Some u → Unit4 a b c d u
unfolding code_unit
unit_of a b c d u e = at (is_digit a 16 && is_digit b 16 && is_digit c 16 && is_digit d 16) refl e where
  at : (t : Bool) → (is_digit a 16 && is_digit b 16 && is_digit c 16 && is_digit d 16) ≡ t
      → cond t (Some (digit_value a * 4096 + digit_value b * 256 + digit_value c * 16 + digit_value d)) None ≡ Some u → Unit4 a b c d u
  at false is e = absurd cc
  at true is e =
      let p3 = both_parts _ (is_digit d 16) is in
      let p2 = both_parts _ (is_digit c 16) p3.0 in
      let p1 = both_parts (is_digit a 16) (is_digit b 16) p2.0 in
      let va = digit_value_small a p1.0 in
      let vb = digit_value_small b p1.1 in
      let vc = digit_value_small c p2.1 in
      let vd = digit_value_small d p3.1 in
      let same : digit_value a * 4096 + digit_value b * 256 + digit_value c * 16 + digit_value d ≡ u = cc e in
      record {
        first = digit_small a p1.0;
        second = digit_small b p1.1;
        third = digit_small c p2.1;
        fourth = digit_small d p3.1;
        small = below (digit_value a) (digit_value b) (digit_value c) (digit_value d) va vb vc vd same;
      }
    where
      below : (va vb vc vd : ℕ) → va < 16 → vb < 16 → vc < 16 → vd < 16 → va * 4096 + vb * 256 + vc * 16 + vd ≡ u → u < 65536
      below va vb vc vd ha hb hc hd e = omega arith

-- what a backslash and a byte stand for
short_small : (x c : ℕ) → short_escape x ≡ Some c → (x < 128) × (c < 128)
unfolding short_escape
short_small x c e = elim (cases_lt x 128) [
  | inl lt ↦ (lt, grind (arith, nat_tests))
  | inr ge ↦ absurd (grind (arith, nat_tests))
]

scalar_range : (c : ℕ) → InScalarRange c → IsScalar c
scalar_range c h = grind (arith, nat_tests)

-- a unit that is no surrogate
alone_scalar : (u : ℕ) → u < 65536 → is_high_surrogate u ≡ false → is_low_surrogate u ≡ false → IsScalar u
alone_scalar u small high low = elim (cases_lt u 0xD800) [
  | inl lt ↦ scalar_range u (inl lt)
  | inr ge ↦ let past : 0xE000 ≤ u = grind (arith, nat_tests) in scalar_range u (inr (omega arith))
]

pair_scalar : (h l : ℕ) → is_high_surrogate h ≡ true → is_low_surrogate l ≡ true → IsScalar (surrogate_pair h l)
pair_scalar h l high low =
    let a : 0xD800 ≤ h = grind (arith, nat_tests) in
    let b : h < 0xDC00 = grind (arith, nat_tests) in
    let c : 0xDC00 ≤ l = grind (arith, nat_tests) in
    let d : l < 0xE000 = grind (arith, nat_tests) in
    scalar_range (surrogate_pair h l) (inr (omega arith))

-- What a mode keeps: in plain text, what was written before it with what is still to come; else what is still to come.
abbrev Keeps : Within → List ℕ → Type 0
Keeps plain xs = (p s : List ℕ) → IsUtf8 (p ++ xs) → content plain xs ≡ Some s → IsUtf8 (p ++ s)
Keeps after_backslash xs = (s : List ℕ) → IsUtf8 xs → content after_backslash xs ≡ Some s → IsUtf8 s
Keeps after_u xs = (s : List ℕ) → IsUtf8 xs → content after_u xs ≡ Some s → IsUtf8 s
Keeps (after_high h) xs = (s : List ℕ) → is_high_surrogate h ≡ true → IsUtf8 xs → content (after_high h) xs ≡ Some s → IsUtf8 s

-- some bytes, and then a plain rest
then_plain : (bytes xs s : List ℕ) → Keeps plain xs → IsUtf8 bytes → IsUtf8 xs → prepend bytes (content plain xs) ≡ Some s → IsUtf8 s
then_plain bytes xs s later here u e =
    let q = map_some (λ (r : List ℕ). bytes ++ r) (content plain xs) s e in
    subst IsUtf8 q.2 (IsUtf8-append bytes q.0 here (later [] q.0 u q.1))

plain_byte : (x : ℕ) (xs p s : List ℕ) → Keeps plain xs → Keeps after_backslash xs → IsUtf8 (p ++ x ∷ xs)
    → (a b c : Bool) → (x == 34) ≡ a → (x == 92) ≡ b
    → cond a (Some []) (cond b (content after_backslash xs) (cond c None (prepend (x ∷ []) (content plain xs)))) ≡ Some s → IsUtf8 (p ++ s)
plain_byte x xs p s later escaped u true b c is_a is_b e =
    let ascii : x < 128 = grind (arith, nat_tests) in
    let same : [] ≡ s = cc e in
    subst (λ r. IsUtf8 (p ++ r)) same (subst IsUtf8 (sym (append-nil p)) (around p x xs u ascii).0)
plain_byte x xs p s later escaped u false true c is_a is_b e =
    let ascii : x < 128 = grind (arith, nat_tests) in
    let parts = around p x xs u ascii in
    IsUtf8-append p s parts.0 (escaped s parts.1 e)
plain_byte x xs p s later escaped u false false true is_a is_b e = absurd cc
plain_byte x xs p s later escaped u false false false is_a is_b e =
    let q = map_some (λ (r : List ℕ). x ∷ r) (content plain xs) s e in
    let more : IsUtf8 ((p ++ x ∷ []) ++ xs) = subst IsUtf8 (sym (append_assoc p (x ∷ []) xs)) u in
    subst (λ r. IsUtf8 (p ++ r)) q.2 (subst IsUtf8 (append_assoc p (x ∷ []) q.0) (later (p ++ x ∷ []) q.0 more q.1))

ascii_one : (c : ℕ) → c < 128 → IsUtf8 (c ∷ [])
ascii_one c small = IsUtf8-from_ascii (c ∷ []) (IsAscii-cons c [] small IsAscii-nil)

escaped_byte : (x : ℕ) (xs s : List ℕ) → Keeps plain xs → Keeps after_u xs → IsUtf8 (x ∷ xs)
    → (a : Bool) → (x == 117) ≡ a → cond a (content after_u xs)
    (option_and_then (λ c. prepend (c ∷ []) (content plain xs)) (short_escape x)) ≡ Some s → IsUtf8 s
escaped_byte x xs s later unit u true is e =
    let ascii : x < 128 = grind (arith, nat_tests) in
    unit s (after_one x xs u ascii) e
escaped_byte x xs s later unit u false is e =
    let q = and_then_some (λ c. prepend (c ∷ []) (content plain xs)) (short_escape x) s e in
    let small = short_small x q.0 q.1 in
    then_plain (q.0 ∷ []) xs s later (ascii_one q.0 small.1) (after_one x xs u small.0) q.2

-- what follows four bytes of ASCII
after_four : (a b c d : ℕ) (xs : List ℕ) → IsUtf8 (a ∷ b ∷ c ∷ d ∷ xs) → a < 128 → b < 128 → c < 128 → d < 128 → IsUtf8 xs
after_four a b c d xs u ha hb hc hd =
    after_one d xs (after_one c (d ∷ xs) (after_one b (c ∷ d ∷ xs) (after_one a (b ∷ c ∷ d ∷ xs) u ha) hb) hc) hd

unit_alone : (v : ℕ) (xs s : List ℕ) → Keeps plain xs → ((h : ℕ) → Keeps (after_high h) xs) → IsUtf8 xs → v < 65536
    → (high low : Bool) → is_high_surrogate v ≡ high → is_low_surrogate v ≡ low
    → cond high (content (after_high v) xs) (cond low None (prepend (encode_utf8 v) (content plain xs))) ≡ Some s → IsUtf8 s
unit_alone v xs s later pair u small true low is_h is_l e = pair v s is_h u e
unit_alone v xs s later pair u small false true is_h is_l e = absurd cc
unit_alone v xs s later pair u small false false is_h is_l e =
    then_plain (encode_utf8 v) xs s later (IsUtf8-encode v (alone_scalar v small is_h is_l)) u e

unit_low : (h l : ℕ) (xs s : List ℕ) → Keeps plain xs → is_high_surrogate h ≡ true → IsUtf8 xs
    → (low : Bool) → is_low_surrogate l ≡ low → cond low (prepend (encode_utf8 (surrogate_pair h l)) (content plain xs)) None ≡ Some s
    → IsUtf8 s
unit_low h l xs s later high u true is e =
    then_plain (encode_utf8 (surrogate_pair h l)) xs s later (IsUtf8-encode (surrogate_pair h l) (pair_scalar h l high is)) u e
unit_low h l xs s later high u false is e = absurd cc

low_byte : (h x y a b c d : ℕ) (xs s : List ℕ) → Keeps plain xs → is_high_surrogate h ≡ true → IsUtf8 (x ∷ y ∷ a ∷ b ∷ c ∷ d ∷ xs)
    → (t : Bool) → ((x == 92) && (y == 117)) ≡ t
    → cond t (option_and_then (λ l. cond (is_low_surrogate l) (prepend (encode_utf8 (surrogate_pair h l)) (content plain xs)) None)
    (code_unit a b c d)) None ≡ Some s → IsUtf8 s
low_byte h x y a b c d xs s later high u false is e = absurd cc
low_byte h x y a b c d xs s later high u true is e =
    let p = both_parts (x == 92) (y == 117) is in
    let is_x : (x == 92) ≡ true = p.0 in
    let is_y : (y == 117) ≡ true = p.1 in
    let hx : x < 128 = grind (arith, nat_tests) in
    let hy : y < 128 = grind (arith, nat_tests) in
    let q = and_then_some (λ l. cond (is_low_surrogate l) (prepend (encode_utf8 (surrogate_pair h l)) (content plain xs)) None)
    (code_unit a b c d) s e in
    let unit = unit_of a b c d q.0 q.1 in
    let rest : IsUtf8 (a ∷ b ∷ c ∷ d ∷ xs) = after_one y (a ∷ b ∷ c ∷ d ∷ xs) (after_one x (y ∷ a ∷ b ∷ c ∷ d ∷ xs) u hx) hy in
    unit_low h q.0 xs s later high (after_four a b c d xs rest unit.first unit.second unit.third unit.fourth)
    (is_low_surrogate q.0) refl q.2

keeps : (w : Within) (xs : List ℕ) → Keeps w xs
unfolding content
keeps plain [] = λ p s u e. absurd cc
keeps plain (x ∷ xs) = λ p s u e. plain_byte x xs p s (keeps plain xs) (keeps after_backslash xs) u (x == 34) (x == 92)
    (nat_lt x 32) refl refl e
keeps after_backslash [] = λ s u e. absurd cc
keeps after_backslash (x ∷ xs) = λ s u e. escaped_byte x xs s (keeps plain xs) (keeps after_u xs) u (x == 117) refl e
keeps after_u [] = λ s u e. absurd cc
keeps after_u (a ∷ []) = λ s u e. absurd cc
keeps after_u (a ∷ b ∷ []) = λ s u e. absurd cc
keeps after_u (a ∷ b ∷ c ∷ []) = λ s u e. absurd cc
keeps after_u (a ∷ b ∷ c ∷ d ∷ xs) = λ s u e.
    let q = and_then_some (λ v. cond (is_high_surrogate v) (content (after_high v) xs)
    (cond (is_low_surrogate v) None (prepend (encode_utf8 v) (content plain xs)))) (code_unit a b c d) s e in
    let unit = unit_of a b c d q.0 q.1 in
    unit_alone q.0 xs s (keeps plain xs) (λ h. keeps (after_high h) xs)
    (after_four a b c d xs u unit.first unit.second unit.third unit.fourth) unit.small
    (is_high_surrogate q.0) (is_low_surrogate q.0) refl refl q.2
keeps (after_high h) [] = λ s high u e. absurd cc
keeps (after_high h) (x ∷ []) = λ s high u e. absurd cc
keeps (after_high h) (x ∷ y ∷ []) = λ s high u e. absurd cc
keeps (after_high h) (x ∷ y ∷ a ∷ []) = λ s high u e. absurd cc
keeps (after_high h) (x ∷ y ∷ a ∷ b ∷ []) = λ s high u e. absurd cc
keeps (after_high h) (x ∷ y ∷ a ∷ b ∷ c ∷ []) = λ s high u e. absurd cc
keeps (after_high h) (x ∷ y ∷ a ∷ b ∷ c ∷ d ∷ xs) = λ s high u e.
    low_byte h x y a b c d xs s (keeps plain xs) high u ((x == 92) && (y == 117)) refl e

-- the content of a string in UTF-8
content_utf8 : (xs s : List ℕ) → IsUtf8 xs → content plain xs ≡ Some s → IsUtf8 s
content_utf8 xs s u e = keeps plain xs [] s u e

-- ---- tokens

abbrev pub TextToken : Token → Type 0
TextToken begin_object = ⊤
TextToken end_object = ⊤
TextToken begin_array = ⊤
TextToken end_array = ⊤
TextToken (key s) = IsUtf8 s
TextToken (string s) = IsUtf8 s
TextToken (number s) = ⊤
TextToken (boolean b) = ⊤
TextToken null = ⊤
TextToken bad = ⊤

abbrev pub TextTokens : List Token → Type 0
TextTokens [] = ⊤
TextTokens (t ∷ ts) = TextToken t × TextTokens ts

abbrev TextLexeme : Lexeme → Type 0
TextLexeme (token t) = TextToken t
TextLexeme comma = ⊤
TextLexeme colon = ⊤

abbrev Lexemes : List Lexeme → Type 0
Lexemes [] = ⊤
Lexemes (l ∷ ls) = TextLexeme l × Lexemes ls

one_of : (b : Bool) (x y : Token) → TextToken x → TextToken y → TextToken (cond b x y)
one_of true x y p q = p
one_of false x y p q = q

number_text : (t : List ℕ) (o : Option (List ℕ)) → TextToken (number_before t o)
number_text t None = tt
number_text t (Some r) = one_of (ends_word r) (number (take (length t - length r) t)) bad tt tt

word_text : (t : List ℕ) → TextToken (word t)
unfolding word
word_text t =
    one_of (head t == 116) _ _ (one_of _ (boolean true) bad tt tt) (one_of (head t == 102) _ _ (one_of _ (boolean false) bad tt tt)
    (one_of (head t == 110) _ _ (one_of _ null bad tt tt) (number_text t (after_number t))))

mark : (b : Bool) (x y : Lexeme) → TextLexeme x → TextLexeme y → TextLexeme (cond b x y)
mark true x y p q = p
mark false x y p q = q

marks : (x : ℕ) → TextLexeme (operator_lexeme x)
marks x =
    mark (x == 123) (token begin_object) _ tt
    (mark (x == 125) (token end_object) _ tt
    (mark (x == 91) (token begin_array) _ tt (mark (x == 93) (token end_array) _ tt (mark (x == 44) comma colon tt tt))))

text_of : (o : Option (List ℕ)) → ((s : List ℕ) → o ≡ Some s → IsUtf8 s) → TextToken (string_token o)
text_of None is = tt
text_of (Some s) is = is s refl

-- after each byte of ASCII there is UTF-8
abbrev Suffixes : List ℕ → Type 0
Suffixes [] = ⊤
Suffixes (x ∷ xs) = (x < 128 → IsUtf8 xs) × Suffixes xs

byte : (m : Mode) (c : Class) (x : ℕ) (xs : List ℕ) (k : Mode → List Lexeme) → (c ≡ quote → IsUtf8 xs) → ((n : Mode) → Lexemes (k n))
    → Lexemes (lex_byte m c x xs k)
byte between quote x xs k u h = (text_of (content plain xs) (λ s e. content_utf8 xs s (u refl) e), h in_string)
byte between backslash x xs k u h = (tt, h in_word)
byte between operator x xs k u h = (marks x, h between)
byte between space x xs k u h = h between
byte between other x xs k u h = (word_text (x ∷ xs), h in_word)
byte in_word quote x xs k u h = h in_word
byte in_word backslash x xs k u h = h in_word
byte in_word operator x xs k u h = (marks x, h between)
byte in_word space x xs k u h = h between
byte in_word other x xs k u h = h in_word
byte in_string quote x xs k u h = h between
byte in_string backslash x xs k u h = h in_escape
byte in_string operator x xs k u h = h in_string
byte in_string space x xs k u h = h in_string
byte in_string other x xs k u h = h in_string
byte in_escape c x xs k u h = h in_string

class_quote : (x : ℕ) → class x ≡ quote → x < 128
class_quote x e = at (x == 34) (x == 92) (is_operator x) (is_space x) refl e where
  at : (a b c d : Bool) → (x == 34) ≡ a → cond a quote (cond b backslash (cond c operator (cond d space other))) ≡ quote → x < 128
  at true b c d is e = grind (arith, nat_tests)
  at false true c d is e = absurd cc
  at false false true d is e = absurd cc
  at false false false true is e = absurd cc
  at false false false false is e = absurd cc

lexemes : (xs : List ℕ) → Suffixes xs → (m : Mode) → Lexemes (lex m xs)
unfolding lex
lexemes [] u m = tt
lexemes (x ∷ xs) u m = byte m (class x) x xs (λ n. lex n xs) (λ e. u.0 (class_quote x e)) (lexemes xs u.1)

suffixes_from : (p xs : List ℕ) → IsUtf8 (p ++ xs) → Suffixes xs
suffixes_from p [] u = tt
suffixes_from p (x ∷ xs) u = (
  λ small. (around p x xs u small).1,
  suffixes_from (p ++ x ∷ []) xs
      (subst IsUtf8 (sym (append_assoc p (x ∷ []) xs)) u),
)

allowed : (b : Bool) (t : Token) (k : Place → List Token) (next : Place) → TextToken t → TextTokens (k next)
    → TextTokens (if_allowed b t k next)
allowed true t k next p q = (p, q)
allowed false t k next p q = (tt, tt)

placed : (p : Place) (t : Token) (b : Bool) (k : Place → List Token) → TextToken t → ((n : Place) → TextTokens (k n))
    → TextTokens (place_token p t b k)
placed p begin_object b k q h = allowed (may_begin p) begin_object k fresh q (h fresh)
placed p end_object b k q h = allowed (may_close p) end_object k after_value q (h after_value)
placed p begin_array b k q h = allowed (may_begin p) begin_array k fresh q (h fresh)
placed p end_array b k q h = allowed (may_close p) end_array k after_value q (h after_value)
placed p (key s) b k q h = (tt, tt)
placed p (string s) true k q h = allowed (may_begin p) (key s) k after_key q (h after_key)
placed p (string s) false k q h = allowed (may_begin p) (string s) k after_value q (h after_value)
placed p (number s) b k q h = allowed (may_begin p) (number s) k after_value q (h after_value)
placed p (boolean v) b k q h = allowed (may_begin p) (boolean v) k after_value q (h after_value)
placed p null b k q h = allowed (may_begin p) null k after_value q (h after_value)
placed p bad b k q h = (tt, tt)

punctuated : (ls : List Lexeme) → Lexemes ls → (p : Place) → TextTokens (punctuate p ls)
unfolding punctuate
punctuated [] h fresh = tt
punctuated [] h after_value = tt
punctuated [] h after_comma = (tt, tt)
punctuated [] h after_key = (tt, tt)
punctuated (token t ∷ ls) h p = placed p t (begins_colon ls) (λ n. punctuate n ls) h.0 (punctuated ls h.1)
punctuated (comma ∷ ls) h fresh = (tt, tt)
punctuated (comma ∷ ls) h after_value = punctuated ls h.1 after_comma
punctuated (comma ∷ ls) h after_comma = (tt, tt)
punctuated (comma ∷ ls) h after_key = (tt, tt)
punctuated (colon ∷ ls) h fresh = (tt, tt)
punctuated (colon ∷ ls) h after_value = (tt, tt)
punctuated (colon ∷ ls) h after_comma = (tt, tt)
punctuated (colon ∷ ls) h after_key = punctuated ls h.1 fresh

pub tokens_utf8 : (text : List ℕ) → IsUtf8 text → TextTokens (tokens text)
tokens_utf8 text u = punctuated (lex between text) (lexemes text (suffixes_from [] text u) between) fresh
