-- A name whose value is `url`, letter by letter.
use Rattle.std.proofs.Common.{◌≡◌, ℕ, suc, ◌+◌, ◌<◌, ◌≤◌, ◌==◌, Bool, true, false, cond, ◌&&◌, not, nat_lt, List, [], ◌∷◌, ◌++◌, length}
use Rattle.std.proofs.Common.{drop, take, map, slice_index, refl, ap, sym, ◌∙◌, subst, append_assoc, length-append, lit<, lit≤, arith}
use Rattle.std.specs.Char.{is_ascii_hexdigit, to_ascii_lowercase, encode_utf8}
use Rattle.std.proofs.Math.Seq.{drop-append_seam}
use Rattle.std.proofs.lemmas.List.{append-nil, drop-drop}
use Rattle.std.proofs.lemmas.Str.{char_from_byte, encode_ascii, length-encode, len_utf8_bounds}
use Rattle.std.proofs.Math.ListN.{drop_of_length-le}
use Rattle.std.proofs.lemmas.Bool.Decides.{nat_tests}
use Rattle.css_tokens.specs.Codes.{begins, is_newline, is_white, is_ident, is_ident_start}
use Rattle.css_tokens.specs.Escapes.{escape_len, escape_tail, escape_value, escape_bytes, begins_escape, unescaped, unescaped_after}
use Rattle.css_tokens.specs.Escapes.{hex_len, hex_value, character_of}
use Rattle.css_tokens.specs.Runs.{starts_ident}
use Rattle.css_tokens.specs.Rows.{letter_len, is_url}
use Rattle.css_tokens.specs.Forms.{IsEscape, escape_hex, escape_code, escape_end, IsOneWhite, white_none, white_crlf, white_code, Units}
use Rattle.css_tokens.specs.Forms.{no_units, unit_and, NameUnit, name_code, name_escape}
use Rattle.css_tokens.proofs.Ends.{and_true, not_true}
use Rattle.css_tokens.proofs.EscapeForms.{escape_only}
use Rattle.css_tokens.proofs.Unescaping.{same_code, escape}

-- A name alone is cut into the same units as before what follows it.
begins_alone : (p : ℕ → Bool) (text rest : List ℕ) → begins p (text ++ rest) ≡ false → begins p (text ++ []) ≡ false
begins_alone p [] rest e = refl
begins_alone p (c ∷ text) rest e = e

and_false : (b : Bool) → (b && false) ≡ false
and_false true = refl
and_false false = refl

and_alone : (b : Bool) (p : ℕ → Bool) (text rest : List ℕ) → (b && begins p (text ++ rest)) ≡ false → (b && begins p (text ++ [])) ≡ false
and_alone b p [] rest e = and_false b
and_alone b p (c ∷ text) rest e = e

white_alone : (white others rest after : List ℕ) → after ≡ others ++ rest → IsOneWhite white after → IsOneWhite white (others ++ [])
white_alone white others rest after is (white_none e) = white_none (begins_alone is_white others rest (sym (ap (begins is_white) is) ∙ e))
white_alone white others rest after is white_crlf = white_crlf
white_alone white others rest after is (white_code {c = c} a_white single) =
    white_code a_white (and_alone (c == 13) (λ d. d == 10) others rest
    (sym (ap (λ (x : List ℕ). c == 13 && begins (λ d. d == 10) x) is) ∙ single))

none_behind : (others rest : List ℕ) → [] ≡ others ++ rest → others ≡ []
none_behind [] rest is = refl
none_behind (c ∷ others) rest is = cc

escape_alone : (front others rest after : List ℕ) → after ≡ others ++ rest → IsEscape front after → IsEscape front (others ++ [])
escape_alone front others rest after is (escape_hex digits white whole are one) =
    escape_hex digits white whole
    (record {
      some = are.some;
      at_most_six = are.at_most_six;
      hex = are.hex;
      all = λ less.
          ap (begins is_ascii_hexdigit) (sym (append_assoc white others []))
          ∙ begins_alone is_ascii_hexdigit (white ++ others) rest
          (ap (begins is_ascii_hexdigit) (append_assoc white others rest ∙ ap (λ (x : List ℕ). white ++ x) (sym is)) ∙ are.all less);
    })
    (white_alone white others rest after is one)
escape_alone front others rest after is (escape_code hex newline) = escape_code hex newline
escape_alone front others rest after is escape_end = let none : others ≡ [] = none_behind others rest is in rw none escape_end

-- an escape at the front of a text
escape_here : (text : List ℕ) (n : ℕ) → begins_escape text ≡ true → escape_len text ≡ n
    → (tail : List ℕ) × (text ≡ 92 ∷ tail) × (begins is_newline tail ≡ false) × (1 + escape_tail tail ≡ n)
unfolding escape_len
escape_here [] n begins_it len = cc
escape_here (c ∷ rest) n begins_it len =
    let t = and_true (c == 92) (not (begins is_newline rest)) begins_it in
    let both : (c == 92 && not (begins is_newline rest)) ≡ true = begins_it in
    (rest, ap (λ (x : ℕ). x ∷ rest) (same_code c 92 t.0), not_true _ t.1, rw both at len)

-- letters, in any case
lower : List ℕ → List ℕ
lower text = map to_ascii_lowercase text

low_stays : (c letter : ℕ) → to_ascii_lowercase c ≡ letter → letter < 128 → c < 128
low_stays c letter is low = grind (arith, nat_tests)

first_lower : (text more : List ℕ) (letter : ℕ) → map to_ascii_lowercase text ≡ letter ∷ more
    → (0 < length text) × (to_ascii_lowercase (slice_index text 0) ≡ letter)
first_lower [] more letter e = cc
first_lower (c ∷ text) more letter e = (omega arith, cc)

encoded_letter : (v letter : ℕ) (more says : List ℕ) → letter < 128 → map to_ascii_lowercase (encode_utf8 v ++ more) ≡ letter ∷ says
    → (to_ascii_lowercase v ≡ letter) × (map to_ascii_lowercase more ≡ says)
encoded_letter v letter more says low e =
    let f = first_lower (encode_utf8 v ++ more) says letter e in
    let small : slice_index (encode_utf8 v ++ more) 0 < 128 = low_stays (slice_index (encode_utf8 v ++ more) 0) letter f.1 low in
    let is : v ≡ slice_index (encode_utf8 v ++ more) 0 = char_from_byte (encode_utf8 v ++ more) more v refl small f.0 in
    let one : encode_utf8 v ≡ v ∷ [] = encode_ascii v (omega arith) in
    let here : map to_ascii_lowercase ((v ∷ []) ++ more)
    ≡ letter ∷ says = ap (λ (x : List ℕ). map to_ascii_lowercase (x ++ more)) (sym one) ∙ e in
    (cc, cc)

pub bytes_letter : (tail : List ℕ) (letter : ℕ) (more says : List ℕ) → letter < 128
    → map to_ascii_lowercase (escape_bytes tail ++ more) ≡ letter ∷ says
    → (to_ascii_lowercase (escape_value tail) ≡ letter) × (map to_ascii_lowercase more ≡ says)
unfolding escape_bytes escape_value
bytes_letter [] letter more says low e = encoded_letter 0xFFFD letter more says low e
bytes_letter (c ∷ rest) letter more says low e =
    let v = character_of (hex_value (take (hex_len (c ∷ rest)) (c ∷ rest))) in
    elim (is_ascii_hexdigit c) as (λ b. map to_ascii_lowercase (cond b (encode_utf8 (cond b v c)) (c ∷ []) ++ more) ≡ letter ∷ says
    → (to_ascii_lowercase (cond b v c) ≡ letter) × (map to_ascii_lowercase more ≡ says)) [
      | true ↦ λ e. encoded_letter v letter more says low e
      | false ↦ λ e. (cc, cc)
    ] e

small_letter : (c letter : ℕ) → to_ascii_lowercase c ≡ letter → letter < 123 → c < 128
small_letter c letter is low = grind (arith, nat_tests)

pub letter_bytes : (tail : List ℕ) (letter : ℕ) (more : List ℕ) → letter < 123 → to_ascii_lowercase (escape_value tail) ≡ letter
    → map to_ascii_lowercase (escape_bytes tail ++ more) ≡ letter ∷ map to_ascii_lowercase more
unfolding escape_bytes escape_value
letter_bytes [] letter more low is = absurd (omega (arith, small_letter 0xFFFD letter is low))
letter_bytes (c ∷ rest) letter more low is =
    let v = character_of (hex_value (take (hex_len (c ∷ rest)) (c ∷ rest))) in
    elim (is_ascii_hexdigit c) as (λ b. to_ascii_lowercase (cond b v c) ≡ letter
    → map to_ascii_lowercase (cond b (encode_utf8 (cond b v c)) (c ∷ []) ++ more) ≡ letter ∷ map to_ascii_lowercase more) [
      | true ↦ λ is. let one : encode_utf8 v
          ≡ v ∷ [] = encode_ascii v (small_letter v letter is low) in rw one (ap (λ (x : ℕ). x ∷ map to_ascii_lowercase more) is)
      | false ↦ λ is. ap (λ (x : ℕ). x ∷ map to_ascii_lowercase more) is
    ] is

-- a text that says a letter first has that letter at its front
pub record StartsWithLetter (letter : ℕ) (name others : List ℕ) : Type 0 where
  pub some : 0 < letter_len letter name
  pub size : length name ≡ letter_len letter name + length others
  pub past : drop (letter_len letter name) name ≡ others

same_true : (a b : ℕ) → a ≡ b → (a == b) ≡ true
same_true a b e = grind (arith, nat_tests)

ident_no_back : (c : ℕ) → is_ident c ≡ true → (c == 92) ≡ false
ident_no_back c ident = grind (arith, nat_tests)

pub plain_says : (c : ℕ) (rest : List ℕ) → (c == 92) ≡ false → unescaped (c ∷ rest) ≡ c ∷ unescaped rest
unfolding unescaped_after
plain_says c rest other = rw other refl

letter_by_code : (letter c : ℕ) (others says : List ℕ) → is_ident c ≡ true
    → map to_ascii_lowercase (unescaped (c ∷ others)) ≡ letter ∷ says
    → StartsWithLetter letter (c ∷ others) others × (map to_ascii_lowercase (unescaped others) ≡ says)
letter_by_code letter c others says ident e =
    let other : (c == 92) ≡ false = ident_no_back c ident in
    let here : map to_ascii_lowercase (c ∷ unescaped others)
    ≡ letter ∷ says = ap (map to_ascii_lowercase) (sym (plain_says c others other)) ∙ e in
    let first : to_ascii_lowercase c ≡ letter = cc in
    let is : (to_ascii_lowercase c == letter) ≡ true = same_true _ _ first in
    let len : letter_len letter (c ∷ others) ≡ 1 = rw (other, is) refl in
    (record { some = omega (arith, len); size = omega (arith, len); past = ap (λ (n : ℕ). drop n (c ∷ others)) len }, cc)

letter_by_escape : (letter : ℕ) (front others says : List ℕ) → letter < 128 → begins_escape (front ++ others) ≡ true
    → escape_len (front ++ others) ≡ length front → map to_ascii_lowercase (unescaped (front ++ others)) ≡ letter ∷ says
    → StartsWithLetter letter (front ++ others) others × (map to_ascii_lowercase (unescaped others) ≡ says)
letter_by_escape letter front others says low begins_it len e =
    let h = escape_here (front ++ others) (length front) begins_it len in
    let tail = h.0 in
    let past : drop (1 + escape_tail tail) (front ++ others)
    ≡ others = ap (λ (n : ℕ). drop n (front ++ others)) h.3 ∙ drop-append_seam front others in
    let one : 1 + escape_tail tail ≡ suc (escape_tail tail) = omega arith in
    let behind : drop (escape_tail tail) tail
    ≡ others = sym (ap (λ (x : List ℕ). drop (1 + escape_tail tail) x) h.1 ∙ ap (λ (n : ℕ). drop n (92 ∷ tail)) one) ∙ past in
    let says_it : unescaped (front ++ others)
    ≡ escape_bytes tail ++ unescaped others = ap unescaped h.1 ∙ escape tail h.2 ∙ ap
    (λ (x : List ℕ). escape_bytes tail ++ unescaped x) behind in
    let b = bytes_letter tail letter (unescaped others) says low (ap (map to_ascii_lowercase) (sym says_it) ∙ e) in
    let is : (to_ascii_lowercase (escape_value tail) == letter) ≡ true = same_true _ _ b.0 in
    let here : letter_len letter (92 ∷ tail) ≡ 1 + escape_tail tail = rw is refl in
    let size : letter_len letter (front ++ others) ≡ 1 + escape_tail tail = ap (letter_len letter) h.1 ∙ here in (
      record {
        some = omega (arith, size);
        size = omega (arith, size, h.3, length-append front others);
        past = ap (λ (n : ℕ). drop n (front ++ others)) size ∙ past;
      },
      b.1,
    )

-- the same escape before nothing else
alone : (u us rest after : List ℕ) → after ≡ us ++ rest → IsEscape u after
    → (begins_escape (u ++ us) ≡ true) × (escape_len (u ++ us) ≡ length u)
alone u us rest after is e =
    let h = escape_only u (us ++ []) (escape_alone u us rest after is e) in (
      sym (ap (λ (x : List ℕ). begins_escape (u ++ x)) (append-nil us)) ∙ h.begins,
      sym
          (ap (λ (x : List ℕ). escape_len (u ++ x)) (append-nil us)) ∙ h.len,
    )

unit_letter : (letter : ℕ) (u us rest after says : List ℕ) → letter < 128 → after ≡ us ++ rest → NameUnit u after
    → map to_ascii_lowercase (unescaped (u ++ us)) ≡ letter ∷ says
    → StartsWithLetter letter (u ++ us) us × (map to_ascii_lowercase (unescaped us) ≡ says)
unit_letter letter u us rest after says low is (name_code {c = c} ident) e = letter_by_code letter c us says ident e
unit_letter letter u us rest after says low is (name_escape escape) e =
    let h = alone u us rest after is escape in
    letter_by_escape letter u us says low h.0 h.1 e

letter_first : (letter : ℕ) (name rest says : List ℕ) → letter < 128 → Units NameUnit name rest
    → map to_ascii_lowercase (unescaped name) ≡ letter ∷ says
    → (others : List ℕ) × StartsWithLetter letter name others × Units NameUnit others rest
    × (map to_ascii_lowercase (unescaped others) ≡ says)
unfolding unescaped_after
letter_first letter name rest says low (no_units) e = cc
letter_first letter name rest says low (unit_and {first = u} {others = us} whole first more) e =
    let h = unit_letter letter u us rest _ says low refl first
    (ap (λ (x : List ℕ). map to_ascii_lowercase (unescaped x)) (sym whole) ∙ e) in
    (us, subst (λ (x : List ℕ). StartsWithLetter letter x us) (sym whole) h.0, more, h.1)

bytes_some : (tail : List ℕ) → 0 < length (escape_bytes tail)
unfolding escape_bytes
bytes_some [] = let n = len_utf8_bounds 0xFFFD in omega (arith, length-encode 0xFFFD)
bytes_some (c ∷ rest) =
    elim (is_ascii_hexdigit c) as (λ b. 0 < length (cond b (encode_utf8 (escape_value (c ∷ rest))) (c ∷ []))) [
      | true ↦ let n = len_utf8_bounds (escape_value (c ∷ rest)) in omega (arith, length-encode (escape_value (c ∷ rest)))
      | false ↦ lit< tt
    ]

map_none : (text : List ℕ) → map to_ascii_lowercase text ≡ [] → length text ≡ 0
map_none [] e = refl
map_none (c ∷ text) e = cc

unit_says : (u us rest after : List ℕ) → after ≡ us ++ rest → NameUnit u after → 0 < length (unescaped (u ++ us))
unit_says u us rest after is (name_code {c = c} ident) = omega (arith, ap length (plain_says c us (ident_no_back c ident)))
unit_says u us rest after is (name_escape e) =
    let h = alone u us rest after is e in
    let t = escape_here (u ++ us) (length u) h.0 h.1 in
    omega (
      arith,
      ap length (ap unescaped t.1 ∙ escape t.0 t.2),
      length-append (escape_bytes t.0)
          (unescaped (drop (escape_tail t.0) t.0)),
      bytes_some t.0,
    )

said_none : (name rest : List ℕ) → Units NameUnit name rest → map to_ascii_lowercase (unescaped name) ≡ [] → name ≡ []
said_none name rest (no_units) e = refl
said_none name rest (unit_and {first = u} {others = us} whole first more) e =
    absurd (omega (
      arith,
      unit_says u us rest _ refl first,
      map_none (unescaped (u ++ us))
          (ap (λ (x : List ℕ). map to_ascii_lowercase (unescaped x)) (sym whole) ∙ e),
    ))

true_lt : (a b : ℕ) → a < b → nat_lt a b ≡ true
true_lt a b e = grind (arith, nat_tests)

lt_true : (a b : ℕ) → nat_lt a b ≡ true → a < b
lt_true a b e = grind (arith, nat_tests)

-- a name whose value is `url` is one of three letters
pub url_is : (name rest : List ℕ) → Units NameUnit name rest → map to_ascii_lowercase (unescaped name) ≡ 117 ∷ 114 ∷ 108 ∷ []
    → is_url name ≡ true
unfolding is_url
url_is name rest units e =
    let a = letter_first 117 name rest (114 ∷ 108 ∷ []) (lit< tt) units e in
    let b = letter_first 114 a.0 rest (108 ∷ []) (lit< tt) a.2 a.3 in
    let c = letter_first 108 b.0 rest [] (lit< tt) b.2 b.3 in
    let none : c.0 ≡ [] = said_none c.0 rest c.2 c.3 in
    let u = letter_len 117 name in
    let r : letter_len 114 (drop u name) ≡ letter_len 114 a.0 = ap (letter_len 114) a.1.past in
    let two : drop (u + letter_len 114 (drop u name)) name
    ≡ b.0 = sym (drop-drop (letter_len 114 (drop u name)) u name) ∙ ap (drop (letter_len 114 (drop u name))) a.1.past ∙ ap
    (λ (n : ℕ). drop n a.0) r ∙ b.1.past in
    let l : letter_len 108 (drop (u + letter_len 114 (drop u name)) name) ≡ letter_len 108 b.0 = ap (letter_len 108) two in
    let t1 : nat_lt 0 (letter_len 117 name) ≡ true = true_lt _ _ a.1.some in
    let t2 : nat_lt 0 (letter_len 114 (drop u name)) ≡ true = true_lt _ _ (omega (arith, r, b.1.some)) in
    let t3 : nat_lt 0 (letter_len 108 (drop (u + letter_len 114 (drop u name)) name)) ≡ true = true_lt _ _ (omega (arith, l, c.1.some)) in
    let t4 : (u + letter_len 114 (drop u name) + letter_len 108 (drop (u + letter_len 114 (drop u name)) name) == length name) ≡ true =
    same_true _ _ (omega (arith, r, l, a.1.size, b.1.size, c.1.size, ap length none)) in
    by_four _ _ _ _ t1 t2 t3 t4
  where
    by_four : (a b c d : Bool) → a ≡ true → b ≡ true → c ≡ true → d ≡ true → ((a && b) && (c && d)) ≡ true
    by_four true true true true e f g h = refl
    by_four false b c d e f g h = cc
    by_four true false c d e f g h = cc
    by_four true true false d e f g h = cc
    by_four true true true false e f g h = cc

-- and such letters say `url`
newline_stays : (c letter : ℕ) → to_ascii_lowercase c ≡ letter → 97 ≤ letter → letter < 123 → is_newline c ≡ false
newline_stays c letter is from to = grind (arith, nat_tests)

newline_no_hex : (c : ℕ) → is_newline c ≡ true → is_ascii_hexdigit c ≡ false
newline_no_hex c newline = grind (arith, nat_tests)

value_no_line : (tail : List ℕ) (letter : ℕ) → to_ascii_lowercase (escape_value tail) ≡ letter → 97 ≤ letter → letter < 123
    → begins is_newline tail ≡ false
unfolding escape_value
value_no_line [] letter is from to = refl
value_no_line (c ∷ rest) letter is from to =
    elim (is_newline c) as (λ b. is_newline c ≡ b → b ≡ false) [
      | true ↦ λ newline.
          let hex : is_ascii_hexdigit c ≡ false = newline_no_hex c newline in
          let plain : to_ascii_lowercase c ≡ letter = rw hex at is in
          let none : is_newline c ≡ false = newline_stays c letter plain from to in
          cc
      | false ↦ λ _. refl
    ] refl

letter_says : (letter : ℕ) (text : List ℕ) → 97 ≤ letter → letter < 123 → 0 < letter_len letter text
    → map to_ascii_lowercase (unescaped text) ≡ letter ∷ map to_ascii_lowercase (unescaped (drop (letter_len letter text) text))
letter_says letter [] from to some = absurd (omega arith)
letter_says letter (c ∷ rest) from to some =
    elim (c == 92) as (λ b. (c == 92) ≡ b
    → 0 < cond b (cond (to_ascii_lowercase (escape_value rest) == letter) (1 + escape_tail rest) 0)
    (cond (to_ascii_lowercase c == letter) 1 0)
    → map to_ascii_lowercase (unescaped (c ∷ rest))
    ≡ letter ∷ map to_ascii_lowercase
    (unescaped (drop (cond b (cond (to_ascii_lowercase (escape_value rest) == letter) (1 + escape_tail rest) 0)
    (cond (to_ascii_lowercase c == letter) 1 0)) (c ∷ rest)))) [
      | true ↦ λ back some. elim (to_ascii_lowercase (escape_value rest) == letter) as
          (λ b. (to_ascii_lowercase (escape_value rest) == letter) ≡ b → 0 < cond b (1 + escape_tail rest) 0
          → map to_ascii_lowercase (unescaped (c ∷ rest))
          ≡ letter ∷ map to_ascii_lowercase (unescaped (drop (cond b (1 + escape_tail rest) 0) (c ∷ rest)))) [
            | true ↦ λ is _.
                let same : to_ascii_lowercase (escape_value rest) ≡ letter = same_code _ _ is in
                let one : 1 + escape_tail rest ≡ suc (escape_tail rest) = omega arith in
                let first : c ≡ 92 = same_code c 92 back in
                rw (one, first) (ap (map to_ascii_lowercase)
                (escape rest (value_no_line rest letter same from to)) ∙ letter_bytes rest letter
                (unescaped (drop (escape_tail rest) rest)) to same)
            | false ↦ λ _ none. absurd (omega arith)
          ] refl some
      | false ↦ λ other some. elim (to_ascii_lowercase c == letter) as
          (λ b. (to_ascii_lowercase c == letter) ≡ b → 0 < cond b 1 0
          → map to_ascii_lowercase (unescaped (c ∷ rest)) ≡ letter ∷ map to_ascii_lowercase (unescaped (drop (cond b 1 0) (c ∷ rest)))) [
            | true ↦ λ is _. ap (map to_ascii_lowercase) (plain_says c rest other) ∙ ap
                (λ (x : ℕ). x ∷ map to_ascii_lowercase (unescaped rest)) (same_code _ _ is)
            | false ↦ λ _ none. absurd (omega arith)
          ] refl some
    ] refl some

pub says_url : (name : List ℕ) → is_url name ≡ true → map to_ascii_lowercase (unescaped name) ≡ 117 ∷ 114 ∷ 108 ∷ []
unfolding is_url unescaped_after
says_url name url =
    let u = letter_len 117 name in
    let r = letter_len 114 (drop u name) in
    let l = letter_len 108 (drop (u + r) name) in
    let t = and_true (nat_lt 0 u && nat_lt 0 r) (nat_lt 0 l && u + r + l == length name) url in
    let t1 = and_true (nat_lt 0 u) (nat_lt 0 r) t.0 in
    let t2 = and_true (nat_lt 0 l) (u + r + l == length name) t.1 in
    let first = letter_says 117 name (lit≤ tt) (lit< tt) (lt_true _ _ t1.0) in
    let second = letter_says 114 (drop u name) (lit≤ tt) (lit< tt) (lt_true _ _ t1.1) in
    let two : drop r (drop u name) ≡ drop (u + r) name = drop-drop r u name in
    let third = letter_says 108 (drop (u + r) name) (lit≤ tt) (lit< tt) (lt_true _ _ t2.0) in
    let all : drop l (drop (u + r) name) ≡ [] = drop-drop l (u + r) name ∙ drop_of_length-le name (omega (arith, same_code _ _ t2.1)) in
    first ∙ ap (λ (x : List ℕ). 117 ∷ x)
    (second ∙ ap (λ (x : List ℕ). 114 ∷ map to_ascii_lowercase (unescaped x)) two ∙ ap (λ (x : List ℕ). 114 ∷ x)
    (third ∙ ap (λ (x : List ℕ). 108 ∷ map to_ascii_lowercase (unescaped x)) all))

-- a name that begins with the letter u starts an ident
u_starts : (c : ℕ) → to_ascii_lowercase c ≡ 117 → is_ident_start c ≡ true
u_starts c is = grind (arith, nat_tests)

u_no_dash : (c : ℕ) → to_ascii_lowercase c ≡ 117 → (c == 45) ≡ false
u_no_dash c is = grind (arith, nat_tests)

back_starts : (c : ℕ) (rest more : List ℕ) → (c == 92) ≡ true → to_ascii_lowercase (escape_value rest) ≡ 117
    → starts_ident (c ∷ (rest ++ more)) ≡ true
unfolding escape_value
back_starts c [] more back is = absurd (omega (arith, is))
back_starts c (d ∷ rest) more back is =
    let first : c ≡ 92 = same_code c 92 back in
    let line : is_newline d ≡ false = value_no_line (d ∷ rest) 117 is (lit≤ tt) (lit< tt) in
    rw (first, line) refl

letter_starts : (name more : List ℕ) → 0 < letter_len 117 name → starts_ident (name ++ more) ≡ true
letter_starts [] more some = absurd (omega arith)
letter_starts (c ∷ rest) more some =
    elim (c == 92) as (λ b. (c == 92) ≡ b
    → 0 < cond b (cond (to_ascii_lowercase (escape_value rest) == 117) (1 + escape_tail rest) 0)
    (cond (to_ascii_lowercase c == 117) 1 0) → starts_ident (c ∷ (rest ++ more)) ≡ true) [
      | true ↦ λ back some. elim (to_ascii_lowercase (escape_value rest) == 117) as
          (λ b. (to_ascii_lowercase (escape_value rest) == 117) ≡ b → 0 < cond b (1 + escape_tail rest) 0
          → starts_ident (c ∷ (rest ++ more)) ≡ true) [
            | true ↦ λ is _. back_starts c rest more back (same_code _ _ is)
            | false ↦ λ _ none. absurd (omega arith)
          ] refl some
      | false ↦ λ other some. elim (to_ascii_lowercase c == 117) as
          (λ b. (to_ascii_lowercase c == 117) ≡ b → 0 < cond b 1 0 → starts_ident (c ∷ (rest ++ more)) ≡ true) [
            | true ↦ λ is _.
                let start : is_ident_start c ≡ true = u_starts c (same_code _ _ is) in
                let dash : (c == 45) ≡ false = u_no_dash c (same_code _ _ is) in
                rw (dash, start) refl
            | false ↦ λ _ none. absurd (omega arith)
          ] refl some
    ] refl some

pub url_starts : (name more : List ℕ) → is_url name ≡ true → starts_ident (name ++ more) ≡ true
unfolding is_url
url_starts name more url =
    let u = letter_len 117 name in
    let t = and_true (nat_lt 0 u && nat_lt 0 (letter_len 114 (drop u name))) _ url in
    letter_starts name more (lt_true 0 u (and_true (nat_lt 0 u) _ t.0).0)
