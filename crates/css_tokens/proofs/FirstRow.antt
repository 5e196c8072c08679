-- The first code of a text leaves few rows of the table.
use Rattle.std.proofs.Common.{◌≡◌, ℕ, ◌<◌, ◌==◌, Bool, true, false, ◌||◌, not, List, [], ◌∷◌, length, drop, slice_index, Option, Some, None}
use Rattle.std.proofs.Common.{nat_eq, refl, sym, arith}
use Rattle.std.specs.Char.{is_ascii_digit}
use Rattle.std.proofs.lemmas.Bool.Decides.{nat_tests}
use Rattle.css_tokens.specs.declared.token.Piece.{Piece}
use Rattle.css_tokens.specs.declared.rows.First.{First}
use Rattle.css_tokens.specs.declared.rows.First.TheVariants.{Slash, White, Quote, Number, Dash, Name, Back, Pound, Less, At, Other}
use Rattle.css_tokens.specs.First.{TellsFirst}
use Rattle.css_tokens.specs.Codes.{is_newline, begins, is_white, is_quote, is_sign, is_ident_start}
use Rattle.css_tokens.specs.Runs.{number_len, starts_ident}
use Rattle.css_tokens.specs.Rows.{when, open_string_len, ◌or◌, first_piece, comment, white_space, string, bad_string, hash, numeric, cdc}
use Rattle.css_tokens.specs.Rows.{url, bad_url, opens_url, ident, cdo, at_keyword, mark}

three : (a b c d : Option Piece) → (a or b or c or d) ≡ ((a or b or c) or d)
three (Some p) b c d = refl
three None (Some p) c d = refl
three None None c d = refl

five : (a b c d e f : Option Piece) → (a or b or c or d or e or f) ≡ ((a or b or c or d or e) or f)
five (Some p) b c d e f = refl
five None (Some p) c d e f = refl
five None None (Some p) d e f = refl
five None None None (Some p) e f = refl
five None None None None e f = refl

at_slash : (rest : List ℕ) → first_piece (47 ∷ rest) ≡ (comment (47 ∷ rest) or mark (47 ∷ rest))
unfolding first_piece white_space string bad_string hash numeric number_len cdc url bad_url opens_url ident cdo at_keyword
at_slash rest = refl

at_pound : (rest : List ℕ) → first_piece (35 ∷ rest) ≡ (hash (35 ∷ rest) or mark (35 ∷ rest))
unfolding first_piece comment white_space string bad_string numeric number_len cdc url bad_url opens_url ident cdo at_keyword
at_pound rest = refl

at_less : (rest : List ℕ) → first_piece (60 ∷ rest) ≡ (cdo (60 ∷ rest) or mark (60 ∷ rest))
unfolding first_piece comment white_space string bad_string hash numeric number_len cdc url bad_url opens_url ident at_keyword
at_less rest = refl

at_at : (rest : List ℕ) → first_piece (64 ∷ rest) ≡ (at_keyword (64 ∷ rest) or mark (64 ∷ rest))
unfolding first_piece comment white_space string bad_string hash numeric number_len cdc url bad_url opens_url ident cdo
at_at rest = refl

at_back : (rest : List ℕ) → first_piece (92 ∷ rest) ≡ ((url (92 ∷ rest) or bad_url (92 ∷ rest) or ident (92 ∷ rest)) or mark (92 ∷ rest))
unfolding first_piece comment white_space string bad_string hash numeric number_len cdc cdo at_keyword
at_back rest = three (url (92 ∷ rest)) (bad_url (92 ∷ rest)) (ident (92 ∷ rest)) (mark (92 ∷ rest))

at_dash : (rest : List ℕ) → first_piece (45 ∷ rest)
    ≡ ((numeric (45 ∷ rest) or (cdc (45 ∷ rest) or (url (45 ∷ rest) or bad_url (45 ∷ rest) or ident (45 ∷ rest)))) or mark (45 ∷ rest))
unfolding first_piece comment white_space string bad_string hash cdo at_keyword
at_dash rest = five (numeric (45 ∷ rest)) (cdc (45 ∷ rest)) (url (45 ∷ rest)) (bad_url (45 ∷ rest)) (ident (45 ∷ rest)) (mark (45 ∷ rest))

-- where the first code does not fit, a row does not apply
no_comment : (c : ℕ) (rest : List ℕ) → nat_eq 47 c ≡ false → comment (c ∷ rest) ≡ None
unfolding comment
no_comment c rest e = rw e refl

no_white : (c : ℕ) (rest : List ℕ) → is_white c ≡ false → white_space (c ∷ rest) ≡ None
unfolding white_space
no_white c rest e = rw e refl

no_string : (c : ℕ) (rest : List ℕ) → is_quote c ≡ false → string (c ∷ rest) ≡ None
unfolding string
no_string c rest e = rw e refl

no_bad_string : (c : ℕ) (rest : List ℕ) → is_quote c ≡ false → bad_string (c ∷ rest) ≡ None
unfolding bad_string
no_bad_string c rest e = rw e refl

no_hash : (c : ℕ) (rest : List ℕ) → (c == 35) ≡ false → hash (c ∷ rest) ≡ None
unfolding hash
no_hash c rest e = rw e refl

no_numeric : (c : ℕ) (rest : List ℕ) → is_sign c ≡ false → is_ascii_digit c ≡ false → (c == 46) ≡ false → numeric (c ∷ rest) ≡ None
unfolding numeric number_len
no_numeric c rest sign digit dot = rw (sign, digit, dot) refl

no_cdc : (c : ℕ) (rest : List ℕ) → nat_eq 45 c ≡ false → cdc (c ∷ rest) ≡ None
unfolding cdc
no_cdc c rest e = rw e refl

no_url : (c : ℕ) (rest : List ℕ) → starts_ident (c ∷ rest) ≡ false → url (c ∷ rest) ≡ None
unfolding url opens_url
no_url c rest e = rw e refl

no_bad_url : (c : ℕ) (rest : List ℕ) → starts_ident (c ∷ rest) ≡ false → bad_url (c ∷ rest) ≡ None
unfolding bad_url opens_url
no_bad_url c rest e = rw e refl

no_ident : (c : ℕ) (rest : List ℕ) → starts_ident (c ∷ rest) ≡ false → ident (c ∷ rest) ≡ None
unfolding ident
no_ident c rest e = rw e refl

no_cdo : (c : ℕ) (rest : List ℕ) → nat_eq 60 c ≡ false → cdo (c ∷ rest) ≡ None
unfolding cdo
no_cdo c rest e = rw e refl

no_at : (c : ℕ) (rest : List ℕ) → (c == 64) ≡ false → at_keyword (c ∷ rest) ≡ None
unfolding at_keyword
no_at c rest e = rw e refl

no_start : (c : ℕ) (rest : List ℕ) → (c == 45) ≡ false → is_ident_start c ≡ false → (c == 92) ≡ false → starts_ident (c ∷ rest) ≡ false
no_start c rest dash start back = rw (dash, start, back) refl

-- and where it fits well enough, no later row matters
at_white : (c : ℕ) (rest : List ℕ) → is_white c ≡ true → first_piece (c ∷ rest) ≡ white_space (c ∷ rest)
unfolding first_piece white_space
at_white c rest white =
    let e : nat_eq 47 c ≡ false = grind (arith, nat_tests) in
    rw (no_comment c rest e, white) refl

either_string : (a b d : Option Piece) (p : Piece) → (a or b) ≡ Some p → (a or b or d) ≡ (a or b)
either_string (Some q) b d p e = refl
either_string None (Some q) d p e = refl
either_string None None d p e = cc

string_there : (c : ℕ) (rest : List ℕ) → is_quote c ≡ true → (p : Piece) × ((string (c ∷ rest) or bad_string (c ∷ rest)) ≡ Some p)
unfolding string bad_string
string_there c rest quote =
    rw quote
    (by_line (begins is_newline (drop (open_string_len (c ∷ rest)) (c ∷ rest))) _ _)
  where
    by_line : (b : Bool) (p q : Piece) → (r : Piece) × ((when (not b) p or when b q) ≡ Some r)
    by_line true p q = (q, refl)
    by_line false p q = (p, refl)

at_quote : (c : ℕ) (rest : List ℕ) → is_quote c ≡ true → first_piece (c ∷ rest) ≡ (string (c ∷ rest) or bad_string (c ∷ rest))
unfolding first_piece
at_quote c rest quote =
    let e : nat_eq 47 c ≡ false = grind (arith, nat_tests) in
    let w : is_white c ≡ false = grind (arith, nat_tests) in
    let there = string_there c rest quote in
    rw (no_comment c rest e, no_white c rest w)
    (either_string (string (c ∷ rest)) (bad_string (c ∷ rest)) _ there.0 there.1)

at_number : (c : ℕ) (rest : List ℕ) → (is_ascii_digit c || (c == 43 || c == 46)) ≡ true
    → first_piece (c ∷ rest) ≡ (numeric (c ∷ rest) or mark (c ∷ rest))
unfolding first_piece
at_number c rest number =
    let e : nat_eq 47 c ≡ false = grind (arith, nat_tests) in
    let w : is_white c ≡ false = grind (arith, nat_tests) in
    let q : is_quote c ≡ false = grind (arith, nat_tests) in
    let h : (c == 35) ≡ false = grind (arith, nat_tests) in
    let d : nat_eq 45 c ≡ false = grind (arith, nat_tests) in
    let d' : (c == 45) ≡ false = grind (arith, nat_tests) in
    let i : is_ident_start c ≡ false = grind (arith, nat_tests) in
    let b : (c == 92) ≡ false = grind (arith, nat_tests) in
    let l : nat_eq 60 c ≡ false = grind (arith, nat_tests) in
    let a : (c == 64) ≡ false = grind (arith, nat_tests) in
    let s : starts_ident (c ∷ rest) ≡ false = no_start c rest d' i b in
    rw (
      no_comment c rest e,
      no_white c rest w,
      no_string c rest q,
      no_bad_string c rest q,
      no_hash c rest h,
      no_cdc c rest d,
      no_url c
          rest s,
      no_bad_url c rest s,
      no_ident c rest s,
      no_cdo c rest l,
      no_at c rest a,
    ) refl

named_last : (a b c d : Option Piece) (p : Piece) → c ≡ Some p → (a or b or c or d) ≡ (a or b or c)
named_last (Some q) b c d p e = refl
named_last None (Some q) c d p e = refl
named_last None None (Some q) d p e = refl
named_last None None None d p e = cc

ident_there : (text : List ℕ) → starts_ident text ≡ true → (p : Piece) × (ident text ≡ Some p)
unfolding ident
ident_there text starts = rw starts (_, refl)

at_name : (c : ℕ) (rest : List ℕ) → is_ident_start c ≡ true
    → first_piece (c ∷ rest) ≡ (url (c ∷ rest) or bad_url (c ∷ rest) or ident (c ∷ rest))
unfolding first_piece
at_name c rest start =
    let e : nat_eq 47 c ≡ false = grind (arith, nat_tests) in
    let w : is_white c ≡ false = grind (arith, nat_tests) in
    let q : is_quote c ≡ false = grind (arith, nat_tests) in
    let h : (c == 35) ≡ false = grind (arith, nat_tests) in
    let g : is_sign c ≡ false = grind (arith, nat_tests) in
    let n : is_ascii_digit c ≡ false = grind (arith, nat_tests) in
    let p : (c == 46) ≡ false = grind (arith, nat_tests) in
    let d : nat_eq 45 c ≡ false = grind (arith, nat_tests) in
    let d' : (c == 45) ≡ false = grind (arith, nat_tests) in
    let s : starts_ident (c ∷ rest) ≡ true = rw (d', start) refl in
    let there = ident_there (c ∷ rest) s in
    rw (
      no_comment c rest e,
      no_white c rest w,
      no_string c rest q,
      no_bad_string c rest q,
      no_hash c rest h,
      no_numeric c rest g n p,
      no_cdc c rest d,
    )
    (named_last (url (c ∷ rest)) (bad_url (c ∷ rest)) (ident (c ∷ rest)) _ there.0 there.1)

at_other : (c : ℕ) (rest : List ℕ) → TellsFirst Other c → first_piece (c ∷ rest) ≡ mark (c ∷ rest)
unfolding first_piece
at_other c rest other =
    let e : nat_eq 47 c ≡ false = grind (arith, nat_tests) in
    let w : is_white c ≡ false = grind (arith, nat_tests) in
    let q : is_quote c ≡ false = grind (arith, nat_tests) in
    let h : (c == 35) ≡ false = grind (arith, nat_tests) in
    let g : is_sign c ≡ false = grind (arith, nat_tests) in
    let n : is_ascii_digit c ≡ false = grind (arith, nat_tests) in
    let p : (c == 46) ≡ false = grind (arith, nat_tests) in
    let d : nat_eq 45 c ≡ false = grind (arith, nat_tests) in
    let d' : (c == 45) ≡ false = grind (arith, nat_tests) in
    let i : is_ident_start c ≡ false = grind (arith, nat_tests) in
    let b : (c == 92) ≡ false = grind (arith, nat_tests) in
    let l : nat_eq 60 c ≡ false = grind (arith, nat_tests) in
    let a : (c == 64) ≡ false = grind (arith, nat_tests) in
    let s : starts_ident (c ∷ rest) ≡ false = no_start c rest d' i b in
    rw (
      no_comment c rest e,
      no_white c rest w,
      no_string c rest q,
      no_bad_string c rest q,
      no_hash c rest h,
      no_numeric c rest g n p,
      no_cdc c rest d,
      no_url c rest s,
      no_bad_url c rest s,
      no_ident c rest s,
      no_cdo c rest l,
      no_at c rest a,
    ) refl

-- the rows to try, by the class of the first code
abbrev pub tried : First → List ℕ → Option Piece
tried Name text = url text or bad_url text or ident text
tried White text = white_space text
tried Quote text = string text or bad_string text
tried Number text = numeric text or mark text
tried Dash text = (numeric text or (cdc text or (url text or bad_url text or ident text))) or mark text
tried Slash text = comment text or mark text
tried Pound text = hash text or mark text
tried At text = at_keyword text or mark text
tried Back text = (url text or bad_url text or ident text) or mark text
tried Less text = cdo text or mark text
tried Other text = mark text

by_class : (class : First) (c : ℕ) (rest : List ℕ) → TellsFirst class c → tried class (c ∷ rest) ≡ first_piece (c ∷ rest)
by_class Name c rest tells = sym (at_name c rest tells)
by_class White c rest tells = sym (at_white c rest tells)
by_class Quote c rest tells = sym (at_quote c rest tells)
by_class Number c rest tells = sym (at_number c rest tells)
by_class Dash c rest tells = rw tells (sym (at_dash rest))
by_class Slash c rest tells = rw tells (sym (at_slash rest))
by_class Pound c rest tells = rw tells (sym (at_pound rest))
by_class At c rest tells = rw tells (sym (at_at rest))
by_class Back c rest tells = rw tells (sym (at_back rest))
by_class Less c rest tells = rw tells (sym (at_less rest))
by_class Other c rest tells = sym (at_other c rest tells)

pub tried_is_first : (class : First) (text : List ℕ) → 0 < length text → TellsFirst class (slice_index text 0)
    → tried class text ≡ first_piece text
tried_is_first class [] some tells = absurd (omega arith)
tried_is_first class (c ∷ rest) some tells = by_class class c rest tells

pub none_first : (text : List ℕ) → length text < 1 → None ≡ first_piece text
unfolding first_piece comment white_space string bad_string hash numeric number_len cdc url bad_url opens_url ident cdo at_keyword mark
none_first [] none = refl
none_first (c ∷ rest) none = absurd (omega arith)
