-- Where pieces end: beside an ASCII code, so that the text may be cut there.
use Rattle.std.proofs.Common.{◌≡◌, ◌⊎◌, inl, inr, ℕ, zero, suc, ◌+◌, ◌-◌, ◌<◌, ◌≤◌, ◌==◌, Bool, true, false, cond, ◌||◌, ◌&&◌, not, List}
use Rattle.std.proofs.Common.{[], ◌∷◌, length, drop, slice_index, Option, Some, None, min, nat_eq, nat_lt, refl, ap, sym, ◌∙◌, subst, lit<}
use Rattle.std.proofs.Common.{arith}
use Rattle.std.specs.List.{starts_with}
use Rattle.std.proofs.lemmas.List.{drop-drop, length-drop, get_or-drop, get_or_past}
use Rattle.std.proofs.lemmas.List.Sums.{prefix_len_passes}
use Rattle.std.proofs.lemmas.Bool.Decides.{nat_tests}
use Rattle.css_tokens.specs.declared.token.Piece.{Piece}
use Rattle.css_tokens.specs.declared.token.TokenKind.{TokenKind}
use Rattle.css_tokens.specs.declared.token.TokenKind.TheVariants.{Comment, WhiteSpace, BadString, Number, Percentage, Dimension, Cdc, Cdo}
use Rattle.css_tokens.specs.declared.token.TokenKind.TheVariants.{Ident, Url, BadUrl, Str, Hash, Function, AtKeyword, Colon, Semicolon}
use Rattle.css_tokens.specs.declared.token.TokenKind.TheVariants.{Comma, OpenSquare, CloseSquare, OpenRound, CloseRound, OpenCurly}
use Rattle.css_tokens.specs.declared.token.TokenKind.TheVariants.{CloseCurly, Delim}
use Rattle.css_tokens.specs.Marks.{HasMarks}
use Rattle.css_tokens.specs.Codes.{begins, is_ident, is_ident_start, is_newline, is_quote, is_white}
use Rattle.css_tokens.specs.Escapes.{begins_escape, escape_len}
use Rattle.css_tokens.specs.Runs.{run, run_after, unit_then, name_unit, comment_unit, string_unit, bad_url_unit, name_len, starts_ident}
use Rattle.css_tokens.specs.Runs.{white_run, number_len}
use Rattle.css_tokens.proofs.Named.{name_some}
use Rattle.css_tokens.specs.Rows.{up_to_and_with, ◌or◌, when, piece, open_string_len, open_url_len, opens_url, closes_url, first_piece}
use Rattle.css_tokens.specs.Rows.{comment, white_space, string, bad_string, hash, numeric, cdc, url, bad_url, ident, cdo, at_keyword, mark}
use Rattle.css_tokens.specs.Rows.{mark_kind}

-- a code beside the place is ASCII; past the text's end the code is 0
abbrev pub IsBesideAscii : List ℕ → ℕ → Type 0
IsBesideAscii text n = (slice_index text n < 128) ⊎ (slice_index text (n - 1) < 128)

-- no unit begins where a run ends
run_after_stops : (unit : List ℕ → ℕ) → unit [] ≡ 0 → (skip : ℕ) (text : List ℕ) → unit (drop (run_after unit skip text) text) ≡ 0
unfolding run_after
run_after_stops unit at_end skip [] = at_end
run_after_stops unit at_end (suc skip) (c ∷ rest) = run_after_stops unit at_end skip rest
run_after_stops unit at_end zero (c ∷ rest) =
    elim (unit (c ∷ rest)) as (λ n. unit (c ∷ rest) ≡ n → unit (drop (unit_then n (λ skip. run_after unit skip rest)) (c ∷ rest)) ≡ 0) [
      | zero ↦ λ is. is
      | suc n ↦ λ is. run_after_stops unit at_end n rest
    ] refl

pub run_stops : (unit : List ℕ → ℕ) → unit [] ≡ 0 → (text : List ℕ) → unit (drop (run unit text) text) ≡ 0
run_stops unit at_end text = run_after_stops unit at_end 0 text

-- the same for a run that begins at a place
run_stops_at : (unit : List ℕ → ℕ) → unit [] ≡ 0 → (text : List ℕ) (at : ℕ) → unit (drop (at + run unit (drop at text)) text) ≡ 0
run_stops_at unit at_end text at = ap unit (sym (drop-drop (run unit (drop at text)) at text)) ∙ run_stops unit at_end (drop at text)

pub first_of_rest : (text : List ℕ) (n : ℕ) → slice_index (drop n text) 0 ≡ slice_index text n
first_of_rest text n = get_or-drop n text 0 0 ∙ ap (slice_index text) (omega arith)

next_low : (text : List ℕ) (n : ℕ) → slice_index (drop n text) 0 < 128 → IsBesideAscii text n
next_low text n low = inl (omega (arith, first_of_rest text n))

-- a piece that a mark at m closes, or the text's end
closed_low : (text : List ℕ) (m : ℕ) → slice_index (drop m text) 0 < 128 → IsBesideAscii text (min (m + 1) (length text))
closed_low text m low =
    elim (cases m (length text)) [
      | inl more ↦ let is : min (m + 1) (length text) - 1 ≡ m = omega arith in inr (rw is (omega (arith, first_of_rest text m)))
      | inr past ↦ let is : min (m + 1) (length text)
          ≡ length text = omega arith in inl (rw is (rw (get_or_past text (length text) 0 (omega arith)) (lit< tt)))
    ]
  where
    cases : (a b : ℕ) → (a < b) ⊎ (b ≤ a)
    cases a b = grind arith

-- what ends each run is ASCII
ident_low : (c : ℕ) → is_ident c ≡ false → c < 128
ident_low c no_ident = grind (arith, nat_tests)

name_low : (rest : List ℕ) → name_unit rest ≡ 0 → slice_index rest 0 < 128
name_low [] none = lit< tt
name_low (c ∷ rest) none = ident_low c (by_unit (is_ident c) (escape_len (c ∷ rest)) none)
  where
    by_unit : (b : Bool) (n : ℕ) → cond b 1 n ≡ 0 → b ≡ false
    by_unit true n e = absurd (omega arith)
    by_unit false n e = refl

name_end_low : (text : List ℕ) (at : ℕ) → IsBesideAscii text (at + name_len (drop at text))
name_end_low text at = next_low text (at + name_len (drop at text))
    (name_low (drop (at + name_len (drop at text)) text) (run_stops_at name_unit refl text at))

start_low : (rest : List ℕ) → starts_ident rest ≡ false → slice_index rest 0 < 128
start_low [] none = lit< tt
start_low (c ∷ rest) none = start_code_low c (by_dash (c == 45) (is_ident_start c) (begins_escape (c ∷ rest)) _ none)
  where
    by_dash : (dash start escape next : Bool) → cond dash next (start || escape) ≡ false → (dash ≡ true) ⊎ (start ≡ false)
    by_dash true start escape next e = inl refl
    by_dash false true escape next e = cc
    by_dash false false escape next e = inr refl

    start_code_low : (c : ℕ) → ((c == 45) ≡ true) ⊎ (is_ident_start c ≡ false) → c < 128
    start_code_low c (inl dash) = grind (arith, nat_tests)
    start_code_low c (inr start) = grind (arith, nat_tests)

quote_low : (c : ℕ) → is_quote c ≡ true → c < 128
quote_low c quote = grind (arith, nat_tests)

newline_low : (c : ℕ) → is_newline c ≡ true → c < 128
newline_low c newline = grind (arith, nat_tests)

white_low : (c : ℕ) → is_white c ≡ true → c < 128
white_low c white = grind (arith, nat_tests)

begins_low : (p : ℕ → Bool) → ((c : ℕ) → p c ≡ true → c < 128) → (rest : List ℕ) → begins p rest ≡ true → slice_index rest 0 < 128
begins_low p low [] there = lit< tt
begins_low p low (c ∷ rest) there = low c there

-- the tests of the rows
pub and_true : (a b : Bool) → (a && b) ≡ true → (a ≡ true) × (b ≡ true)
and_true true b e = (refl, e)
and_true false b e = cc

pub not_true : (a : Bool) → not a ≡ true → a ≡ false
not_true true e = cc
not_true false e = refl

pub when_some : (test : Bool) (q p : Piece) → when test q ≡ Some p → (test ≡ true) × (q ≡ p)
when_some true q p e = (refl, cc)
when_some false q p e = cc

begins_is : (m : ℕ) (text : List ℕ) → begins (λ c. c == m) text ≡ true → (slice_index text 0 ≡ m) × (0 < length text)
begins_is m [] e = cc
begins_is m (c ∷ rest) e = (grind (arith, nat_tests), omega arith)

-- what is shown of the piece that a text begins with
pub record IsWhole (text : List ℕ) (p : Piece) : Type 0 where
  pub beside : IsBesideAscii text p.len
  pub marks : HasMarks p.kind text 0 p.len

-- a row's pieces are whole
abbrev AreWhole : (List ℕ → Option Piece) → Type 0
AreWhole row = (text : List ℕ) (p : Piece) → row text ≡ Some p → IsWhole text p

comment_low : (rest : List ℕ) → comment_unit rest ≡ 0 → (rest ≡ []) ⊎ ((slice_index rest 1 ≡ 47) × (2 ≤ length rest))
comment_low [] none = inl refl
comment_low (c ∷ []) none = absurd (by_star (c == 42) none)
  where
    by_star : (b : Bool) → ◌≡◌ {A = ℕ} (cond (b && false) 0 1) 0 → ⊥
    by_star true e = omega arith
    by_star false e = omega arith
comment_low (c ∷ d ∷ rest) none = inr (by_slash d (by_both (c == 42) (d == 47) none), omega arith)
  where
    by_both : (a b : Bool) → ◌≡◌ {A = ℕ} (cond (a && b) 0 1) 0 → b ≡ true
    by_both true true e = refl
    by_both true false e = absurd (omega arith)
    by_both false b e = absurd (omega arith)

    by_slash : (d : ℕ) → (d == 47) ≡ true → d ≡ 47
    by_slash d e = grind (arith, nat_tests)

past_low : (text : List ℕ) (n : ℕ) → length text ≤ n → slice_index text n < 128
past_low text n past = rw (get_or_past text n 0 past) (lit< tt)

two_closed_low : (text : List ℕ) (m : ℕ) → (drop m text ≡ []) ⊎ ((slice_index (drop m text) 1 ≡ 47) × (2 ≤ length (drop m text)))
    → IsBesideAscii text (min (m + 2) (length text))
two_closed_low text m (inl none) =
    let all : length (drop m text) ≡ 0 = ap length none in
    let is : min (m + 2) (length text) ≡ length text = omega (arith, length-drop m text) in
    inl (rw is (past_low text (length text) (omega arith)))
two_closed_low text m (inr slash) =
    let is : min (m + 2) (length text) - 1 ≡ m + 1 = omega (arith, length-drop m text, slash.1) in
    inr (rw is (omega (arith, get_or-drop m text 1 0, slash.0)))

comment_whole : AreWhole comment
unfolding comment
comment_whole text p found =
    let m = 2 + run comment_unit (drop 2 text) in
    let h = when_some (starts_with nat_eq text (47 ∷ 42 ∷ [])) (piece Comment (up_to_and_with m 2 text)) p found in
    subst (IsWhole text) h.1
    (record { beside = two_closed_low text m (comment_low (drop m text) (run_stops_at comment_unit refl text 2)); marks = tt })

white_some : (text : List ℕ) → begins is_white text ≡ true → 0 < white_run text
white_some [] white = cc
white_some (c ∷ rest) white = rw white (omega arith)

white_whole : AreWhole white_space
unfolding white_space
white_whole text p found =
    let h = when_some (begins is_white text) (piece WhiteSpace (white_run text)) p found in
    let some = white_some text h.0 in
    subst (IsWhole text) h.1
    (record { beside = inr (white_low _ (prefix_len_passes is_white text (white_run text - 1) 0 (omega arith))); marks = tt })

hash_whole : AreWhole hash
unfolding hash
hash_whole text p found =
    let h = when_some (begins (λ c. c == 35) text && nat_lt 0 (name_len (drop 1 text)))
    (piece (Hash (starts_ident (drop 1 text))) (1 + name_len (drop 1 text))) p found in
    let t = and_true (begins (λ c. c == 35) text) _ h.0 in
    let first = begins_is 35 text t.0 in
    let some : 0 < name_len (drop 1 text) = lt_true _ _ t.1 in
    subst (IsWhole text) h.1
    (record { beside = name_end_low text 1; marks = record { is = first.0; some = omega arith } })
  where
    lt_true : (a b : ℕ) → nat_lt a b ≡ true → a < b
    lt_true a b e = grind (arith, nat_tests)

at_keyword_whole : AreWhole at_keyword
unfolding at_keyword
at_keyword_whole text p found =
    let h = when_some (begins (λ c. c == 64) text && starts_ident (drop 1 text)) (piece AtKeyword (1 + name_len (drop 1 text))) p found in
    let t = and_true (begins (λ c. c == 64) text) _ h.0 in
    let first = begins_is 64 text t.0 in
    let some : 0 < name_len (drop 1 text) = name_some (drop 1 text) t.1 in
    subst (IsWhole text) h.1
    (record { beside = name_end_low text 1; marks = record { is = first.0; some = omega arith } })

pub string_stops : (quote : ℕ) (rest : List ℕ) → string_unit quote rest ≡ 0 → begins is_newline rest ≡ false
    → (rest ≡ []) ⊎ ((slice_index rest 0 ≡ quote) × (0 < length rest))
unfolding escape_len
string_stops quote [] none no_line = inl refl
string_stops quote (c ∷ rest) none no_line =
    inr (same c quote (by_tests (c == quote) (is_newline c) (c == 92) (begins is_newline rest) _ _ none no_line), omega arith)
  where
    by_tests : (quote newline back line : Bool) (m n : ℕ)
        → cond (quote || newline) 0 (cond back (cond line (1 + m) (cond (back && not line) (1 + n) 0)) 1) ≡ 0 → newline ≡ false
        → quote ≡ true
    by_tests true newline back line m n e f = refl
    by_tests false true back line m n e f = cc
    by_tests false false true true m n e f = absurd (omega arith)
    by_tests false false true false m n e f = absurd (omega arith)
    by_tests false false false line m n e f = absurd (omega arith)

    same : (a b : ℕ) → (a == b) ≡ true → a ≡ b
    same a b e = grind (arith, nat_tests)

less : (a b : ℕ) → (a < b) ⊎ (b ≤ a)
less a b = grind arith

-- past the open string stands its quote, or the text ends
string_at : (text : List ℕ) (quote m : ℕ) → slice_index text 0 ≡ quote → is_quote quote ≡ true → 0 < m
    → (drop m text ≡ []) ⊎ ((slice_index (drop m text) 0 ≡ quote) × (0 < length (drop m text))) → 0 < length text
    → IsWhole text (piece Str (min (m + 1) (length text)))
string_at text quote m first is_a_quote some (inl none) there =
    let all : length (drop m text) ≡ 0 = ap length none in
    let is : min (m + 1) (length text) ≡ length text = omega (arith, length-drop m text) in
    record {
      beside = inl (rw is (past_low text (length text) (omega arith)));
      marks = record { quote = rw first is_a_quote; some = omega arith; closed = inr is };
    }
string_at text quote m first is_a_quote some (inr closed) there =
    let is : min (m + 1) (length text) - 1 ≡ m = omega (arith, length-drop m text, closed.1) in
    let last : slice_index text (min (m + 1) (length text) - 1) ≡ quote = rw is (sym (first_of_rest text m) ∙ closed.0) in
    let low : quote < 128 = quote_low quote is_a_quote in
    record {
      beside = inr (omega (arith, last));
      marks = record {
        quote = rw first is_a_quote;
        some = omega arith;
        closed = inl (last ∙ sym first, omega (arith, length-drop m text, closed.1));
      };
    }

begins_first : (p : ℕ → Bool) (text : List ℕ) → begins p text ≡ true → (p (slice_index text 0) ≡ true) × (0 < length text)
begins_first p [] e = cc
begins_first p (c ∷ rest) e = (e, omega arith)

string_whole : AreWhole string
unfolding string
string_whole text p found =
    let quote = slice_index text 0 in
    let m = open_string_len text in
    let h = when_some (begins is_quote text && not (begins is_newline (drop m text))) (piece Str (up_to_and_with m 1 text)) p found in
    let t = and_true (begins is_quote text) _ h.0 in
    let first = begins_first is_quote text t.0 in
    subst (IsWhole text) h.1
    (string_at text quote m refl first.0 (omega arith)
    (string_stops quote (drop m text) (run_stops_at (string_unit quote) refl text 1) (not_true _ t.1)) first.1)

bad_string_whole : AreWhole bad_string
unfolding bad_string
bad_string_whole text p found =
    let m = open_string_len text in
    let h = when_some (begins is_quote text && begins is_newline (drop m text)) (piece BadString m) p found in
    let t = and_true (begins is_quote text) (begins is_newline (drop m text)) h.0 in
    subst (IsWhole text) h.1
    (record { beside = next_low text m (begins_low is_newline newline_low (drop m text) t.1); marks = tt })

closes_low : (rest : List ℕ) → closes_url rest ≡ true → slice_index rest 0 < 128
closes_low [] e = lit< tt
closes_low (c ∷ rest) e = grind (arith, nat_tests)

url_whole : AreWhole url
unfolding url
url_whole text p found =
    let n = open_url_len text in
    let h = when_some (opens_url text && closes_url (drop n text)) (piece Url (up_to_and_with n 1 text)) p found in
    let t = and_true (opens_url text) _ h.0 in
    subst (IsWhole text) h.1 (record { beside = closed_low text n (closes_low (drop n text) t.1); marks = tt })

pub bad_url_low : (rest : List ℕ) → bad_url_unit rest ≡ 0 → slice_index rest 0 < 128
unfolding escape_len
bad_url_low [] none = lit< tt
bad_url_low (c ∷ rest) none = round_low c (by_tests (c == 41) (c == 92 && not (begins is_newline rest)) _ none)
  where
    by_tests : (round escape : Bool) (n : ℕ) → cond round 0 (cond escape (cond escape (1 + n) 0) 1) ≡ 0 → round ≡ true
    by_tests true escape n e = refl
    by_tests false true n e = absurd (omega arith)
    by_tests false false n e = absurd (omega arith)

    round_low : (c : ℕ) → (c == 41) ≡ true → c < 128
    round_low c e = grind (arith, nat_tests)

bad_url_whole : AreWhole bad_url
unfolding bad_url
bad_url_whole text p found =
    let n = open_url_len text in
    let m = n + run bad_url_unit (drop n text) in
    let h = when_some (opens_url text && not (closes_url (drop n text))) (piece BadUrl (up_to_and_with m 1 text)) p found in
    subst (IsWhole text) h.1 (record {
      beside = closed_low text m (bad_url_low (drop m text) (run_stops_at bad_url_unit refl text n));
      marks = tt;
    })

last_low : (text : List ℕ) (n m : ℕ) → slice_index (drop n text) 0 ≡ m → m < 128 → IsBesideAscii text (n + 1)
last_low text n m is low = let same : n + 1 - 1 ≡ n = omega arith in inr (rw same (omega (arith, first_of_rest text n)))

numeric_whole : AreWhole numeric
unfolding numeric
numeric_whole text p found =
    let n = number_len text in
    let rest = drop n text in
    let h = when_some (nat_lt 0 n) _ p found in
    subst (IsWhole text) h.1
    (elim (begins (λ c. c == 37) rest) as
    (λ b. begins (λ c. c == 37) rest ≡ b
    → IsWhole text (cond b (piece Percentage (n + 1))
    (cond (starts_ident rest) (piece Dimension (n + name_len rest)) (piece Number n)))) [
      | true ↦ λ percent. record { beside = last_low text n 37 (begins_is 37 rest percent).0 (lit< tt); marks = tt }
      | false ↦ λ _. elim (starts_ident rest) as
          (λ b. starts_ident rest ≡ b → IsWhole text (cond b (piece Dimension (n + name_len rest)) (piece Number n))) [
            | true ↦ λ _. record { beside = name_end_low text n; marks = tt }
            | false ↦ λ none. record { beside = next_low text n (start_low rest none); marks = tt }
          ] refl
    ] refl)

ident_whole : AreWhole ident
unfolding ident
ident_whole text p found =
    let n = name_len text in
    let h = when_some (starts_ident text) _ p found in
    let some = name_some text h.0 in
    subst (IsWhole text) h.1
    (elim (begins (λ c. c == 40) (drop n text)) as
    (λ b. begins (λ c. c == 40) (drop n text) ≡ b → IsWhole text (cond b (piece Function (n + 1)) (piece Ident n))) [
      | true ↦ λ round. record {
        beside = last_low text n 40 (begins_is 40 (drop n text) round).0 (lit< tt);
        marks = record {
          is = let same : n + 1 - 1
              ≡ n = omega arith in rw same (sym (first_of_rest text n) ∙ (begins_is 40 (drop n text) round).0);
          some = omega arith;
        };
      }
      | false ↦ λ _. record { beside = next_low text n (name_low (drop n text) (run_stops name_unit refl text)); marks = tt }
    ] refl)

cdc_low : (text : List ℕ) → starts_with nat_eq text (45 ∷ 45 ∷ 62 ∷ []) ≡ true → slice_index text 2 < 128
cdc_low [] e = cc
cdc_low (a ∷ []) e = lit< tt
cdc_low (a ∷ b ∷ []) e = lit< tt
cdc_low (a ∷ b ∷ c ∷ rest) e = grind (arith, nat_tests)

cdc_whole : AreWhole cdc
unfolding cdc
cdc_whole text p found =
    let h = when_some (starts_with nat_eq text (45 ∷ 45 ∷ 62 ∷ [])) (piece Cdc 3) p found in
    subst (IsWhole text) h.1 (record { beside = inr (cdc_low text h.0); marks = tt })

cdo_low : (text : List ℕ) → starts_with nat_eq text (60 ∷ 33 ∷ 45 ∷ 45 ∷ []) ≡ true → slice_index text 3 < 128
cdo_low [] e = cc
cdo_low (a ∷ []) e = lit< tt
cdo_low (a ∷ b ∷ []) e = lit< tt
cdo_low (a ∷ b ∷ c ∷ []) e = lit< tt
cdo_low (a ∷ b ∷ c ∷ d ∷ rest) e = grind (arith, nat_tests)

cdo_whole : AreWhole cdo
unfolding cdo
cdo_whole text p found =
    let h = when_some (starts_with nat_eq text (60 ∷ 33 ∷ 45 ∷ 45 ∷ [])) (piece Cdo 4) p found in
    subst (IsWhole text) h.1 (record { beside = inr (cdo_low text h.0); marks = tt })

-- no character alone is a string, a hash, an at-keyword or a function
is_alone : TokenKind → Bool
is_alone Str = false
is_alone (Hash flag) = false
is_alone AtKeyword = false
is_alone Function = false
is_alone kind = true

either : (b : Bool) (x y : TokenKind) → is_alone x ≡ true → is_alone y ≡ true → is_alone (cond b x y) ≡ true
either true x y p q = p
either false x y p q = q

mark_alone : (c : ℕ) → is_alone (mark_kind c) ≡ true
unfolding is_alone
mark_alone c =
    either (c == 58) _ _ refl (either (c == 59) _ _ refl (either (c == 44) _ _ refl
    (either (c == 91) _ _ refl (either (c == 93) _ _ refl (either (c == 40) _ _ refl
    (either (c == 41) _ _ refl (either (c == 123) _ _ refl (either (c == 125) _ _ refl refl))))))))

mark_marks : (kind : TokenKind) (text : List ℕ) → kind ≡ mark_kind (slice_index text 0) → is_alone kind ≡ true → HasMarks kind text 0 1
unfolding is_alone
mark_marks Str text is alone = cc
mark_marks (Hash flag) text is alone = cc
mark_marks AtKeyword text is alone = cc
mark_marks Function text is alone = cc
mark_marks Colon text is alone = record { one = refl; gives = is }
mark_marks Semicolon text is alone = record { one = refl; gives = is }
mark_marks Comma text is alone = record { one = refl; gives = is }
mark_marks OpenSquare text is alone = record { one = refl; gives = is }
mark_marks CloseSquare text is alone = record { one = refl; gives = is }
mark_marks OpenRound text is alone = record { one = refl; gives = is }
mark_marks CloseRound text is alone = record { one = refl; gives = is }
mark_marks OpenCurly text is alone = record { one = refl; gives = is }
mark_marks CloseCurly text is alone = record { one = refl; gives = is }
mark_marks Delim text is alone = record { one = refl; gives = is }
mark_marks kind text is alone = tt

starts_none : (text : List ℕ) → ident text ≡ None → starts_ident text ≡ false
unfolding ident
starts_none text none = by_when (starts_ident text) _ none
  where
    by_when : (b : Bool) (q : Piece) → when b q ≡ None → b ≡ false
    by_when true q e = cc
    by_when false q e = refl

mark_whole : (text : List ℕ) (p : Piece) → ident text ≡ None → mark text ≡ Some p → IsWhole text p
unfolding mark
mark_whole [] p none found = cc
mark_whole (c ∷ rest) p none found =
    let is : piece (mark_kind c) 1 ≡ p = cc in
    subst (IsWhole (c ∷ rest)) is
    (record {
      beside = inr (start_low (c ∷ rest) (starts_none (c ∷ rest) none));
      marks = mark_marks (mark_kind c) (c ∷ rest) refl (mark_alone c);
    })

-- the first of two rows that applies
by_or : {P : Type 0} (a b : Option Piece) (p : Piece) → (a or b) ≡ Some p → (a ≡ Some p → P) → (a ≡ None → b ≡ Some p → P) → P
by_or (Some q) b p e first next = first e
by_or None b p e first next = next refl e

pub first_whole : AreWhole first_piece
unfolding first_piece
first_whole text p found =
    by_or (comment text) _ p found (comment_whole text p) (λ _ found.
    by_or (white_space text) _ p found (white_whole text p) (λ _ found.
    by_or (string text) _ p found (string_whole text p) (λ _ found.
    by_or (bad_string text) _ p found (bad_string_whole text p) (λ _ found.
    by_or (hash text) _ p found (hash_whole text p) (λ _ found.
    by_or (numeric text) _ p found (numeric_whole text p) (λ _ found.
    by_or (cdc text) _ p found (cdc_whole text p) (λ _ found.
    by_or (url text) _ p found (url_whole text p) (λ _ found.
    by_or (bad_url text) _ p found (bad_url_whole text p) (λ _ found.
    by_or (ident text) _ p found (ident_whole text p) (λ none found.
    by_or (cdo text) _ p found (cdo_whole text p) (λ _ found.
    by_or (at_keyword text) _ p found (at_keyword_whole text p) (λ _ found.
    mark_whole text p none found))))))))))))
