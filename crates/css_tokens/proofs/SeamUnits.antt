-- Before `{`, `}` or `;` no unit looks further: what comes behind that character changes no unit before it.
use Rattle.std.proofs.Common.{◌≡◌, ◌⊎◌, inl, inr, ℕ, zero, suc, ◌+◌, ◌-◌, ◌<◌, ◌≤◌, ◌==◌, Bool, true, false, cond, ◌&&◌, ◌||◌, not, List}
use Rattle.std.proofs.Common.{[], ◌∷◌, ◌++◌, length, drop, take, nat_eq, refl, ap, sym, ◌∙◌, subst, lit<, arith}
use Rattle.std.specs.List.{prefix_len}
use Rattle.std.specs.Char.{is_ascii_hexdigit, is_ascii_digit}
use Rattle.std.proofs.lemmas.List.{drop-append-le}
use Rattle.std.proofs.lemmas.Bool.Decides.{nat_tests}
use Rattle.css_tokens.specs.Codes.{begins, is_newline, is_white, is_quote, is_ident, is_ident_start, is_sign}
use Rattle.css_tokens.specs.Escapes.{newline_len, white_len, hex_len, escape_tail, escape_len, begins_escape}
use Rattle.css_tokens.specs.Runs.{run, run_after, unit_then, comment_unit, string_unit, name_unit, url_unit, bad_url_unit, ends_url}
use Rattle.css_tokens.specs.Runs.{starts_ident}
use Rattle.css_tokens.specs.Seams.{is_stop}
use Rattle.css_tokens.proofs.Unescaping.{same_code}

-- what is known of such a character
pub record StopFacts (c : ℕ) : Type 0 where
  pub white : is_white c ≡ false
  pub newline : is_newline c ≡ false
  pub ten : (c == 10) ≡ false
  pub thirteen : (c == 13) ≡ false
  pub hex : is_ascii_hexdigit c ≡ false
  pub digit : is_ascii_digit c ≡ false
  pub ident : is_ident c ≡ false
  pub start : is_ident_start c ≡ false
  pub back : (c == 92) ≡ false
  pub dash : (c == 45) ≡ false
  pub quote : is_quote c ≡ false
  pub sign : is_sign c ≡ false
  pub dot : (c == 46) ≡ false
  pub mark : (c == 69 || c == 101) ≡ false
  pub star : (c == 42) ≡ false
  pub slash : (c == 47) ≡ false
  pub round : (c == 40) ≡ false
  pub close : (c == 41) ≡ false
  pub percent : (c == 37) ≡ false
  pub url : ends_url c ≡ false

facts_123 : StopFacts 123
facts_123 = record {
  white = refl;
  newline = refl;
  ten = refl;
  thirteen = refl;
  hex = refl;
  digit = refl;
  ident = refl;
  start = refl;
  back = refl;
  dash = refl;
  quote = refl;
  sign = refl;
  dot = refl;
  mark = refl;
  star = refl;
  slash = refl;
  round = refl;
  close = refl;
  percent = refl;
  url = refl;
}

facts_125 : StopFacts 125
facts_125 = record {
  white = refl;
  newline = refl;
  ten = refl;
  thirteen = refl;
  hex = refl;
  digit = refl;
  ident = refl;
  start = refl;
  back = refl;
  dash = refl;
  quote = refl;
  sign = refl;
  dot = refl;
  mark = refl;
  star = refl;
  slash = refl;
  round = refl;
  close = refl;
  percent = refl;
  url = refl;
}

facts_59 : StopFacts 59
facts_59 = record {
  white = refl;
  newline = refl;
  ten = refl;
  thirteen = refl;
  hex = refl;
  digit = refl;
  ident = refl;
  start = refl;
  back = refl;
  dash = refl;
  quote = refl;
  sign = refl;
  dot = refl;
  mark = refl;
  star = refl;
  slash = refl;
  round = refl;
  close = refl;
  percent = refl;
  url = refl;
}

pub stop_facts : (c : ℕ) → is_stop c ≡ true → StopFacts c
stop_facts c stop =
    elim (one_of (c == 123) (c == 125) (c == 59) stop) [
      | inl a ↦ subst StopFacts (sym (same_code c 123 a)) facts_123
      | inr more ↦ elim more [
        | inl b ↦ subst StopFacts (sym (same_code c 125 b)) facts_125
        | inr d ↦ subst StopFacts (sym (same_code c 59 d)) facts_59
      ]
    ]
  where
    one_of : (a b d : Bool) → ((a || b) || d) ≡ true → (a ≡ true) ⊎ ((b ≡ true) ⊎ (d ≡ true))
    one_of true b d e = inl refl
    one_of false true d e = inr (inl refl)
    one_of false false true e = inr (inr refl)
    one_of false false false e = cc

-- two texts that are the same up to the character and with it
pub begins_same : (p : ℕ → Bool) (c : ℕ) (rest other x : List ℕ) → begins p (x ++ c ∷ rest) ≡ begins p (x ++ c ∷ other)
begins_same p c rest other [] = refl
begins_same p c rest other (a ∷ x) = refl

pub prefix_same : (p : ℕ → Bool) (c : ℕ) (rest other x : List ℕ) → p c ≡ false
    → prefix_len p (x ++ c ∷ rest) ≡ prefix_len p (x ++ c ∷ other)
prefix_same p c rest other [] stops = rw stops refl
prefix_same p c rest other (a ∷ x) stops = ap (λ (n : ℕ). cond (p a) (1 + n) 0) (prefix_same p c rest other x stops)

pub prefix_within : (p : ℕ → Bool) (c : ℕ) (rest x : List ℕ) → p c ≡ false → prefix_len p (x ++ c ∷ rest) ≤ length x
prefix_within p c rest [] stops = rw stops (omega arith)
prefix_within p c rest (a ∷ x) stops =
    let more : prefix_len p (x ++ c ∷ rest) ≤ length x = prefix_within p c rest x stops in
    elim (p a) as (λ b. cond b (1 + prefix_len p (x ++ c ∷ rest)) 0 ≤ length (a ∷ x)) [ true ↦ omega arith | false ↦ omega arith ]

taken_same : (p : ℕ → Bool) (k c : ℕ) (rest other x : List ℕ) → p c ≡ false
    → prefix_len p (take k (x ++ c ∷ rest)) ≡ prefix_len p (take k (x ++ c ∷ other))
taken_same p zero c rest other x stops = refl
taken_same p (suc k) c rest other [] stops = rw stops refl
taken_same p (suc k) c rest other (a ∷ x) stops = ap (λ (n : ℕ). cond (p a) (1 + n) 0) (taken_same p k c rest other x stops)

taken_within : (p : ℕ → Bool) (k c : ℕ) (rest x : List ℕ) → p c ≡ false → prefix_len p (take k (x ++ c ∷ rest)) ≤ length x
taken_within p zero c rest x stops = omega arith
taken_within p (suc k) c rest [] stops = rw stops (omega arith)
taken_within p (suc k) c rest (a ∷ x) stops =
    let more : prefix_len p (take k (x ++ c ∷ rest)) ≤ length x = taken_within p k c rest x stops in
    elim (p a) as (λ b. cond b (1 + prefix_len p (take k (x ++ c ∷ rest))) 0 ≤ length (a ∷ x)) [ true ↦ omega arith | false ↦ omega arith ]

white_len_same : (c : ℕ) (rest other x : List ℕ) → StopFacts c → white_len (x ++ c ∷ rest) ≡ white_len (x ++ c ∷ other)
white_len_same c rest other [] f = let a = f.thirteen in let b = f.white in rw (a, b) refl
white_len_same c rest other (a ∷ []) f = refl
white_len_same c rest other (a ∷ b ∷ x) f = refl

newline_len_same : (c : ℕ) (rest other x : List ℕ) → StopFacts c → newline_len (x ++ c ∷ rest) ≡ newline_len (x ++ c ∷ other)
newline_len_same c rest other [] f = let a = f.newline in rw a refl
newline_len_same c rest other (a ∷ []) f = refl
newline_len_same c rest other (a ∷ b ∷ x) f = refl

hex_same : (c : ℕ) (rest other x : List ℕ) → StopFacts c → hex_len (x ++ c ∷ rest) ≡ hex_len (x ++ c ∷ other)
hex_same c rest other x f = taken_same is_ascii_hexdigit 6 c rest other x f.hex

coded_same : (c : ℕ) (rest other x : List ℕ) → StopFacts c
    → hex_len (x ++ c ∷ rest) + white_len (drop (hex_len (x ++ c ∷ rest)) (x ++ c ∷ rest))
    ≡ hex_len (x ++ c ∷ other) + white_len (drop (hex_len (x ++ c ∷ other)) (x ++ c ∷ other))
coded_same c rest other x f =
    let h = hex_len (x ++ c ∷ rest) in
    let g = hex_len (x ++ c ∷ other) in
    let same : h ≡ g = hex_same c rest other x f in
    let within : h ≤ length x = taken_within is_ascii_hexdigit 6 c rest x f.hex in
    let one : drop h (x ++ c ∷ rest) ≡ drop h x ++ c ∷ rest = drop-append-le h x (c ∷ rest) within in
    let two : drop g (x ++ c ∷ other)
    ≡ drop h x ++ c ∷ other = ap (λ (n : ℕ). drop n (x ++ c ∷ other)) (sym same) ∙ drop-append-le h x (c ∷ other) within in
    let white : white_len (drop h (x ++ c ∷ rest))
    ≡ white_len (drop g (x ++ c ∷ other)) = ap white_len one ∙ white_len_same c rest other (drop h x) f ∙ sym (ap white_len two) in
    omega (arith, same, white)

pub tail_same : (c : ℕ) (rest other x : List ℕ) → StopFacts c → escape_tail (x ++ c ∷ rest) ≡ escape_tail (x ++ c ∷ other)
unfolding escape_tail
tail_same c rest other [] f = let a = f.hex in rw a refl
tail_same c rest other (a ∷ x) f = ap (λ (n : ℕ). cond (is_ascii_hexdigit a) n 1) (coded_same c rest other (a ∷ x) f)

pub escape_same : (c : ℕ) (rest other x : List ℕ) → StopFacts c → escape_len (x ++ c ∷ rest) ≡ escape_len (x ++ c ∷ other)
unfolding escape_len
escape_same c rest other [] f = let a = f.back in rw a refl
escape_same c rest other (a ∷ x) f =
    ap (λ (b : Bool). cond (a == 92 && not b) (1 + escape_tail (x ++ c ∷ rest)) 0) (begins_same is_newline c rest other x)
    ∙ ap (λ (n : ℕ). cond (a == 92 && not (begins is_newline (x ++ c ∷ other))) (1 + n) 0) (tail_same c rest other x f)

pub begins_escape_same : (c : ℕ) (rest other x : List ℕ) → StopFacts c → begins_escape (x ++ c ∷ rest) ≡ begins_escape (x ++ c ∷ other)
begins_escape_same c rest other [] f = let a = f.back in rw a refl
begins_escape_same c rest other (a ∷ x) f = ap (λ (b : Bool). a == 92 && not b) (begins_same is_newline c rest other x)

pub starts_same : (c : ℕ) (rest other x : List ℕ) → StopFacts c → starts_ident (x ++ c ∷ rest) ≡ starts_ident (x ++ c ∷ other)
starts_same c rest other [] f = let a = f.dash in let b = f.back in rw (a, b) refl
starts_same c rest other (a ∷ x) f =
    ap (λ (b : Bool). cond (a == 45) (b || begins_escape (x ++ c ∷ rest)) (is_ident_start a || begins_escape (a ∷ (x ++ c ∷ rest))))
    (begins_same (λ d. is_ident_start d || d == 45) c rest other x)
    ∙ ap (λ (b : Bool). cond (a == 45) (begins (λ d. is_ident_start d || d == 45) (x ++ c ∷ other) || b)
    (is_ident_start a || begins_escape (a ∷ (x ++ c ∷ rest)))) (begins_escape_same c rest other x f)
    ∙ ap (λ (b : Bool). cond (a == 45) (begins (λ d. is_ident_start d || d == 45) (x ++ c ∷ other) || begins_escape (x ++ c ∷ other))
    (is_ident_start a || b)) (begins_escape_same c rest other (a ∷ x) f)

-- units
abbrev pub IsLocal : (List ℕ → ℕ) → ℕ → Type 0
IsLocal unit c = (rest other x : List ℕ) → unit (x ++ c ∷ rest) ≡ unit (x ++ c ∷ other)

pub comment_local : (c : ℕ) → StopFacts c → IsLocal comment_unit c
comment_local c f rest other [] = let a = f.star in rw a refl
comment_local c f rest other (a ∷ x) = ap (λ (b : Bool). cond (a == 42 && b) 0 1) (begins_same (λ d. d == 47) c rest other x)

pub name_local : (c : ℕ) → StopFacts c → IsLocal name_unit c
name_local c f rest other [] = let a = f.ident in rw a (escape_same c rest other [] f)
name_local c f rest other (a ∷ x) = ap (λ (n : ℕ). cond (is_ident a) 1 n) (escape_same c rest other (a ∷ x) f)

pub string_local : (quote c : ℕ) → StopFacts c → IsLocal (string_unit quote) c
string_local quote c f rest other [] = let a = f.back in rw a refl
string_local quote c f rest other (a ∷ x) =
    ap (λ (b : Bool). cond (a == quote || is_newline a) 0
    (cond (a == 92) (cond b (1 + newline_len (x ++ c ∷ rest)) (escape_len (a ∷ (x ++ c ∷ rest)))) 1))
    (begins_same is_newline c rest other x)
    ∙ ap (λ (n : ℕ). cond (a == quote || is_newline a) 0
    (cond (a == 92) (cond (begins is_newline (x ++ c ∷ other)) (1 + n) (escape_len (a ∷ (x ++ c ∷ rest)))) 1))
    (newline_len_same c rest other x f)
    ∙ ap (λ (n : ℕ). cond (a == quote || is_newline a) 0
    (cond (a == 92) (cond (begins is_newline (x ++ c ∷ other)) (1 + newline_len (x ++ c ∷ other)) n) 1))
    (escape_same c rest other (a ∷ x) f)

pub url_local : (c : ℕ) → StopFacts c → IsLocal url_unit c
url_local c f rest other [] = let a = f.back in rw a refl
url_local c f rest other (a ∷ x) = ap (λ (n : ℕ). cond (ends_url a) 0 (cond (a == 92) n 1)) (escape_same c rest other (a ∷ x) f)

pub bad_url_local : (c : ℕ) → StopFacts c → IsLocal bad_url_unit c
bad_url_local c f rest other [] = let a = f.back in rw a refl
bad_url_local c f rest other (a ∷ x) =
    ap (λ (b : Bool). cond (a == 41) 0 (cond b (escape_len (a ∷ (x ++ c ∷ rest))) 1)) (begins_escape_same c rest other (a ∷ x) f)
    ∙ ap (λ (n : ℕ). cond (a == 41) 0 (cond (begins_escape (a ∷ (x ++ c ∷ other))) n 1)) (escape_same c rest other (a ∷ x) f)

-- runs: the same, or both past the character
abbrev pub Near : ℕ → ℕ → ℕ → Type 0
Near n a b = (a ≡ b) ⊎ ((n < a) × (n < b))

near_suc : (n a b : ℕ) → Near n a b → Near (suc n) (suc a) (suc b)
near_suc n a b (inl same) = inl (ap suc same)
near_suc n a b (inr far) = inr (omega (arith, far.0), omega (arith, far.1))

near_then : (n u : ℕ) (f g : ℕ → ℕ) → ((k : ℕ) → Near n (f k) (g k)) → Near (suc n) (unit_then u f) (unit_then u g)
near_then n zero f g near = inl refl
near_then n (suc k) f g near = near_suc n (f k) (g k) (near k)

run_after_near : (unit : List ℕ → ℕ) (c : ℕ) → IsLocal unit c → (rest other : List ℕ) (skip : ℕ) (x : List ℕ)
    → Near (length x) (run_after unit skip (x ++ c ∷ rest)) (run_after unit skip (x ++ c ∷ other))
unfolding run_after
run_after_near unit c local rest other (suc skip) [] = inr (omega arith, omega arith)
run_after_near unit c local rest other zero [] =
    let same : unit (c ∷ rest) ≡ unit (c ∷ other) = local rest other [] in
    rw same (by_unit (unit (c ∷ other)) (λ k. run_after unit k rest) (λ k. run_after unit k other))
  where
    by_unit : (u : ℕ) (f g : ℕ → ℕ) → Near 0 (unit_then u f) (unit_then u g)
    by_unit zero f g = inl refl
    by_unit (suc k) f g = inr (omega arith, omega arith)
run_after_near unit c local rest other (suc skip) (a ∷ x) = near_suc (length x) _ _ (run_after_near unit c local rest other skip x)
run_after_near unit c local rest other zero (a ∷ x) =
    let same : unit (a ∷ (x ++ c ∷ rest)) ≡ unit (a ∷ (x ++ c ∷ other)) = local rest other (a ∷ x) in
    rw same (near_then (length x) (unit (a ∷ (x ++ c ∷ other))) (λ k. run_after unit k (x ++ c ∷ rest))
    (λ k. run_after unit k (x ++ c ∷ other)) (λ k. run_after_near unit c local rest other k x))

pub run_near : (unit : List ℕ → ℕ) (c : ℕ) → IsLocal unit c → (rest other x : List ℕ)
    → Near (length x) (run unit (x ++ c ∷ rest)) (run unit (x ++ c ∷ other))
run_near unit c local rest other x = run_after_near unit c local rest other 0 x
