-- A space and `}` behind a text against a stop or the text's end: units and runs that end before the space are the same.
use Rattle.std.proofs.Common.{◌≡◌, ◌⊎◌, inl, inr, ℕ, zero, suc, ◌+◌, ◌-◌, ◌<◌, ◌≤◌, ◌==◌, Bool, true, false, cond, ◌&&◌, ◌||◌, not, List}
use Rattle.std.proofs.Common.{[], ◌∷◌, ◌++◌, length, drop, take, refl, ap, sym, ◌∙◌, subst, arith}
use Rattle.std.specs.List.{prefix_len}
use Rattle.std.specs.Char.{is_ascii_hexdigit, is_ascii_digit}
use Rattle.std.proofs.lemmas.List.{drop-append-le, length-drop}
use Rattle.css_tokens.specs.Codes.{begins, is_newline, is_white, is_quote, is_ident, is_ident_start, is_sign}
use Rattle.css_tokens.specs.Escapes.{newline_len, white_len, hex_len, escape_tail, escape_len, begins_escape}
use Rattle.css_tokens.specs.Runs.{run, run_after, unit_then, white_run, comment_unit, string_unit, name_unit, bad_url_unit}
use Rattle.css_tokens.specs.Runs.{starts_ident}
use Rattle.css_tokens.proofs.SeamUnits.{stop_facts, prefix_within}
use Rattle.std.proofs.lemmas.Bool.{eqb-true}
use Rattle.std.proofs.lemmas.Bool.Decides.{nat_tests}
use Rattle.sheet_reader.proofs.Behind.{spaced, IsBehind, at_end, at_stop}

-- the last code is a CR: it may be one newline with an LF behind it
abbrev pub ends_return : List ℕ → Bool
ends_return [] = false
ends_return (a ∷ []) = a == 13
ends_return (a ∷ b ∷ rest) = ends_return (b ∷ rest)

-- what is known of what stands behind
pub record Facts (v : List ℕ) : Type 0 where
  pub hex : begins is_ascii_hexdigit v ≡ false
  pub digit : begins is_ascii_digit v ≡ false
  pub quote : begins is_quote v ≡ false
  pub sign : begins is_sign v ≡ false
  pub dot : begins (λ d. d == 46) v ≡ false
  pub mark : begins (λ d. d == 69 || d == 101) v ≡ false
  pub star : begins (λ d. d == 42) v ≡ false
  pub bang : begins (λ d. d == 33) v ≡ false
  pub greater : begins (λ d. d == 62) v ≡ false
  pub dash : begins (λ d. d == 45) v ≡ false
  pub round : begins (λ d. d == 40) v ≡ false
  pub percent : begins (λ d. d == 37) v ≡ false
  pub start : begins (λ d. is_ident_start d || d == 45) v ≡ false
  pub escape : escape_len v ≡ 0
  pub begin : begins_escape v ≡ false
  pub name : name_unit v ≡ 0
  pub ident : starts_ident v ≡ false
  pub quoted : begins is_quote (drop (white_run v) v) ≡ false
  -- behind an LF
  pub next_name : begins (λ d. d == 10) v ≡ true → name_unit (drop 1 v) ≡ 0
  pub next_round : begins (λ d. d == 10) v ≡ true → begins (λ d. d == 40) (drop 1 v) ≡ false

-- a CR LF stands over the seam
abbrev pub over_seam : List ℕ → List ℕ → Bool
over_seam x v = ends_return x && begins (λ d. d == 10) v

-- none does
abbrev pub Apart : List ℕ → List ℕ → Type 0
Apart x v = over_seam x v ≡ false

and_none : (b : Bool) → (b && false) ≡ false
and_none true = refl
and_none false = refl

pub apart_tail : (v : List ℕ) (a : ℕ) (x : List ℕ) → Apart (a ∷ x) v → Apart x v
apart_tail v a [] m = refl
apart_tail v a (b ∷ x) m = m

pub seam_tail : (v : List ℕ) (a : ℕ) (x : List ℕ) → over_seam x v ≡ true → over_seam (a ∷ x) v ≡ true
seam_tail v a [] e = absurd (cc)
seam_tail v a (b ∷ x) e = e

pub seam_drop : (v : List ℕ) (n : ℕ) (x : List ℕ) → over_seam (drop n x) v ≡ true → over_seam x v ≡ true
seam_drop v zero x e = e
seam_drop v (suc n) [] e = e
seam_drop v (suc n) (a ∷ x) e = seam_tail v a x (seam_drop v n x e)

pub seam_line : (v x : List ℕ) → over_seam x v ≡ true → begins (λ d. d == 10) v ≡ true
seam_line v x e = by (ends_return x) (begins (λ d. d == 10) v) e
  where
    by : (a b : Bool) → (a && b) ≡ true → b ≡ true
    by true b e = e
    by false b e = absurd (cc)

-- the text has a code then
pub seam_some : (v x : List ℕ) → over_seam x v ≡ true → 0 < length x
seam_some v [] e = absurd (cc)
seam_some v (a ∷ x) e = omega arith

pub apart_behind_front : (v x y : List ℕ) → Apart (x ++ y) v → Apart y v
apart_behind_front v [] y m = m
apart_behind_front v (a ∷ x) y m = apart_behind_front v x y (apart_tail v a (x ++ y) m)

pub apart_any : (v : List ℕ) → begins (λ d. d == 10) v ≡ false → (x : List ℕ) → Apart x v
apart_any v e x = ap (λ (b : Bool). ends_return x && b) e ∙ and_none (ends_return x)

pub apart_behind : (v : List ℕ) → IsBehind v → (x : List ℕ) → Apart x v
apart_behind v at_end x = and_none (ends_return x)
apart_behind v (at_stop c rest stop) x = apart_any (c ∷ rest) (stop_facts c stop).ten x

or_false : (a b : Bool) → a ≡ false → b ≡ false → (a || b) ≡ false
or_false false false e g = refl
or_false false true e g = cc
or_false true b e g = cc

other_code : (c k : ℕ) → ((c == 123 || c == 125) || c == 59) ≡ true → (k == 123 || k == 125 || k == 59) ≡ false → (c == k) ≡ false
other_code c k a b = grind (arith, nat_tests)

pub facts_behind : (v : List ℕ) → IsBehind v → Facts v
unfolding escape_len
facts_behind v at_end = record {
  hex = refl;
  digit = refl;
  quote = refl;
  sign = refl;
  dot = refl;
  mark = refl;
  star = refl;
  bang = refl;
  greater = refl;
  dash = refl;
  round = refl;
  percent = refl;
  start = refl;
  escape = refl;
  begin = refl;
  name = refl;
  ident = refl;
  quoted = refl;
  next_name = λ e. absurd (cc);
  next_round = λ e. absurd (cc);
}
facts_behind v (at_stop c rest stop) =
    let f = stop_facts c stop in
    let back = f.back in
    let white = f.white in
    let dash = f.dash in
    let start = f.start in
    let ident = f.ident in
    record {
      hex = f.hex;
      digit = f.digit;
      quote = f.quote;
      sign = f.sign;
      dot = f.dot;
      mark = f.mark;
      star = f.star;
      bang = other_code c 33 stop refl;
      greater = other_code c 62 stop refl;
      dash = f.dash;
      round = f.round;
      percent = f.percent;
      start = or_false _ _ f.start f.dash;
      escape = rw back refl;
      begin = rw back refl;
      name = rw (ident, back) refl;
      ident = rw (dash, start, back) refl;
      quoted = rw white f.quote;
      next_name = λ e. absurd (clash (c == 10) f.ten e);
      next_round = λ e. absurd (clash (c == 10) f.ten e);
    }
  where
    clash : (b : Bool) → b ≡ false → b ≡ true → ⊥
    clash false e g = cc
    clash true e g = cc

-- ---- the same, or past n
abbrev pub Short : ℕ → ℕ → ℕ → Type 0
Short n a b = (a ≡ b) ⊎ (n < a)

pub short_add : (k n a b : ℕ) → Short n a b → Short (k + n) (k + a) (k + b)
short_add k n a b (inl same) = inl (ap (λ (x : ℕ). k + x) same)
short_add k n a b (inr far) = inr (omega (arith, far))

pub short_suc : (n a b : ℕ) → Short n a b → Short (suc n) (suc a) (suc b)
short_suc n a b (inl same) = inl (ap suc same)
short_suc n a b (inr far) = inr (omega (arith, far))

pub short_one : (n a b : ℕ) → Short n a b → Short (suc n) (1 + a) (1 + b)
short_one n a b (inl same) = inl (omega (arith, same))
short_one n a b (inr far) = inr (omega (arith, far))

-- The same, or past n; or, where a CR LF stands over the seam, one more than n where the first is n
pub data Near (seam : Bool) (n a b : ℕ) : Type 0 where
  near_same : ◌≡◌ {A = ℕ} a b → Near seam n a b
  near_past : n < a → Near seam n a b
  near_more : seam ≡ true → ◌≡◌ {A = ℕ} a n → ◌≡◌ {A = ℕ} b (suc n) → Near seam n a b

pub near_wide : {s t : Bool} (n a b : ℕ) → (s ≡ true → t ≡ true) → Near s n a b → Near t n a b
near_wide n a b wide (near_same e) = near_same e
near_wide n a b wide (near_past far) = near_past far
near_wide n a b wide (near_more h e g) = near_more (wide h) e g

pub near_add : {s : Bool} (k n a b : ℕ) → Near s n a b → Near s (k + n) (k + a) (k + b)
near_add k n a b (near_same same) = near_same (ap (λ (x : ℕ). k + x) same)
near_add k n a b (near_past far) = near_past (omega (arith, far))
near_add k n a b (near_more h e g) = near_more h (omega (arith, e)) (omega (arith, g))

near_suc : {s : Bool} (n a b : ℕ) → Near s n a b → Near s (suc n) (suc a) (suc b)
near_suc n a b (near_same same) = near_same (ap suc same)
near_suc n a b (near_past far) = near_past (omega (arith, far))
near_suc n a b (near_more h e g) = near_more h (omega (arith, e)) (omega (arith, g))

pub near_one : {s : Bool} (n a b : ℕ) → Near s n a b → Near s (suc n) (1 + a) (1 + b)
near_one n a b (near_same same) = near_same (omega (arith, same))
near_one n a b (near_past far) = near_past (omega (arith, far))
near_one n a b (near_more h e g) = near_more h (omega (arith, e)) (omega (arith, g))

pub near_cond : {s : Bool} (b : Bool) (n x y d : ℕ) → Near s n x y → Near s n (cond b x d) (cond b y d)
near_cond true n x y d h = h
near_cond false n x y d h = near_same refl

pub near_else : {s : Bool} (b : Bool) (n x y d : ℕ) → Near s n x y → Near s n (cond b d x) (cond b d y)
near_else true n x y d h = near_same refl
near_else false n x y d h = h

near_either : {s : Bool} (b : Bool) (n x y x' y' : ℕ) → Near s n x x' → Near s n y y' → Near s n (cond b x y) (cond b x' y')
near_either true n x y x' y' h k = h
near_either false n x y x' y' h k = k

pub begins_at : (p : ℕ → Bool) (v x : List ℕ) → p 32 ≡ false → begins p v ≡ false → begins p (x ++ spaced) ≡ begins p (x ++ v)
begins_at p v [] a b = a ∙ sym b
begins_at p v (d ∷ x) a b = refl

pub prefix_at : (p : ℕ → Bool) (v x : List ℕ) → p 32 ≡ false → begins p v ≡ false
    → prefix_len p (x ++ spaced) ≡ prefix_len p (x ++ v)
prefix_at p [] [] a b = rw a refl
prefix_at p (c ∷ v) [] a b = rw (a, b) refl
prefix_at p v (d ∷ x) a b = ap (λ (n : ℕ). cond (p d) (1 + n) 0) (prefix_at p v x a b)

pub prefix_in : (p : ℕ → Bool) (x : List ℕ) → p 32 ≡ false → prefix_len p (x ++ spaced) ≤ length x
prefix_in p x a = prefix_within p 32 (125 ∷ []) x a

taken_at : (p : ℕ → Bool) (k : ℕ) (v x : List ℕ) → p 32 ≡ false → begins p v ≡ false
    → prefix_len p (take k (x ++ spaced)) ≡ prefix_len p (take k (x ++ v))
taken_at p zero v x a b = refl
taken_at p (suc k) [] [] a b = rw a refl
taken_at p (suc k) (c ∷ v) [] a b = rw (a, b) refl
taken_at p (suc k) v (d ∷ x) a b = ap (λ (n : ℕ). cond (p d) (1 + n) 0) (taken_at p k v x a b)

taken_in : (p : ℕ → Bool) (k : ℕ) (x : List ℕ) → p 32 ≡ false → prefix_len p (take k (x ++ spaced)) ≤ length x
taken_in p zero x a = omega arith
taken_in p (suc k) [] a = rw a (omega arith)
taken_in p (suc k) (d ∷ x) a =
    let more : prefix_len p (take k (x ++ spaced)) ≤ length x = taken_in p k x a in
    elim (p d) as (λ b. cond b (1 + prefix_len p (take k (x ++ spaced))) 0 ≤ length (d ∷ x)) [ true ↦ omega arith | false ↦ omega arith ]

-- ---- escapes
pub both : (a b : Bool) → (a && b) ≡ true → (a ≡ true) × (b ≡ true)
both true b e = (refl, e)
both false b e = absurd (cc)

white_at : (v x : List ℕ) → Near (over_seam x v) (length x) (white_len (x ++ spaced)) (white_len (x ++ v))
white_at v [] = near_past (omega arith)
white_at v (a ∷ []) = by (over_seam (a ∷ []) v) refl
  where
    by : (b : Bool) → over_seam (a ∷ []) v ≡ b → Near (over_seam (a ∷ []) v) 1 (white_len (a ∷ spaced)) (white_len (a ∷ v))
    by false m = near_same (ap (λ (b : Bool). cond b 2 (cond (is_white a) 1 0)) (and_none (a == 13) ∙ sym m))
    by true m =
        let code : a ≡ 13 = eqb-true a 13 (both (a == 13) _ m).0 in
        near_more m (ap (λ (c : ℕ). white_len (c ∷ spaced)) code) (ap (λ (b : Bool). cond b 2 (cond (is_white a) 1 0)) m)
white_at v (a ∷ b ∷ x) = near_same refl

coded_at : (v : List ℕ) → Facts v → (x : List ℕ) → Near (over_seam x v) (length x)
    (hex_len (x ++ spaced) + white_len (drop (hex_len (x ++ spaced)) (x ++ spaced)))
    (hex_len (x ++ v) + white_len (drop (hex_len (x ++ v)) (x ++ v)))
coded_at v f x =
    let h = hex_len (x ++ spaced) in
    let g = hex_len (x ++ v) in
    let same : h ≡ g = taken_at is_ascii_hexdigit 6 v x refl f.hex in
    let within : h ≤ length x = taken_in is_ascii_hexdigit 6 x refl in
    let one : drop h (x ++ spaced) ≡ drop h x ++ spaced = drop-append-le h x spaced within in
    let two : drop g (x ++ v) ≡ drop h x ++ v = ap (λ (n : ℕ). drop n (x ++ v)) (sym same) ∙ drop-append-le h x v within in
    let w = ap white_len one in
    let w2 = ap white_len two in
    let size : length (drop h x) ≡ length x - h = length-drop h x in
    elim (white_at v (drop h x)) [
      | near_same e ↦ near_same (omega (arith, same, w, w2, e))
      | near_past far ↦ near_past (omega (arith, far, w, size, within))
      | near_more m e n ↦ near_more (seam_drop v h x m) (omega (arith, w, e, size, within)) (omega (arith, same, w2, n, size, within))
    ]

tail_at : (v : List ℕ) → Facts v → (x : List ℕ) → Near (over_seam x v) (length x) (escape_tail (x ++ spaced)) (escape_tail (x ++ v))
unfolding escape_tail
tail_at v f [] = near_past (omega arith)
tail_at v f (a ∷ x) = near_cond (is_ascii_hexdigit a) (length (a ∷ x)) _ _ 1 (coded_at v f (a ∷ x))

pub escape_at : (v : List ℕ) → Facts v → (x : List ℕ) → Near (over_seam x v) (length x) (escape_len (x ++ spaced)) (escape_len (x ++ v))
unfolding escape_len escape_tail
escape_at v f [] = near_same (sym f.escape)
escape_at v f (a ∷ []) = by (a == 92)
  where
    by : (b : Bool) → Near (over_seam (a ∷ []) v) 1 (cond (b && true) (1 + escape_tail spaced) 0)
        (cond (b && not (begins is_newline v)) (1 + escape_tail v) 0)
    by true = near_past (omega arith)
    by false = near_same refl
escape_at v f (a ∷ b ∷ x) =
    near_cond (a == 92 && not (is_newline b)) (length (a ∷ b ∷ x)) _ _ 0 (near_one (length (b ∷ x)) _ _ (tail_at v f (b ∷ x)))

-- the same, or a name that goes on past the text
abbrev pub StartsSame : List ℕ → List ℕ → Type 0
StartsSame v x = (starts_ident (x ++ spaced) ≡ starts_ident (x ++ v))
    ⊎ ((starts_ident (x ++ spaced) ≡ true) × (length x < run name_unit (x ++ spaced)))

no_escape : (b : Bool) (v : List ℕ) → b ≡ false → (b && true) ≡ (b && not (begins is_newline v))
no_escape true v e = cc
no_escape false v e = refl

pub starts_at : (v : List ℕ) → Facts v → (x : List ℕ) → StartsSame v x
unfolding escape_len escape_tail run_after
starts_at v f [] = inl (sym f.ident)
starts_at v f (a ∷ []) = by (a == 92) refl
  where
    here : StartsSame v (92 ∷ [])
    here = inr (refl, omega arith)

    by : (b : Bool) → (a == 92) ≡ b → StartsSame v (a ∷ [])
    by true e = subst (λ (c : ℕ). StartsSame v (c ∷ [])) (sym (eqb-true a 92 e)) here
    by false e = inl (λ i. cond (a == 45) (sym f.start i || sym f.begin i) (is_ident_start a || no_escape (a == 92) v e i))
starts_at v f (a ∷ b ∷ []) = by (b == 92) refl (a == 45) refl
  where
    here : StartsSame v (45 ∷ 92 ∷ [])
    here = inr (refl, omega arith)

    by : (d : Bool) → (b == 92) ≡ d → (g : Bool) → (a == 45) ≡ g → StartsSame v (a ∷ b ∷ [])
    by true e true k = subst (λ (c : ℕ). StartsSame v (c ∷ b ∷ [])) (sym (eqb-true a 45 k))
        (subst (λ (c : ℕ). StartsSame v (45 ∷ c ∷ [])) (sym (eqb-true b 92 e)) here)
    by true e false k = inl (rw k refl)
    by false e g k = inl (λ i. cond (a == 45) ((is_ident_start b || b == 45) || no_escape (b == 92) v e i)
        (is_ident_start a || (a == 92 && not (is_newline b))))
starts_at v f (a ∷ b ∷ c ∷ x) = inl refl

-- ---- units
abbrev pub UnitAt : (List ℕ → ℕ) → List ℕ → Type 0
UnitAt unit v = (x : List ℕ) → Near (over_seam x v) (length x) (unit (x ++ spaced)) (unit (x ++ v))

pub name_at : (v : List ℕ) → Facts v → UnitAt name_unit v
unfolding escape_len
name_at v f [] = near_same (sym f.name)
name_at v f (a ∷ x) = near_else (is_ident a) (length (a ∷ x)) _ _ 1 (escape_at v f (a ∷ x))

newline_at : (v : List ℕ) (a : ℕ) (x : List ℕ) → Near (over_seam (a ∷ x) v) (length (a ∷ x))
    (newline_len (a ∷ (x ++ spaced))) (newline_len (a ∷ (x ++ v)))
newline_at v a [] = by (over_seam (a ∷ []) v) refl
  where
    by : (b : Bool) → over_seam (a ∷ []) v ≡ b → Near (over_seam (a ∷ []) v) 1 (newline_len (a ∷ spaced)) (newline_len (a ∷ v))
    by false m = near_same (ap (λ (b : Bool). cond (is_newline a) (cond b 2 1) 0) (and_none (a == 13) ∙ sym m))
    by true m =
        let code : a ≡ 13 = eqb-true a 13 (both (a == 13) _ m).0 in
        near_more m (ap (λ (c : ℕ). newline_len (c ∷ spaced)) code)
        (ap (λ (b : Bool). cond (is_newline a) (cond b 2 1) 0) m ∙ ap (λ (c : ℕ). cond (is_newline c) 2 0) code)
newline_at v a (b ∷ x) = near_same refl

pub string_at : (quote : ℕ) (v : List ℕ) → is_quote quote ≡ true → Facts v → UnitAt (string_unit quote) v
unfolding escape_len escape_tail
string_at quote v is_a f [] = near_past (goes_on (32 == quote) (no_space quote is_a))
  where
    no_space : (quote : ℕ) → is_quote quote ≡ true → (32 == quote) ≡ false
    no_space quote e = grind (arith, nat_tests)

    goes_on : (b : Bool) → b ≡ false → 0 < cond (b || false) 0 1
    goes_on true e = cc
    goes_on false e = omega arith
string_at quote v is_a f (a ∷ []) = by (a == quote || is_newline a) (a == 92)
  where
    by : (b d : Bool) → Near (over_seam (a ∷ []) v) 1 (cond b 0 (cond d (cond (d && true) (1 + escape_tail spaced) 0) 1))
        (cond b 0 (cond d (cond (begins is_newline v) (1 + newline_len v) (cond (d && not (begins is_newline v)) (1 + escape_tail v) 0)) 1))
    by true d = near_same refl
    by false true = near_past (omega arith)
    by false false = near_same refl
string_at quote v is_a f (a ∷ b ∷ x) =
    near_else (a == quote || is_newline a) (length (a ∷ b ∷ x)) _ _ 0
    (near_cond (a == 92) (length (a ∷ b ∷ x)) _ _ 1
    (near_either (is_newline b) (length (a ∷ b ∷ x)) _ _ _ _ (near_one (length (b ∷ x)) _ _ (newline_at v b x))
    (escape_at v f (a ∷ b ∷ x))))

pub bad_url_at : (v : List ℕ) → Facts v → UnitAt bad_url_unit v
unfolding escape_len escape_tail
bad_url_at v f [] = near_past (omega arith)
bad_url_at v f (a ∷ []) = by (a == 41) (a == 92)
  where
    by : (b d : Bool) → Near (over_seam (a ∷ []) v) 1 (cond b 0 (cond (d && true) (cond (d && true) (1 + escape_tail spaced) 0) 1))
        (cond b 0 (cond (d && not (begins is_newline v)) (cond (d && not (begins is_newline v)) (1 + escape_tail v) 0) 1))
    by true d = near_same refl
    by false true = near_past (omega arith)
    by false false = near_same refl
bad_url_at v f (a ∷ b ∷ x) =
    near_else (a == 41) (length (a ∷ b ∷ x)) _ _ 0
    (near_cond (a == 92 && not (is_newline b)) (length (a ∷ b ∷ x)) _ _ 1 (escape_at v f (a ∷ b ∷ x)))

-- ---- runs
pub run_least : (unit : List ℕ → ℕ) (k : ℕ) (t : List ℕ) → k ≤ length t → k ≤ run_after unit k t
unfolding run_after
run_least unit zero t fits = omega arith
run_least unit (suc k) [] fits = absurd (omega (arith, fits))
run_least unit (suc k) (c ∷ t) fits = let more = run_least unit k t (omega (arith, fits)) in omega (arith, more)

none_here : (unit : List ℕ → ℕ) (v : List ℕ) → unit v ≡ 0 → run_after unit 0 v ≡ 0
unfolding run_after
none_here unit [] e = refl
none_here unit (c ∷ v) e = rw e refl

-- the run goes on over the space, or ends before it and behind an LF
abbrev pub Ends : (List ℕ → ℕ) → List ℕ → Type 0
Ends unit v = (0 < unit spaced) ⊎ ((unit spaced ≡ 0) × (begins (λ d. d == 10) v ≡ true → unit (drop 1 v) ≡ 0))

start_at : {s : Bool} (unit : List ℕ → ℕ) (v : List ℕ) (u : ℕ) (more : ℕ → ℕ) → Near false 0 u (unit v)
    → Near s 0 (unit_then u more) (run_after unit 0 v)
start_at unit v zero more (near_same same) = near_same (sym (none_here unit v (sym same)))
start_at unit v zero more (near_past far) = absurd (omega (arith, far))
start_at unit v zero more (near_more m e n) = absurd (cc)
start_at unit v (suc k) more h = near_past (omega arith)

then_both : (n u : ℕ) (f g : ℕ → ℕ) → ((k : ℕ) → Short n (f k) (g k)) → Short (suc n) (unit_then u f) (unit_then u g)
then_both n zero f g h = inl refl
then_both n (suc k) f g h = short_suc n (f k) (g k) (h k)

then_near : {s : Bool} (n u : ℕ) (f g : ℕ → ℕ) → ((k : ℕ) → Near s n (f k) (g k)) → Near s (suc n) (unit_then u f) (unit_then u g)
then_near n zero f g h = near_same refl
then_near n (suc k) f g h = near_suc n (f k) (g k) (h k)

then_far : (n u : ℕ) (f : ℕ → ℕ) → suc n < u → ((k : ℕ) → n < k → n < f k) → suc n < unit_then u f
then_far n zero f far h = absurd (omega (arith, far))
then_far n (suc k) f far h = let more = h k (omega (arith, far)) in omega (arith, more)

then_more : {s : Bool} (n u u' : ℕ) (f g : ℕ → ℕ) → u ≡ suc n → u' ≡ suc (suc n) → Near s n (f n) (g (suc n))
    → Near s (suc n) (unit_then u f) (unit_then u' g)
then_more {s = s} n u u' f g e e' h =
    subst (λ (w : ℕ). Near s (suc n) (unit_then w f) (unit_then u' g)) (sym e)
    (subst (λ (w : ℕ). Near s (suc n) (suc (f n)) (unit_then w g)) (sym e') (near_suc n (f n) (g (suc n)) h))

run_far : (unit : List ℕ → ℕ) (x : List ℕ) (k : ℕ) → length x < k → length x < run_after unit k (x ++ spaced)
unfolding run_after
run_far unit [] zero e = absurd (omega (arith, e))
run_far unit [] (suc k) e = omega arith
run_far unit (a ∷ x) zero e = absurd (omega (arith, e))
run_far unit (a ∷ x) (suc k) e = let more = run_far unit x k (omega (arith, e)) in omega (arith, more)

-- what a unit that ends with the text, or with the LF behind it, leaves
left_run : (unit : List ℕ → ℕ) (x v : List ℕ) → run_after unit (length x) (x ++ v) ≡ length x + run unit v
unfolding run_after
left_run unit [] v = omega arith
left_run unit (a ∷ x) v = let more = left_run unit x v in omega (arith, more)

left_line : (unit : List ℕ → ℕ) (x v : List ℕ) → begins (λ d. d == 10) v ≡ true
    → run_after unit (suc (length x)) (x ++ v) ≡ suc (length x) + run unit (drop 1 v)
unfolding run_after
left_line unit [] [] e = absurd (cc)
left_line unit [] (c ∷ v) e = omega arith
left_line unit (a ∷ x) v e = let more = left_line unit x v e in omega (arith, more)

both_left : {s : Bool} (unit : List ℕ → ℕ) (x v : List ℕ) → s ≡ true → begins (λ d. d == 10) v ≡ true → Ends unit v
    → Near s (length x) (run_after unit (length x) (x ++ spaced)) (run_after unit (suc (length x)) (x ++ v))
unfolding run_after
both_left unit x v m line ends =
    let one = left_run unit x spaced in
    let two = left_line unit x v line in
    elim ends [
      | inl some ↦ near_past (let here = some_run (unit spaced) (λ k. run_after unit k (125 ∷ [])) some in omega (arith, one, here, first))
      | inr none ↦
          let a = none_here unit spaced none.0 in
          let b = none_here unit (drop 1 v) (none.1 line) in
          near_more m (omega (arith, one, a)) (omega (arith, two, b))
    ]
  where
    some_run : (u : ℕ) (more : ℕ → ℕ) → 0 < u → 0 < unit_then u more
    some_run zero more e = e
    some_run (suc k) more e = omega arith

    first : run unit spaced ≡ unit_then (unit spaced) (λ k. run_after unit k (125 ∷ []))
    first = refl

run_after_at : (unit : List ℕ → ℕ) (v : List ℕ) → UnitAt unit v → Ends unit v → (skip : ℕ) (x : List ℕ)
    → Near (over_seam x v) (length x) (run_after unit skip (x ++ spaced)) (run_after unit skip (x ++ v))
unfolding run_after
run_after_at unit v local ends (suc skip) [] = near_past (omega arith)
run_after_at unit v local ends zero [] = start_at unit v (unit spaced) (λ k. run_after unit k (125 ∷ [])) (local [])
run_after_at unit v local ends (suc skip) (a ∷ x) =
    near_wide (length (a ∷ x)) _ _ (seam_tail v a x) (near_suc (length x) _ _ (run_after_at unit v local ends skip x))
run_after_at unit v local ends zero (a ∷ x) =
    by (local (a ∷ x)) (λ k. near_wide (length x) _ _ (seam_tail v a x) (run_after_at unit v local ends k x))
  where
    by : Near (over_seam (a ∷ x) v) (length (a ∷ x)) (unit (a ∷ (x ++ spaced))) (unit (a ∷ (x ++ v)))
        → ((k : ℕ) → Near (over_seam (a ∷ x) v) (length x) (run_after unit k (x ++ spaced)) (run_after unit k (x ++ v)))
        → Near (over_seam (a ∷ x) v) (length (a ∷ x)) (unit_then (unit (a ∷ (x ++ spaced))) (λ k. run_after unit k (x ++ spaced)))
        (unit_then (unit (a ∷ (x ++ v))) (λ k. run_after unit k (x ++ v)))
    by (near_same same) below =
        subst (λ (w : ℕ). Near (over_seam (a ∷ x) v) (length (a ∷ x))
        (unit_then (unit (a ∷ (x ++ spaced))) (λ k. run_after unit k (x ++ spaced))) (unit_then w (λ k. run_after unit k (x ++ v)))) same
        (then_near (length x) (unit (a ∷ (x ++ spaced))) (λ k. run_after unit k (x ++ spaced)) (λ k. run_after unit k (x ++ v)) below)
    by (near_past far) below = near_past (then_far (length x) _ (λ k. run_after unit k (x ++ spaced)) far (λ k e. run_far unit x k e))
    by (near_more m e n) below =
        then_more (length x) _ _ (λ k. run_after unit k (x ++ spaced)) (λ k. run_after unit k (x ++ v)) e n
        (both_left unit x v m (seam_line v (a ∷ x) m) ends)

pub run_at : (unit : List ℕ → ℕ) (v : List ℕ) → UnitAt unit v → Ends unit v → (x : List ℕ)
    → Near (over_seam x v) (length x) (run unit (x ++ spaced)) (run unit (x ++ v))
run_at unit v local ends x = run_after_at unit v local ends 0 x

-- a comment that is closed before the space is the same; the last code of a text closes none
comment_after : (v : List ℕ) (skip : ℕ) (x : List ℕ)
    → Short (length x) (run_after comment_unit skip (x ++ spaced)) (run_after comment_unit skip (x ++ v))
unfolding run_after
comment_after v (suc skip) [] = inr (omega arith)
comment_after v zero [] = inr (omega arith)
comment_after v (suc skip) (a ∷ x) = short_suc (length x) _ _ (comment_after v skip x)
comment_after v zero (a ∷ []) = inr (by (a == 42))
  where
    by : (b : Bool) → 1 < unit_then (cond (b && false) 0 1) (λ k. run_after comment_unit k spaced)
    by true = omega arith
    by false = omega arith
comment_after v zero (a ∷ b ∷ x) =
    then_both (length (b ∷ x)) (comment_unit (a ∷ b ∷ (x ++ spaced))) (λ k. run_after comment_unit k (b ∷ (x ++ spaced)))
    (λ k. run_after comment_unit k (b ∷ (x ++ v))) (λ k. comment_after v k (b ∷ x))

pub comment_run : (v x : List ℕ) → Short (length x) (run comment_unit (x ++ spaced)) (run comment_unit (x ++ v))
comment_run v x = comment_after v 0 x

-- ---- what may stand behind a prelude

-- a space or a tab with no quote behind the white space, or a comment
pub facts_space : (rest : List ℕ) → begins is_quote (drop (white_run (32 ∷ rest)) (32 ∷ rest)) ≡ false → Facts (32 ∷ rest)
unfolding escape_len
facts_space rest quoted = record {
  hex = refl;
  digit = refl;
  quote = refl;
  sign = refl;
  dot = refl;
  mark = refl;
  star = refl;
  bang = refl;
  greater = refl;
  dash = refl;
  round = refl;
  percent = refl;
  start = refl;
  escape = refl;
  begin = refl;
  name = refl;
  ident = refl;
  quoted = quoted;
  next_name = λ e. absurd (cc);
  next_round = λ e. absurd (cc);
}

pub facts_tab : (rest : List ℕ) → begins is_quote (drop (white_run (9 ∷ rest)) (9 ∷ rest)) ≡ false → Facts (9 ∷ rest)
unfolding escape_len
facts_tab rest quoted = record {
  hex = refl;
  digit = refl;
  quote = refl;
  sign = refl;
  dot = refl;
  mark = refl;
  star = refl;
  bang = refl;
  greater = refl;
  dash = refl;
  round = refl;
  percent = refl;
  start = refl;
  escape = refl;
  begin = refl;
  name = refl;
  ident = refl;
  quoted = quoted;
  next_name = λ e. absurd (cc);
  next_round = λ e. absurd (cc);
}

pub facts_line : (rest : List ℕ) → name_unit rest ≡ 0 → begins (λ d. d == 40) rest ≡ false
    → begins is_quote (drop (white_run (10 ∷ rest)) (10 ∷ rest)) ≡ false → Facts (10 ∷ rest)
unfolding escape_len
facts_line rest name round quoted = record {
  hex = refl;
  digit = refl;
  quote = refl;
  sign = refl;
  dot = refl;
  mark = refl;
  star = refl;
  bang = refl;
  greater = refl;
  dash = refl;
  round = refl;
  percent = refl;
  start = refl;
  escape = refl;
  begin = refl;
  name = refl;
  ident = refl;
  quoted = quoted;
  next_name = λ e. name;
  next_round = λ e. round;
}

pub facts_feed : (rest : List ℕ) → begins is_quote (drop (white_run (12 ∷ rest)) (12 ∷ rest)) ≡ false → Facts (12 ∷ rest)
unfolding escape_len
facts_feed rest quoted = record {
  hex = refl;
  digit = refl;
  quote = refl;
  sign = refl;
  dot = refl;
  mark = refl;
  star = refl;
  bang = refl;
  greater = refl;
  dash = refl;
  round = refl;
  percent = refl;
  start = refl;
  escape = refl;
  begin = refl;
  name = refl;
  ident = refl;
  quoted = quoted;
  next_name = λ e. absurd (cc);
  next_round = λ e. absurd (cc);
}

pub facts_return : (rest : List ℕ) → begins is_quote (drop (white_run (13 ∷ rest)) (13 ∷ rest)) ≡ false → Facts (13 ∷ rest)
unfolding escape_len
facts_return rest quoted = record {
  hex = refl;
  digit = refl;
  quote = refl;
  sign = refl;
  dot = refl;
  mark = refl;
  star = refl;
  bang = refl;
  greater = refl;
  dash = refl;
  round = refl;
  percent = refl;
  start = refl;
  escape = refl;
  begin = refl;
  name = refl;
  ident = refl;
  quoted = quoted;
  next_name = λ e. absurd (cc);
  next_round = λ e. absurd (cc);
}

pub facts_comment : (rest : List ℕ) → Facts (47 ∷ 42 ∷ rest)
unfolding escape_len
facts_comment rest = record {
  hex = refl;
  digit = refl;
  quote = refl;
  sign = refl;
  dot = refl;
  mark = refl;
  star = refl;
  bang = refl;
  greater = refl;
  dash = refl;
  round = refl;
  percent = refl;
  start = refl;
  escape = refl;
  begin = refl;
  name = refl;
  ident = refl;
  quoted = refl;
  next_name = λ e. absurd (cc);
  next_round = λ e. absurd (cc);
}
