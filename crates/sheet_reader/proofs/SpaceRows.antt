-- Rows before a space and `}` against rows before a stop or the text's end: a piece that ends before the space is the same.
use Rattle.std.proofs.Common.{◌≡◌, ◌⊎◌, inl, inr, ℕ, suc, ◌+◌, ◌<◌, ◌≤◌, ◌==◌, Bool, true, false, cond, ◌&&◌, ◌||◌, not, nat_lt}
use Rattle.std.proofs.Common.{List, [], ◌∷◌, ◌++◌, length, drop, min, nat_eq, Option, Some, None, refl, ap, sym, ◌∙◌, subst}
use Rattle.std.proofs.Common.{length-append, arith}
use Rattle.std.specs.Char.{is_ascii_digit}
use Rattle.std.proofs.lemmas.List.{drop-append-le, length-drop}
use Rattle.std.proofs.lemmas.Bool.Decides.{nat_tests}
use Rattle.css_tokens.specs.declared.token.TokenKind.{TokenKind}
use Rattle.css_tokens.specs.declared.token.TokenKind.TheVariants.{Comment, WhiteSpace, Str, BadString, Hash, Number, Percentage, Dimension}
use Rattle.css_tokens.specs.declared.token.TokenKind.TheVariants.{AtKeyword, Ident}
use Rattle.sheet_reader.proofs.Behind.{Piece}
use Rattle.css_tokens.specs.Codes.{begins, is_newline, is_white, is_quote, is_sign}
use Rattle.css_tokens.specs.Runs.{run, comment_unit, string_unit, name_unit, name_len, starts_ident, white_run}
use Rattle.css_tokens.specs.Runs.{digits, fraction_len, decimal_len, sign_len, exponent_len, number_len}
use Rattle.css_tokens.specs.Rows.{◌or◌, when, piece}
use Rattle.css_tokens.specs.Rows.{comment, white_space, string, bad_string, hash, numeric, cdc}
use Rattle.css_tokens.specs.Rows.{cdo, at_keyword, mark}
use Rattle.css_tokens.proofs.Ends.{run_stops}
use Rattle.sheet_reader.proofs.Behind.{spaced}
use Rattle.sheet_reader.proofs.SpaceUnits.{Facts, Short, short_add, short_one, begins_at, prefix_at, prefix_in, StartsSame, starts_at}
use Rattle.sheet_reader.proofs.SpaceUnits.{Near, near_same, near_past, near_more, near_wide, near_add, near_one}
use Rattle.sheet_reader.proofs.SpaceUnits.{comment_run}
use Rattle.sheet_reader.proofs.SpaceUnits.{name_at, string_at, run_at, over_seam, seam_tail, seam_drop, seam_some}
use Rattle.css_tokens.specs.Escapes.{escape_len}

-- pieces of this kind may end in a name
abbrev pub ends_in_name : TokenKind → Bool
ends_in_name Ident = true
ends_in_name (Hash flag) = true
ends_in_name Dimension = true
ends_in_name AtKeyword = true
ends_in_name _ = false

-- An answer of a row before the space, and one before what stands behind: both none, the same, or the first is past n codes; or, where
-- a CR LF stands over the seam, of n codes and of one more
pub data Keeps (seam : Bool) (n : ℕ) : Option Piece → Option Piece → Type 0 where
  keeps_none : Keeps seam n None None
  keeps_same : (p : Piece) → Keeps seam n (Some p) (Some p)
  keeps_long : (p : Piece) (b : Option Piece) → n < p.len → Keeps seam n (Some p) b
  keeps_more : (k : TokenKind) → ends_in_name k ≡ true → seam ≡ true → Keeps seam n (Some (piece k n)) (Some (piece k (suc n)))

pub or_keeps : {s : Bool} (n : ℕ) (a a' b b' : Option Piece) → Keeps s n a a' → Keeps s n b b' → Keeps s n (a or b) (a' or b')
or_keeps n a a' b b' keeps_none more = more
or_keeps n a a' b b' (keeps_same p) more = keeps_same p
or_keeps n a a' b b' (keeps_long p q far) more = keeps_long p (q or b') far
or_keeps n a a' b b' (keeps_more k name m) more = keeps_more k name m

pub same_keeps : {s : Bool} (n : ℕ) (a b : Option Piece) → a ≡ b → Keeps s n a b
same_keeps {s = s} n None b e = subst (Keeps s n None) e keeps_none
same_keeps {s = s} n (Some p) b e = subst (Keeps s n (Some p)) e (keeps_same p)

pub more_keeps : {s : Bool} (n : ℕ) (k : TokenKind) (a b : ℕ) → ends_in_name k ≡ true → s ≡ true → a ≡ n → b ≡ suc n
    → Keeps s n (Some (piece k a)) (Some (piece k b))
more_keeps {s = s} n k a b name m e g =
    subst (λ (x : ℕ). Keeps s n (Some (piece k x)) (Some (piece k b))) (sym e)
    (subst (λ (x : ℕ). Keeps s n (Some (piece k n)) (Some (piece k x))) (sym g) (keeps_more k name m))

pub near_keeps : {s : Bool} (n : ℕ) (test : Bool) (kind : TokenKind) (a b : ℕ) → ends_in_name kind ≡ true → Near s n a b
    → Keeps s n (when test (piece kind a)) (when test (piece kind b))
near_keeps n true kind a b name (near_same same) = same_keeps n _ _ (ap (λ (k : ℕ). Some (piece kind k)) same)
near_keeps n true kind a b name (near_past far) = keeps_long (piece kind a) (Some (piece kind b)) far
near_keeps n true kind a b name (near_more m e g) = more_keeps n kind a b name m e g
near_keeps n false kind a b name h = keeps_none

pub short_keeps : {s : Bool} (n : ℕ) (test : Bool) (kind : TokenKind) (a b : ℕ) → Short n a b
    → Keeps s n (when test (piece kind a)) (when test (piece kind b))
short_keeps n true kind a b (inl same) = same_keeps n _ _ (ap (λ (k : ℕ). Some (piece kind k)) same)
short_keeps n true kind a b (inr far) = keeps_long (piece kind a) (Some (piece kind b)) far
short_keeps n false kind a b h = keeps_none

pub less : (a b : ℕ) → (a < b) ⊎ (b ≤ a)
less a b = grind arith

-- a piece that k codes close, which stand before n where the open piece does
pub closed_short : (n k a b all others : ℕ) → n < all → n ≤ others → Short n a b → (a ≤ n → a + k ≤ n)
    → Short n (min (a + k) all) (min (b + k) others)
closed_short n k a b all others more further (inl same) fits =
    elim (less n a) [
      | inl past ↦ inr (omega arith)
      | inr within ↦ let here = fits within in inl (omega (arith, same, here))
    ]
closed_short n k a b all others more further (inr far) fits = inr (omega (arith, far))

-- the same where a code closes it: the open one ends before n then
pub closed_near : {s : Bool} (n a b all others : ℕ) → n < all → n ≤ others → Near s n a b → (a ≤ n → a + 1 ≤ n)
    → Short n (min (a + 1) all) (min (b + 1) others)
closed_near n a b all others more further (near_same same) fits = closed_short n 1 a b all others more further (inl same) fits
closed_near n a b all others more further (near_past far) fits = closed_short n 1 a b all others more further (inr far) fits
closed_near n a b all others more further (near_more m e g) fits = let here = fits (omega (arith, e)) in absurd (omega (arith, e, here))

pub longer : (x : List ℕ) → length x < length (x ++ spaced)
longer x = omega (arith, length-append x spaced)

pub as_long : (x v : List ℕ) → length x ≤ length (x ++ v)
as_long x v = omega (arith, length-append x v)

-- comments
star_and : (a b : Bool) → b ≡ false → ◌≡◌ {A = ℕ} (cond (a && b) 0 1) 0 → ⊥
star_and true true e n = cc
star_and true false e n = omega arith
star_and false b e n = omega arith

two_left : (y : List ℕ) → comment_unit (y ++ spaced) ≡ 0 → 2 ≤ length y
two_left [] none = omega (arith, none)
two_left (a ∷ []) none = absurd (star_and (a == 42) false refl none)
two_left (a ∷ b ∷ y) none = omega arith

comment_fits : (x : List ℕ) → run comment_unit (x ++ spaced) ≤ length x → run comment_unit (x ++ spaced) + 2 ≤ length x
comment_fits x within =
    let r = run comment_unit (x ++ spaced) in
    let at : drop r (x ++ spaced) ≡ drop r x ++ spaced = drop-append-le r x spaced within in
    let two = two_left (drop r x) (sym (ap comment_unit at) ∙ run_stops comment_unit refl (x ++ spaced)) in
    omega (arith, two, length-drop r x)

pub comment_keeps : {s : Bool} (v : List ℕ) → Facts v → (a : ℕ) (x : List ℕ)
    → Keeps s (length (a ∷ x)) (comment (a ∷ (x ++ spaced))) (comment (a ∷ (x ++ v)))
unfolding comment
comment_keeps {s = s} [] f a [] = by_first (nat_eq 47 a) _ _
  where
    by_first : (b : Bool) (p q : Piece) → Keeps s 1 (when (b && (false && true)) p) (when (b && false) q)
    by_first true p q = keeps_none
    by_first false p q = keeps_none
comment_keeps {s = s} (c ∷ v) f a [] =
    let star : nat_eq 42 c ≡ false = flip c f.star in
    rw star (by_first (nat_eq 47 a) _ _)
  where
    flip : (c : ℕ) → (c == 42) ≡ false → nat_eq 42 c ≡ false
    flip c e = grind (arith, nat_tests)

    by_first : (b : Bool) (p q : Piece) → Keeps s 1 (when (b && (false && true)) p) (when (b && (false && true)) q)
    by_first true p q = keeps_none
    by_first false p q = keeps_none
comment_keeps v f a (b ∷ x) =
    let size : 2 + length x ≡ length (a ∷ b ∷ x) = omega arith in
    let near : Short (length (a ∷ b ∷ x)) (2 + run comment_unit (x ++ spaced)) (2 + run comment_unit (x ++ v)) = subst
    (λ (n : ℕ). Short n (2 + run comment_unit (x ++ spaced)) (2 + run comment_unit (x ++ v))) size
    (short_add 2 (length x) _ _ (comment_run v x)) in
    short_keeps (length (a ∷ b ∷ x)) (nat_eq 47 a && (nat_eq 42 b && true)) Comment _ _
    (closed_short (length (a ∷ b ∷ x)) 2 _ _ _ _ (longer (a ∷ b ∷ x)) (as_long (a ∷ b ∷ x) v) near
    (λ within. let fits = comment_fits x (omega arith) in omega arith))

-- white space: a run up to the space takes it
pub white_short : (v x : List ℕ) → Short (length x) (white_run (x ++ spaced)) (white_run (x ++ v))
white_short v [] = inr (omega arith)
white_short v (a ∷ x) = by (is_white a) (white_short v x)
  where
    by : (b : Bool) → Short (length x) (white_run (x ++ spaced)) (white_run (x ++ v))
        → Short (length (a ∷ x)) (cond b (1 + white_run (x ++ spaced)) 0) (cond b (1 + white_run (x ++ v)) 0)
    by true h = short_one (length x) _ _ h
    by false h = inl refl

pub white_keeps : {s : Bool} (v : List ℕ) → Facts v → (a : ℕ) (x : List ℕ)
    → Keeps s (length (a ∷ x)) (white_space (a ∷ (x ++ spaced))) (white_space (a ∷ (x ++ v)))
unfolding white_space
white_keeps v f a x = short_keeps (length (a ∷ x)) (is_white a) WhiteSpace _ _ (white_short v (a ∷ x))

-- strings and bad strings, together
no_space : (quote : ℕ) → is_quote quote ≡ true → (32 == quote) ≡ false
no_space quote e = grind (arith, nat_tests)

goes_on : (quote : ℕ) → is_quote quote ≡ true → 0 < string_unit quote spaced
unfolding escape_len
goes_on quote e = by (32 == quote) (no_space quote e)
  where
    by : (b : Bool) → b ≡ false → 0 < cond (b || false) 0 1
    by true e = cc
    by false e = omega arith

string_fits : (quote : ℕ) (x : List ℕ) → is_quote quote ≡ true → run (string_unit quote) (x ++ spaced) ≤ length x
    → run (string_unit quote) (x ++ spaced) + 1 ≤ length x
string_fits quote x is_a within =
    let r = run (string_unit quote) (x ++ spaced) in
    let at : drop r (x ++ spaced) ≡ drop r x ++ spaced = drop-append-le r x spaced within in
    let one = one_left (drop r x) (sym (ap (string_unit quote) at) ∙ run_stops (string_unit quote) refl (x ++ spaced)) in
    omega (arith, one, length-drop r x)
  where
    goes_on : (b : Bool) → b ≡ false → ◌≡◌ {A = ℕ} (cond (b || false) 0 1) 0 → ⊥
    goes_on true e z = cc
    goes_on false e z = omega arith

    one_left : (y : List ℕ) → string_unit quote (y ++ spaced) ≡ 0 → 1 ≤ length y
    one_left [] none = absurd (goes_on (32 == quote) (no_space quote is_a) none)
    one_left (a ∷ y) none = omega arith

-- what the two rows give, by their tests
strings : Bool → Bool → ℕ → ℕ → Option Piece
strings quote line m all = when (quote && not line) (piece Str (min (m + 1) all)) or when (quote && line) (piece BadString m)

strings_long : {s : Bool} (n m m' all all' : ℕ) (quote line line' : Bool) → n < m → n < all
    → Keeps s n (strings quote line m all) (strings quote line' m' all')
unfolding strings
strings_long n m m' all all' false line line' a d = keeps_none
strings_long n m m' all all' true true line' a d = keeps_long _ _ a
strings_long n m m' all all' true false line' a d = keeps_long _ _ (omega arith)

strings_short : {s : Bool} (n m all all' : ℕ) (quote line : Bool) → n < all → n ≤ all' → (quote ≡ true → m + 1 ≤ n)
    → Keeps s n (strings quote line m all) (strings quote line m all')
unfolding strings
strings_short n m all all' false line d e fits = keeps_none
strings_short n m all all' true true d e fits = keeps_same (piece BadString m)
strings_short n m all all' true false d e fits = let here = fits refl in same_keeps n _ _
    (ap (λ (k : ℕ). Some (piece Str k)) (omega (arith, here)))

begins_some : (p : ℕ → Bool) (v w : List ℕ) → 0 < length w → begins p (w ++ spaced) ≡ begins p (w ++ v)
begins_some p v [] some = absurd (omega (arith, some))
begins_some p v (c ∷ w) some = refl

strings_by : (v : List ℕ) → Facts v → (a : ℕ) (x : List ℕ) → is_quote a ≡ true
    → Keeps (over_seam (a ∷ x) v) (length (a ∷ x)) (string (a ∷ (x ++ spaced)) or bad_string (a ∷ (x ++ spaced)))
    (string (a ∷ (x ++ v)) or bad_string (a ∷ (x ++ v)))
unfolding string bad_string strings
strings_by v f a x is_a =
    let r = run (string_unit a) (x ++ spaced) in
    let s = run (string_unit a) (x ++ v) in
    let near : Near (over_seam x v) (length x) r s = run_at (string_unit a) v (string_at a v is_a f) (inl (goes_on a is_a)) x in
    let n = length (a ∷ x) in
    let more = longer (a ∷ x) in
    let further = as_long (a ∷ x) v in
    let l1 : Bool = begins is_newline (drop (1 + r) (a ∷ (x ++ spaced))) in
    let l2 : Bool = begins is_newline (drop (1 + s) (a ∷ (x ++ v))) in
    elim near [
      | near_more m e g ↦ let fits = string_fits a x is_a (omega (arith, e)) in absurd (omega (arith, e, fits))
      | near_past far ↦ strings_long n (1 + r) (1 + s) (length (a ∷ (x ++ spaced))) (length (a ∷ (x ++ v))) (is_quote a) l1 l2
          (omega (arith, far)) more
      | near_same same ↦ elim (less (length x) r) [
        | inl past ↦ strings_long n (1 + r) (1 + s) (length (a ∷ (x ++ spaced))) (length (a ∷ (x ++ v))) (is_quote a) l1 l2
            (omega arith) more
        | inr within ↦
            let one : 1 + r ≡ suc r = omega arith in
            let two : 1 + s ≡ suc r = omega (arith, same) in
            let line : begins is_newline (drop (1 + r) (a ∷ (x ++ spaced))) ≡ begins is_newline (drop (1 + s) (a ∷ (x ++ v))) =
            ap (λ (k : ℕ). begins is_newline (drop k (a ∷ (x ++ spaced)))) one ∙ ap (begins is_newline)
            (drop-append-le r x spaced within)
            ∙ begins_some is_newline v (drop r x) (let fits = string_fits a x is_a within in omega (arith, fits, length-drop r x))
            ∙ sym (ap (λ (k : ℕ). begins is_newline (drop k (a ∷ (x ++ v)))) two ∙ ap (begins is_newline)
            (drop-append-le r x v within)) in
            let length_same : 1 + r ≡ 1 + s = omega (arith, same) in
            let here = strings_short n (1 + r) (length (a ∷ (x ++ spaced))) (length (a ∷ (x ++ v))) (is_quote a)
            (begins is_newline (drop (1 + r) (a ∷ (x ++ spaced)))) more further
            (λ is_a. let fits = string_fits a x is_a within in omega arith) in
            subst
            (λ (k : ℕ). Keeps (over_seam (a ∷ x) v) n (strings (is_quote a) (begins is_newline (drop (1 + r) (a ∷ (x ++ spaced)))) (1 + r)
            (length (a ∷ (x ++ spaced))))
            (strings (is_quote a) (begins is_newline (drop (1 + s) (a ∷ (x ++ v)))) k
            (length (a ∷ (x ++ v))))) length_same
            (subst (λ (b : Bool). Keeps (over_seam (a ∷ x) v) n
            (strings (is_quote a) (begins is_newline (drop (1 + r) (a ∷ (x ++ spaced)))) (1 + r)
            (length (a ∷ (x ++ spaced)))) (strings (is_quote a) b (1 + r) (length (a ∷ (x ++ v))))) line here)
      ]
    ]

pub strings_keeps : (v : List ℕ) → Facts v → (a : ℕ) (x : List ℕ)
    → Keeps (over_seam (a ∷ x) v) (length (a ∷ x)) (string (a ∷ (x ++ spaced)) or bad_string (a ∷ (x ++ spaced)))
    (string (a ∷ (x ++ v)) or bad_string (a ∷ (x ++ v)))
unfolding string bad_string
strings_keeps v f a x =
    elim (is_quote a) as
    (λ b. is_quote a ≡ b → Keeps (over_seam (a ∷ x) v) (length (a ∷ x)) (string (a ∷ (x ++ spaced)) or bad_string (a ∷ (x ++ spaced)))
    (string (a ∷ (x ++ v)) or bad_string (a ∷ (x ++ v)))) [
      | true ↦ λ e. strings_by v f a x e
      | false ↦ λ e. rw e keeps_none
    ] refl

-- hashes and at-keywords
no_unit : name_unit spaced ≡ 0
unfolding escape_len
no_unit = refl

pub name_near : (v : List ℕ) → Facts v → (x : List ℕ) → Near (over_seam x v) (length x) (name_len (x ++ spaced)) (name_len (x ++ v))
name_near v f x = run_at name_unit v (name_at v f) (inr (no_unit, f.next_name)) x

positive : (k n : ℕ) → n < k → nat_lt 0 k ≡ true
positive k n e = grind (arith, nat_tests)

pub hash_keeps : (v : List ℕ) → Facts v → (a : ℕ) (x : List ℕ)
    → Keeps (over_seam (a ∷ x) v) (length (a ∷ x)) (hash (a ∷ (x ++ spaced))) (hash (a ∷ (x ++ v)))
unfolding hash
hash_keeps v f a x = by (starts_at v f x)
  where
    seam : Bool
    seam = over_seam (a ∷ x) v

    long : (m k : ℕ) (s t b : Bool) → length x < m
        → Keeps seam (length (a ∷ x)) (when (b && nat_lt 0 m) (piece (Hash s) (1 + m))) (when (b && nat_lt 0 k) (piece (Hash t) (1 + k)))
    long m k s t false far = keeps_none
    long m k s t true far = let some = positive m (length x) far in rw some
        (keeps_long (piece (Hash s) (1 + m)) (when (true && nat_lt 0 k) (piece (Hash t) (1 + k))) (omega (arith, far)))

    more : (m k : ℕ) (s b : Bool) → over_seam x v ≡ true → m ≡ length x → k ≡ suc (length x)
        → Keeps seam (length (a ∷ x)) (when (b && nat_lt 0 m) (piece (Hash s) (1 + m))) (when (b && nat_lt 0 k) (piece (Hash s) (1 + k)))
    more m k s false over e g = keeps_none
    more m k s true over e g =
        let some = positive m 0 (omega (arith, e, seam_some v x over)) in
        let some_too = positive k 0 (omega (arith, g)) in
        rw (some, some_too)
        (more_keeps (length (a ∷ x)) (Hash s) (1 + m) (1 + k) refl (seam_tail v a x over) (omega (arith, e)) (omega (arith, g)))

    same : (m k : ℕ) (s t b : Bool) → Near (over_seam x v) (length x) m k → s ≡ t
        → Keeps seam (length (a ∷ x)) (when (b && nat_lt 0 m) (piece (Hash s) (1 + m))) (when (b && nat_lt 0 k) (piece (Hash t) (1 + k)))
    same m k s t b (near_same e) h = same_keeps _ _ _ (λ i. when (b && nat_lt 0 (e i)) (piece (Hash (h i)) (1 + e i)))
    same m k s t b (near_past far) h = long m k s t b far
    same m k s t b (near_more over e g) h =
        subst (λ (u : Bool). Keeps seam (length (a ∷ x)) (when (b && nat_lt 0 m) (piece (Hash s) (1 + m)))
        (when (b && nat_lt 0 k) (piece (Hash u) (1 + k)))) h (more m k s b over e g)

    by : StartsSame v x → Keeps seam (length (a ∷ x)) (hash (a ∷ (x ++ spaced))) (hash (a ∷ (x ++ v)))
    by (inl e) = same (name_len (x ++ spaced)) (name_len (x ++ v)) (starts_ident (x ++ spaced)) (starts_ident (x ++ v)) (a == 35)
        (name_near v f x) e
    by (inr far) = long (name_len (x ++ spaced)) (name_len (x ++ v)) (starts_ident (x ++ spaced)) (starts_ident (x ++ v)) (a == 35) far.1

-- a piece that is past n codes, where the test of the first holds
long_when : {seam : Bool} (n : ℕ) (b s t : Bool) (p q : Piece) → s ≡ true → n < p.len → Keeps seam n (when (b && s) p) (when (b && t) q)
long_when n false s t p q e far = keeps_none
long_when n true true t p q e far = keeps_long p (when t q) far
long_when n true false t p q e far = cc

pub at_keeps : (v : List ℕ) → Facts v → (a : ℕ) (x : List ℕ)
    → Keeps (over_seam (a ∷ x) v) (length (a ∷ x)) (at_keyword (a ∷ (x ++ spaced))) (at_keyword (a ∷ (x ++ v)))
unfolding at_keyword
at_keeps v f a x = by (starts_at v f x)
  where
    by : StartsSame v x → Keeps (over_seam (a ∷ x) v) (length (a ∷ x)) (at_keyword (a ∷ (x ++ spaced))) (at_keyword (a ∷ (x ++ v)))
    by (inl starts) =
        subst (λ (b : Bool). Keeps (over_seam (a ∷ x) v) (length (a ∷ x))
        (when (a == 64 && starts_ident (x ++ spaced)) (piece AtKeyword (1 + name_len (x ++ spaced))))
        (when (a == 64 && b) (piece AtKeyword (1 + name_len (x ++ v))))) starts
        (near_keeps (length (a ∷ x)) (a == 64 && starts_ident (x ++ spaced)) AtKeyword _ _ refl
        (near_wide (length (a ∷ x)) _ _ (seam_tail v a x) (near_one (length x) _ _ (name_near v f x))))
    by (inr far) = long_when (length (a ∷ x)) (a == 64) (starts_ident (x ++ spaced)) (starts_ident (x ++ v)) _ _ far.0
        (omega (arith, far.1))

-- numbers
record NumberAt (v x : List ℕ) (len : List ℕ → ℕ) : Type 0 where
  same : len (x ++ spaced) ≡ len (x ++ v)
  within : len (x ++ spaced) ≤ length x

digits_both : (v : List ℕ) → Facts v → (x : List ℕ) → NumberAt v x digits
digits_both v f x = record { same = prefix_at is_ascii_digit v x refl f.digit; within = prefix_in is_ascii_digit x refl }

at_most : (b : Bool) (n m : ℕ) → n ≤ m → cond b n 0 ≤ m
at_most true n m e = e
at_most false n m e = omega arith

none_there : (b : Bool) (n : ℕ) → b ≡ false → ◌≡◌ {A = ℕ} 0 (cond b n 0)
none_there true n e = cc
none_there false n e = refl

none_both : (b d : Bool) (n : ℕ) → b ≡ false → ◌≡◌ {A = ℕ} 0 (cond (b && d) n 0)
none_both true d n e = cc
none_both false d n e = refl

fraction_both : (v : List ℕ) → Facts v → (x : List ℕ) → NumberAt v x fraction_len
fraction_both v f [] = record { same = none_both _ _ _ f.dot; within = omega arith }
fraction_both v f (a ∷ x) =
    let d = digits_both v f x in
    record {
      same = ap (λ (b : Bool). cond (a == 46 && b) (1 + digits (x ++ spaced)) 0) (begins_at is_ascii_digit v x refl f.digit)
          ∙ ap (λ (n : ℕ). cond (a == 46 && begins is_ascii_digit (x ++ v)) (1 + n) 0) d.same;
      within = at_most (a == 46 && begins is_ascii_digit (x ++ spaced)) (1 + digits (x ++ spaced)) (length (a ∷ x))
          (omega (arith, d.within));
    }

decimal_both : (v : List ℕ) → Facts v → (x : List ℕ) → NumberAt v x decimal_len
decimal_both v f x =
    let d = digits_both v f x in
    let n = digits (x ++ spaced) in
    let one : drop n (x ++ spaced) ≡ drop n x ++ spaced = drop-append-le n x spaced d.within in
    let two : drop (digits (x ++ v)) (x ++ v)
    ≡ drop n x ++ v = ap (λ (k : ℕ). drop k (x ++ v)) (sym d.same) ∙ drop-append-le n x v d.within in
    let more = fraction_both v f (drop n x) in
    let first : fraction_len (drop n (x ++ spaced)) ≡ fraction_len (drop n x ++ spaced) = ap fraction_len one in
    let second : fraction_len (drop (digits (x ++ v)) (x ++ v))
    ≡ fraction_len (drop n x ++ v) = ap fraction_len two in
    record { same = omega (arith, d.same, first, second, more.same); within = omega (arith, d.within, first, more.within, length-drop n x) }

sign_both : (v : List ℕ) → Facts v → (x : List ℕ) → NumberAt v x sign_len
sign_both v f [] = record { same = none_there _ 1 f.sign; within = omega arith }
sign_both v f (a ∷ x) = record { same = refl; within = at_most (is_sign a) 1 (length (a ∷ x)) (omega arith) }

exponents : (b t t' : Bool) (m m' n n' : ℕ) → t ≡ t' → m ≡ m' → n ≡ n' → ◌≡◌ {A = ℕ} (cond (b && t) (m + n) 0) (cond (b && t') (m' + n') 0)
exponents b t t' m m' n n' e f g = rw (e, f, g) refl

exponent_both : (v : List ℕ) → Facts v → (x : List ℕ) → NumberAt v x exponent_len
exponent_both v f [] = record { same = none_both _ _ _ f.mark; within = omega arith }
exponent_both v f (a ∷ x) =
    let s = sign_both v f x in
    let n = sign_len (x ++ spaced) in
    let one : drop (1 + n) (a ∷ (x ++ spaced))
    ≡ drop n x ++ spaced = ap (λ (k : ℕ). drop k (a ∷ (x ++ spaced))) (suc_is n) ∙ drop-append-le n x spaced s.within in
    let two : drop (1 + sign_len (x ++ v)) (a ∷ (x ++ v)) ≡ drop n x ++ v =
    ap (λ (k : ℕ). drop (1 + k) (a ∷ (x ++ v))) (sym s.same) ∙ ap (λ (k : ℕ). drop k (a ∷ (x ++ v)))
    (suc_is n) ∙ drop-append-le n x v s.within in
    let d = digits_both v f (drop n x) in
    let first : digits (drop (1 + n) (a ∷ (x ++ spaced))) ≡ digits (drop n x ++ spaced) = ap digits one in
    let second : digits (drop (1 + sign_len (x ++ v)) (a ∷ (x ++ v))) ≡ digits (drop n x ++ v) = ap digits two in
    record {
      same = exponents (a == 69 || a == 101) _ _ (1 + n) (1 + sign_len (x ++ v)) _ _
          (ap (begins is_ascii_digit) one ∙ begins_at is_ascii_digit v (drop n x) refl f.digit ∙ sym (ap (begins is_ascii_digit) two))
          (omega (arith, s.same)) (first ∙ d.same ∙ sym second);
      within = at_most ((a == 69 || a == 101) && begins is_ascii_digit (drop (1 + n) (a ∷ (x ++ spaced))))
          (1 + n + digits (drop (1 + n) (a ∷ (x ++ spaced)))) (length (a ∷ x))
          (omega (arith, first, d.within, length-drop n x, s.within));
    }
  where
    suc_is : (n : ℕ) → 1 + n ≡ suc n
    suc_is n = omega arith

number_both : (v : List ℕ) → Facts v → (x : List ℕ) → NumberAt v x number_len
unfolding number_len
number_both v f x =
    let s = sign_both v f x in
    let n = sign_len (x ++ spaced) in
    let one : drop n (x ++ spaced) ≡ drop n x ++ spaced = drop-append-le n x spaced s.within in
    let two : drop (sign_len (x ++ v)) (x ++ v)
    ≡ drop n x ++ v = ap (λ (k : ℕ). drop k (x ++ v)) (sym s.same) ∙ drop-append-le n x v s.within in
    let d = decimal_both v f (drop n x) in
    let first : decimal_len (drop n (x ++ spaced)) ≡ decimal_len (drop n x ++ spaced) = ap decimal_len one in
    let second : decimal_len (drop (sign_len (x ++ v)) (x ++ v))
    ≡ decimal_len (drop n x ++ spaced) = ap decimal_len two ∙ sym d.same in
    let m = n + decimal_len (drop n (x ++ spaced)) in
    let fits : m ≤ length x = omega (arith, first, d.within, length-drop n x, s.within) in
    let m_same : m ≡ sign_len (x ++ v)
    + decimal_len (drop (sign_len (x ++ v)) (x ++ v)) = omega (arith, s.same, first, second) in
    let three : drop m (x ++ spaced) ≡ drop m x ++ spaced = drop-append-le m x spaced fits in
    let four : drop (sign_len (x ++ v) + decimal_len (drop (sign_len (x ++ v)) (x ++ v))) (x ++ v)
    ≡ drop m x ++ v = ap (λ (k : ℕ). drop k (x ++ v)) (sym m_same) ∙ drop-append-le m x v fits in
    let e = exponent_both v f (drop m x) in
    let third : exponent_len (drop m (x ++ spaced)) ≡ exponent_len (drop m x ++ spaced) = ap exponent_len three in
    let fourth : exponent_len (drop (sign_len (x ++ v) + decimal_len (drop (sign_len (x ++ v)) (x ++ v)))
    (x ++ v)) ≡ exponent_len (drop m x ++ spaced) = ap exponent_len four ∙ sym e.same in
    record {
      same = by_zero (decimal_len (drop n (x ++ spaced))) (decimal_len (drop (sign_len (x ++ v)) (x ++ v)))
          (m + exponent_len (drop m (x ++ spaced)))
          (sign_len (x ++ v) + decimal_len (drop (sign_len (x ++ v)) (x ++ v))
          + exponent_len (drop (sign_len (x ++ v) + decimal_len (drop (sign_len (x ++ v)) (x ++ v)))
          (x ++ v))) (first ∙ sym second) (omega (arith, m_same, third, fourth));
      within = not_most (decimal_len (drop n (x ++ spaced)) == 0) (m + exponent_len (drop m (x ++ spaced))) (length x)
          (omega (arith, fits, third, e.within, length-drop m x));
    }
  where
    by_zero : (d d' k k' : ℕ) → d ≡ d' → k ≡ k' → ◌≡◌ {A = ℕ} (cond (d == 0) 0 k) (cond (d' == 0) 0 k')
    by_zero d d' k k' e g = rw (e, g) refl

    not_most : (b : Bool) (n m : ℕ) → n ≤ m → cond b 0 n ≤ m
    not_most true n m e = omega arith
    not_most false n m e = e

-- a number's piece, by what follows it
numbers : ℕ → Bool → Bool → ℕ → Option Piece
numbers n percent starts m = when (nat_lt 0 n)
    (cond percent (piece Percentage (n + 1)) (cond starts (piece Dimension (n + m)) (piece Number n)))

numbers_keeps : {s : Bool} (size n m m' : ℕ) (percent starts : Bool) → Near s size (n + m) (n + m')
    → Keeps s size (numbers n percent starts m) (numbers n percent starts m')
unfolding numbers
numbers_keeps size n m m' true starts near = same_keeps size _ _ refl
numbers_keeps size n m m' false true near = near_keeps size (nat_lt 0 n) Dimension _ _ refl near
numbers_keeps size n m m' false false near = same_keeps size _ _ refl

numbers_far : {s : Bool} (size n m m' : ℕ) (percent starts other : Bool) → starts ≡ true → size < n + m
    → Keeps s size (numbers n percent starts m) (numbers n percent other m')
unfolding numbers
numbers_far size n m m' true starts other e far = same_keeps size _ _ refl
numbers_far {s = s} size n m m' false true other e far = by (nat_lt 0 n)
  where
    by : (b : Bool) → Keeps s size (when b (piece Dimension (n + m))) (when b (cond other (piece Dimension (n + m')) (piece Number n)))
    by true = keeps_long (piece Dimension (n + m)) (Some (cond other (piece Dimension (n + m')) (piece Number n))) far
    by false = keeps_none
numbers_far size n m m' false false other e far = cc

pub numeric_keeps : (v : List ℕ) → Facts v → (x : List ℕ) → Keeps (over_seam x v) (length x) (numeric (x ++ spaced)) (numeric (x ++ v))
unfolding numeric numbers
numeric_keeps v f x =
    let b = number_both v f x in
    let n = number_len (x ++ spaced) in
    let k = number_len (x ++ v) in
    let one : drop n (x ++ spaced) ≡ drop n x ++ spaced = drop-append-le n x spaced b.within in
    let two : drop k (x ++ v)
    ≡ drop n x ++ v = ap (λ (j : ℕ). drop j (x ++ v)) (sym b.same) ∙ drop-append-le n x v b.within in
    let size : n + length (drop n x) ≡ length x = omega (arith, length-drop n x, b.within) in
    let near = subst (λ (j : ℕ). Near (over_seam x v) j (n + name_len (drop n x ++ spaced)) (n + name_len (drop n x ++ v))) size
    (near_wide (n + length (drop n x)) _ _ (seam_drop v n x) (near_add n (length (drop n x)) _ _ (name_near v f (drop n x)))) in
    let left : numeric (x ++ spaced)
    ≡ numbers n (begins (λ c. c == 37) (drop n x ++ spaced)) (starts_ident (drop n x ++ spaced)) (name_len (drop n x ++ spaced)) =
    ap (λ (t : List ℕ). numbers n (begins (λ c. c == 37) t) (starts_ident t) (name_len t)) one in
    let right : numeric (x ++ v)
    ≡ numbers n (begins (λ c. c == 37) (drop n x ++ spaced)) (starts_ident (drop n x ++ v))
    (name_len (drop n x ++ v)) =
    ap (λ (t : List ℕ). numbers k (begins (λ c. c == 37) t) (starts_ident t) (name_len t)) two
    ∙ ap (λ (j : ℕ). numbers j (begins (λ c. c == 37) (drop n x ++ v)) (starts_ident (drop n x ++ v))
    (name_len (drop n x ++ v))) (sym b.same)
    ∙ ap (λ (t : Bool). numbers n t (starts_ident (drop n x ++ v)) (name_len (drop n x ++ v)))
    (sym (begins_at (λ c. c == 37) v (drop n x) refl f.percent)) in
    let here : Keeps (over_seam x v) (length x)
    (numbers n (begins (λ c. c == 37) (drop n x ++ spaced)) (starts_ident (drop n x ++ spaced)) (name_len (drop n x ++ spaced)))
    (numbers n (begins (λ c. c == 37) (drop n x ++ spaced)) (starts_ident (drop n x ++ v)) (name_len (drop n x ++ v))) =
    elim (starts_at v f (drop n x)) [
      | inl e ↦ subst (λ (t : Bool). Keeps (over_seam x v) (length x)
          (numbers n (begins (λ c. c == 37) (drop n x ++ spaced)) (starts_ident (drop n x ++ spaced)) (name_len (drop n x ++ spaced)))
          (numbers n (begins (λ c. c == 37) (drop n x ++ spaced)) t (name_len (drop n x ++ v)))) e
          (numbers_keeps (length x) n (name_len (drop n x ++ spaced)) (name_len (drop n x ++ v))
          (begins (λ c. c == 37) (drop n x ++ spaced)) (starts_ident (drop n x ++ spaced)) near)
      | inr far ↦ numbers_far (length x) n (name_len (drop n x ++ spaced)) (name_len (drop n x ++ v))
          (begins (λ c. c == 37) (drop n x ++ spaced)) (starts_ident (drop n x ++ spaced)) (starts_ident (drop n x ++ v)) far.0
          (omega (arith, far.1, size))
    ] in
    subst (λ (o : Option Piece). Keeps (over_seam x v) (length x) o (numeric (x ++ v))) (sym left)
    (subst (λ (o : Option Piece). Keeps (over_seam x v) (length x)
    (numbers n (begins (λ c. c == 37) (drop n x ++ spaced)) (starts_ident (drop n x ++ spaced))
    (name_len (drop n x ++ spaced))) o) (sym right) here)

-- `-->` and `<!--`
flipped : (m c : ℕ) → (c == m) ≡ false → nat_eq m c ≡ false
flipped m c e = grind (arith, nat_tests)

first_none : {s : Bool} (n : ℕ) (b : Bool) (p : Piece) → Keeps s n (when (b && false) p) (when (b && false) p)
first_none n true p = keeps_none
first_none n false p = keeps_none

second_none : {s : Bool} (n : ℕ) (a b : Bool) (p : Piece) → Keeps s n (when (a && (b && false)) p) (when (a && (b && false)) p)
second_none n true true p = keeps_none
second_none n true false p = keeps_none
second_none n false b p = keeps_none

third_none : {s : Bool} (n : ℕ) (a b d : Bool) (p : Piece)
    → Keeps s n (when (a && (b && (d && false))) p) (when (a && (b && (d && false))) p)
third_none n true true true p = keeps_none
third_none n true true false p = keeps_none
third_none n true false d p = keeps_none
third_none n false b d p = keeps_none

pub cdc_keeps : {s : Bool} (v : List ℕ) → Facts v → (a : ℕ) (x : List ℕ)
    → Keeps s (length (a ∷ x)) (cdc (a ∷ (x ++ spaced))) (cdc (a ∷ (x ++ v)))
unfolding cdc
cdc_keeps [] f a [] = first_none 1 (nat_eq 45 a) _
cdc_keeps (c ∷ v) f a [] = let dash = flipped 45 c f.dash in rw dash (first_none 1 (nat_eq 45 a) _)
cdc_keeps [] f a (b ∷ []) = second_none 2 (nat_eq 45 a) (nat_eq 45 b) _
cdc_keeps (c ∷ v) f a (b ∷ []) = let sharp = flipped 62 c f.greater in rw sharp (second_none 2 (nat_eq 45 a) (nat_eq 45 b) _)
cdc_keeps v f a (b ∷ d ∷ x) = same_keeps _ _ _ refl

pub cdo_keeps : {s : Bool} (v : List ℕ) → Facts v → (a : ℕ) (x : List ℕ)
    → Keeps s (length (a ∷ x)) (cdo (a ∷ (x ++ spaced))) (cdo (a ∷ (x ++ v)))
unfolding cdo
cdo_keeps [] f a [] = first_none 1 (nat_eq 60 a) _
cdo_keeps (c ∷ v) f a [] = let bang = flipped 33 c f.bang in rw bang (first_none 1 (nat_eq 60 a) _)
cdo_keeps [] f a (b ∷ []) = second_none 2 (nat_eq 60 a) (nat_eq 33 b) _
cdo_keeps (c ∷ v) f a (b ∷ []) = let dash = flipped 45 c f.dash in rw dash (second_none 2 (nat_eq 60 a) (nat_eq 33 b) _)
cdo_keeps [] f a (b ∷ d ∷ []) = third_none 3 (nat_eq 60 a) (nat_eq 33 b) (nat_eq 45 d) _
cdo_keeps (c ∷ v) f a (b ∷ d ∷ []) = let dash = flipped 45 c f.dash in rw dash (third_none 3 (nat_eq 60 a) (nat_eq 33 b) (nat_eq 45 d) _)
cdo_keeps v f a (b ∷ d ∷ e ∷ x) = same_keeps _ _ _ refl

pub mark_keeps : {s : Bool} (n a : ℕ) (x y : List ℕ) → Keeps s n (mark (a ∷ x)) (mark (a ∷ y))
unfolding mark
mark_keeps n a x y = same_keeps n _ _ refl
