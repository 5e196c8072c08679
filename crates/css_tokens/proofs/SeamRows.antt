-- Before `{`, `}` or `;` no row looks further: what comes behind that character changes no piece that ends before it.
use Rattle.std.proofs.Common.{◌≡◌, ◌⊎◌, inl, inr, ℕ, suc, ◌+◌, ◌-◌, ◌<◌, ◌≤◌, ◌==◌, Bool, true, false, cond, ◌&&◌, ◌||◌, not, nat_lt}
use Rattle.std.proofs.Common.{List, [], ◌∷◌, ◌++◌, length, drop, min, nat_eq, Option, Some, None, refl, ap, sym, ◌∙◌, subst}
use Rattle.std.proofs.Common.{length-append, arith}
use Rattle.std.specs.Char.{is_ascii_digit}
use Rattle.std.proofs.lemmas.List.{drop-append-le, length-drop}
use Rattle.std.proofs.lemmas.Bool.Decides.{nat_tests}
use Rattle.css_tokens.specs.declared.token.TokenKind.{TokenKind}
use Rattle.css_tokens.specs.declared.token.TokenKind.TheVariants.{Comment, WhiteSpace, Str, BadString, Hash, Number, Percentage, Dimension}
use Rattle.css_tokens.specs.declared.token.TokenKind.TheVariants.{AtKeyword}
use Rattle.css_tokens.specs.declared.token.Piece.{Piece}
use Rattle.css_tokens.specs.Codes.{begins, is_newline, is_white, is_quote, is_sign}
use Rattle.css_tokens.specs.Runs.{run, comment_unit, string_unit, name_unit, name_len, starts_ident}
use Rattle.css_tokens.specs.Runs.{digits, fraction_len, decimal_len, sign_len, exponent_len, number_len}
use Rattle.css_tokens.specs.Rows.{◌or◌, when, piece}
use Rattle.css_tokens.specs.Rows.{comment, white_space, string, bad_string, hash, numeric, cdc}
use Rattle.css_tokens.specs.Rows.{cdo, at_keyword, mark}
use Rattle.css_tokens.proofs.SeamUnits.{StopFacts, begins_same, prefix_same, prefix_within, starts_same, comment_local}
use Rattle.css_tokens.proofs.SeamUnits.{name_local, string_local, Near, run_near}
use Rattle.css_tokens.specs.Seams.{is_stop}
use Rattle.css_tokens.proofs.Ends.{run_stops}

-- two answers of a row, before one and before another text: none, the same, or both past n codes
pub data Alike (n : ℕ) : Option Piece → Option Piece → Type 0 where
  both_none : Alike n None None
  both_same : (p : Piece) → Alike n (Some p) (Some p)
  both_long : (p q : Piece) → n < p.len → n < q.len → Alike n (Some p) (Some q)

pub or_alike : (n : ℕ) (a a' b b' : Option Piece) → Alike n a a' → Alike n b b' → Alike n (a or b) (a' or b')
or_alike n a a' b b' both_none more = more
or_alike n a a' b b' (both_same p) more = both_same p
or_alike n a a' b b' (both_long p q far further) more = both_long p q far further

pub same_alike : (n : ℕ) (a b : Option Piece) → a ≡ b → Alike n a b
same_alike n None b e = subst (Alike n None) e both_none
same_alike n (Some p) b e = subst (Alike n (Some p)) e (both_same p)

pub near_alike : (n : ℕ) (test : Bool) (kind : TokenKind) (a b : ℕ) → Near n a b
    → Alike n (when test (piece kind a)) (when test (piece kind b))
near_alike n true kind a b (inl same) = same_alike n _ _ (ap (λ (k : ℕ). Some (piece kind k)) same)
near_alike n true kind a b (inr far) = both_long (piece kind a) (piece kind b) far.0 far.1
near_alike n false kind a b near = both_none

pub less : (a b : ℕ) → (a < b) ⊎ (b ≤ a)
less a b = grind arith

pub near_add : (k n a b : ℕ) → Near n a b → Near (k + n) (k + a) (k + b)
near_add k n a b (inl same) = inl (ap (λ (x : ℕ). k + x) same)
near_add k n a b (inr far) = inr (omega (arith, far.0), omega (arith, far.1))

-- a piece that k codes close, which stand before n where the open piece does
pub closed_near : (n k a b all others : ℕ) → n < all → n < others → Near n a b → (a ≤ n → a + k ≤ n)
    → Near n (min (a + k) all) (min (b + k) others)
closed_near n k a b all others more further (inl same) fits =
    elim (less n a) [
      | inl past ↦ inr (omega arith, omega (arith, same))
      | inr within ↦ let here = fits within in inl (omega (arith, same, here))
    ]
closed_near n k a b all others more further (inr far) fits = inr (omega (arith, far.0), omega (arith, far.1))

pub longer : (x rest : List ℕ) (c : ℕ) → length x < length (x ++ c ∷ rest)
longer x rest c = omega (arith, length-append x (c ∷ rest))

-- comments
star_and : (a b : Bool) → b ≡ false → ◌≡◌ {A = ℕ} (cond (a && b) 0 1) 0 → ⊥
star_and true true e n = cc
star_and true false e n = omega arith
star_and false b e n = omega arith

two_left : (c : ℕ) (rest y : List ℕ) → StopFacts c → comment_unit (y ++ c ∷ rest) ≡ 0 → 2 ≤ length y
two_left c rest [] f none = absurd (star_first (c == 42) _ f.star none)
  where
    star_first : (a b : Bool) → a ≡ false → ◌≡◌ {A = ℕ} (cond (a && b) 0 1) 0 → ⊥
    star_first true b e n = cc
    star_first false b e n = omega arith
two_left c rest (a ∷ []) f none = absurd (star_and (a == 42) (c == 47) f.slash none)
two_left c rest (a ∷ b ∷ y) f none = omega arith

comment_fits : (c : ℕ) (rest x : List ℕ) → StopFacts c → run comment_unit (x ++ c ∷ rest) ≤ length x
    → run comment_unit (x ++ c ∷ rest) + 2 ≤ length x
comment_fits c rest x f within =
    let r = run comment_unit (x ++ c ∷ rest) in
    let at : drop r (x ++ c ∷ rest) ≡ drop r x ++ c ∷ rest = drop-append-le r x (c ∷ rest) within in
    let two = two_left c rest (drop r x) f (sym (ap comment_unit at) ∙ run_stops comment_unit refl (x ++ c ∷ rest)) in
    omega (arith, two, length-drop r x)

pub comment_alike : (c : ℕ) → StopFacts c → (rest other : List ℕ) (a : ℕ) (x : List ℕ)
    → Alike (length (a ∷ x)) (comment (a ∷ (x ++ c ∷ rest))) (comment (a ∷ (x ++ c ∷ other)))
unfolding comment
comment_alike c f rest other a [] =
    let star : nat_eq 42 c ≡ false = flip c f.star in
    rw star (by_first (nat_eq 47 a) _ _)
  where
    flip : (c : ℕ) → (c == 42) ≡ false → nat_eq 42 c ≡ false
    flip c e = grind (arith, nat_tests)

    by_first : (b : Bool) (p q : Piece) → Alike 1 (when (b && (false && true)) p) (when (b && (false && true)) q)
    by_first true p q = both_none
    by_first false p q = both_none
comment_alike c f rest other a (b ∷ x) =
    let size : 2 + length x ≡ length (a ∷ b ∷ x) = omega arith in
    let near : Near (length (a ∷ b ∷ x)) (2 + run comment_unit (x ++ c ∷ rest)) (2 + run comment_unit (x ++ c ∷ other)) = subst
    (λ (n : ℕ). Near n (2 + run comment_unit (x ++ c ∷ rest)) (2 + run comment_unit (x ++ c ∷ other))) size
    (near_add 2 (length x) _ _ (run_near comment_unit c (comment_local c f) rest other x)) in
    near_alike (length (a ∷ b ∷ x)) (nat_eq 47 a && (nat_eq 42 b && true)) Comment _ _
    (closed_near (length (a ∷ b ∷ x)) 2 _ _ _ _ (longer (a ∷ b ∷ x) rest c) (longer (a ∷ b ∷ x) other c) near
    (λ within. let fits = comment_fits c rest x f (omega arith) in omega arith))

-- white space
pub white_alike : (c : ℕ) → StopFacts c → (rest other : List ℕ) (a : ℕ) (x : List ℕ)
    → Alike (length (a ∷ x)) (white_space (a ∷ (x ++ c ∷ rest))) (white_space (a ∷ (x ++ c ∷ other)))
unfolding white_space
white_alike c f rest other a x = same_alike _ _ _
    (ap (λ (n : ℕ). when (is_white a) (piece WhiteSpace n)) (prefix_same is_white c rest other (a ∷ x) f.white))

-- strings and bad strings, together
string_fits : (quote c : ℕ) (rest x : List ℕ) → StopFacts c → is_quote quote ≡ true → run (string_unit quote) (x ++ c ∷ rest) ≤ length x
    → run (string_unit quote) (x ++ c ∷ rest) + 1 ≤ length x
string_fits quote c rest x f is_a within =
    let r = run (string_unit quote) (x ++ c ∷ rest) in
    let at : drop r (x ++ c ∷ rest) ≡ drop r x ++ c ∷ rest = drop-append-le r x (c ∷ rest) within in
    let one = one_left quote c rest (drop r x) f is_a
    (sym (ap (string_unit quote) at) ∙ run_stops (string_unit quote) refl (x ++ c ∷ rest)) in
    omega (arith, one, length-drop r x)
  where
    other_quote : (quote c : ℕ) → is_quote quote ≡ true → is_quote c ≡ false → (c == quote) ≡ false
    other_quote quote c a b = grind (arith, nat_tests)

    goes_on : (a b d : Bool) (n : ℕ) → a ≡ false → b ≡ false → d ≡ false → ◌≡◌ {A = ℕ} (cond (a || b) 0 (cond d n 1)) 0 → ⊥
    goes_on true b d n e g h z = cc
    goes_on false true d n e g h z = cc
    goes_on false false true n e g h z = cc
    goes_on false false false n e g h z = omega arith

    one_left : (quote c : ℕ) (rest y : List ℕ) → StopFacts c → is_quote quote ≡ true → string_unit quote (y ++ c ∷ rest) ≡ 0 → 1 ≤ length y
    one_left quote c rest [] f is_a none = absurd
        (goes_on (c == quote) (is_newline c) (c == 92) _ (other_quote quote c is_a f.quote) f.newline f.back none)
    one_left quote c rest (a ∷ y) f is_a none = omega arith

-- what the two rows give, by their tests
strings : Bool → Bool → ℕ → ℕ → Option Piece
strings quote line m all = when (quote && not line) (piece Str (min (m + 1) all)) or when (quote && line) (piece BadString m)

strings_long : (n m m' all all' : ℕ) (quote line line' : Bool) → n < m → n < m' → n < all → n < all'
    → Alike n (strings quote line m all) (strings quote line' m' all')
unfolding strings
strings_long n m m' all all' false line line' a b d e = both_none
strings_long n m m' all all' true true true a b d e = both_long _ _ a b
strings_long n m m' all all' true true false a b d e = both_long _ _ a (omega arith)
strings_long n m m' all all' true false true a b d e = both_long _ _ (omega arith) b
strings_long n m m' all all' true false false a b d e = both_long _ _ (omega arith) (omega arith)

strings_short : (n m all all' : ℕ) (quote line : Bool) → n < all → n < all' → (quote ≡ true → m + 1 ≤ n)
    → Alike n (strings quote line m all) (strings quote line m all')
unfolding strings
strings_short n m all all' false line d e fits = both_none
strings_short n m all all' true true d e fits = both_same (piece BadString m)
strings_short n m all all' true false d e fits = let here = fits refl in same_alike n _ _
    (ap (λ (k : ℕ). Some (piece Str k)) (omega (arith, here)))

pub strings_alike : (c : ℕ) → StopFacts c → (rest other : List ℕ) (a : ℕ) (x : List ℕ)
    → Alike (length (a ∷ x)) (string (a ∷ (x ++ c ∷ rest)) or bad_string (a ∷ (x ++ c ∷ rest)))
    (string (a ∷ (x ++ c ∷ other)) or bad_string (a ∷ (x ++ c ∷ other)))
unfolding string bad_string strings
strings_alike c f rest other a x =
    let r = run (string_unit a) (x ++ c ∷ rest) in
    let s = run (string_unit a) (x ++ c ∷ other) in
    let near : Near (length x) r s = run_near (string_unit a) c (string_local a c f) rest other x in
    let n = length (a ∷ x) in
    let more = longer (a ∷ x) rest c in
    let further = longer (a ∷ x) other c in
    let l1 : Bool = begins is_newline (drop (1 + r) (a ∷ (x ++ c ∷ rest))) in
    let l2 : Bool = begins is_newline (drop (1 + s) (a ∷ (x ++ c ∷ other))) in
    elim near [
      | inr far ↦ strings_long n (1 + r) (1 + s) (length (a ∷ (x ++ c ∷ rest))) (length (a ∷ (x ++ c ∷ other))) (is_quote a) l1 l2
          (omega (arith, far.0)) (omega (arith, far.1)) more further
      | inl same ↦ elim (less (length x) r) [
        | inl past ↦ strings_long n (1 + r) (1 + s) (length (a ∷ (x ++ c ∷ rest))) (length (a ∷ (x ++ c ∷ other))) (is_quote a) l1 l2
            (omega arith) (omega (arith, same)) more further
        | inr within ↦
            let one : 1 + r ≡ suc r = omega arith in
            let two : 1 + s ≡ suc r = omega (arith, same) in
            let line : begins is_newline (drop (1 + r) (a ∷ (x ++ c ∷ rest))) ≡ begins is_newline (drop (1 + s) (a ∷ (x ++ c ∷ other))) =
            ap (λ (k : ℕ). begins is_newline (drop k (a ∷ (x ++ c ∷ rest)))) one ∙ ap (begins is_newline)
            (drop-append-le r x (c ∷ rest) within)
            ∙ begins_same is_newline c rest other (drop r x)
            ∙ sym (ap (λ (k : ℕ). begins is_newline (drop k (a ∷ (x ++ c ∷ other)))) two ∙ ap (begins is_newline)
            (drop-append-le r x (c ∷ other) within)) in
            let length_same : 1 + r ≡ 1 + s = omega (arith, same) in
            let here = strings_short n (1 + r) (length (a ∷ (x ++ c ∷ rest))) (length (a ∷ (x ++ c ∷ other))) (is_quote a)
            (begins is_newline (drop (1 + r) (a ∷ (x ++ c ∷ rest)))) more further
            (λ is_a. let fits = string_fits a c rest x f is_a within in omega arith) in
            subst (λ (k : ℕ). Alike n (strings (is_quote a) (begins is_newline (drop (1 + r) (a ∷ (x ++ c ∷ rest)))) (1 + r)
            (length (a ∷ (x ++ c ∷ rest))))
            (strings (is_quote a) (begins is_newline (drop (1 + s) (a ∷ (x ++ c ∷ other)))) k
            (length (a ∷ (x ++ c ∷ other))))) length_same
            (subst (λ (b : Bool). Alike n (strings (is_quote a) (begins is_newline (drop (1 + r) (a ∷ (x ++ c ∷ rest)))) (1 + r)
            (length (a ∷ (x ++ c ∷ rest)))) (strings (is_quote a) b (1 + r) (length (a ∷ (x ++ c ∷ other))))) line here)
      ]
    ]

-- hashes and at-keywords
pub name_near : (c : ℕ) → StopFacts c → (rest other x : List ℕ) → Near (length x) (name_len (x ++ c ∷ rest)) (name_len (x ++ c ∷ other))
name_near c f rest other x = run_near name_unit c (name_local c f) rest other x

near_some : (n a b : ℕ) → Near n a b → nat_lt 0 a ≡ nat_lt 0 b
near_some n a b (inl same) = ap (nat_lt 0) same
near_some n a b (inr far) = let one : nat_lt 0 a ≡ true = positive a (omega (arith, far.0)) in let two : nat_lt 0 b
    ≡ true = positive b (omega (arith, far.1)) in one ∙ sym two
  where
    positive : (k : ℕ) → 0 < k → nat_lt 0 k ≡ true
    positive k e = grind (arith, nat_tests)

near_one : (n a b : ℕ) → Near n a b → Near (suc n) (1 + a) (1 + b)
near_one n a b near = let size : 1 + n ≡ suc n = omega arith in subst (λ (k : ℕ). Near k (1 + a) (1 + b)) size (near_add 1 n a b near)

pub hash_alike : (c : ℕ) → StopFacts c → (rest other : List ℕ) (a : ℕ) (x : List ℕ)
    → Alike (length (a ∷ x)) (hash (a ∷ (x ++ c ∷ rest))) (hash (a ∷ (x ++ c ∷ other)))
unfolding hash
hash_alike c f rest other a x =
    let near = name_near c f rest other x in
    let some : nat_lt 0 (name_len (x ++ c ∷ rest)) ≡ nat_lt 0 (name_len (x ++ c ∷ other)) = near_some (length x) _ _ near in
    let flag : starts_ident (x ++ c ∷ rest) ≡ starts_ident (x ++ c ∷ other) = starts_same c rest other x f in
    subst (λ (b : Bool). Alike (length (a ∷ x))
    (when (a == 35 && nat_lt 0 (name_len (x ++ c ∷ rest)))
    (piece (Hash (starts_ident (x ++ c ∷ rest))) (1 + name_len (x ++ c ∷ rest))))
    (when (a == 35 && b) (piece (Hash (starts_ident (x ++ c ∷ other))) (1 + name_len (x ++ c ∷ other))))) some
    (subst (λ (b : Bool). Alike (length (a ∷ x))
    (when (a == 35 && nat_lt 0 (name_len (x ++ c ∷ rest)))
    (piece (Hash (starts_ident (x ++ c ∷ rest))) (1 + name_len (x ++ c ∷ rest))))
    (when (a == 35 && nat_lt 0 (name_len (x ++ c ∷ rest))) (piece (Hash b) (1 + name_len (x ++ c ∷ other))))) flag
    (near_alike (length (a ∷ x)) (a == 35 && nat_lt 0 (name_len (x ++ c ∷ rest))) (Hash (starts_ident (x ++ c ∷ rest))) _ _
    (near_one (length x) _ _ near)))

pub at_alike : (c : ℕ) → StopFacts c → (rest other : List ℕ) (a : ℕ) (x : List ℕ)
    → Alike (length (a ∷ x)) (at_keyword (a ∷ (x ++ c ∷ rest))) (at_keyword (a ∷ (x ++ c ∷ other)))
unfolding at_keyword
at_alike c f rest other a x =
    let near = name_near c f rest other x in
    let starts : starts_ident (x ++ c ∷ rest) ≡ starts_ident (x ++ c ∷ other) = starts_same c rest other x f in
    subst (λ (b : Bool). Alike (length (a ∷ x))
    (when (a == 64 && starts_ident (x ++ c ∷ rest)) (piece AtKeyword (1 + name_len (x ++ c ∷ rest))))
    (when (a == 64 && b) (piece AtKeyword (1 + name_len (x ++ c ∷ other))))) starts
    (near_alike (length (a ∷ x)) (a == 64 && starts_ident (x ++ c ∷ rest)) AtKeyword _ _ (near_one (length x) _ _ near))

-- numbers
record NumberSame (c : ℕ) (rest other x : List ℕ) (len : List ℕ → ℕ) : Type 0 where
  same : len (x ++ c ∷ rest) ≡ len (x ++ c ∷ other)
  within : len (x ++ c ∷ rest) ≤ length x

digits_both : (c : ℕ) → StopFacts c → (rest other x : List ℕ) → NumberSame c rest other x digits
digits_both c f rest other x = record {
  same = prefix_same is_ascii_digit c rest other x f.digit;
  within = prefix_within is_ascii_digit c rest x f.digit;
}

fraction_both : (c : ℕ) → StopFacts c → (rest other x : List ℕ) → NumberSame c rest other x fraction_len
fraction_both c f rest other [] = let dot = f.dot in record { same = rw dot refl; within = rw dot (omega arith) }
fraction_both c f rest other (a ∷ x) =
    let d = digits_both c f rest other x in
    record {
      same = ap (λ (b : Bool). cond (a == 46 && b) (1 + digits (x ++ c ∷ rest)) 0) (begins_same is_ascii_digit c rest other x)
          ∙ ap (λ (n : ℕ). cond (a == 46 && begins is_ascii_digit (x ++ c ∷ other)) (1 + n) 0) d.same;
      within = at_most (a == 46 && begins is_ascii_digit (x ++ c ∷ rest)) (1 + digits (x ++ c ∷ rest)) (length (a ∷ x))
          (omega (arith, d.within));
    }
  where
    at_most : (b : Bool) (n m : ℕ) → n ≤ m → cond b n 0 ≤ m
    at_most true n m e = e
    at_most false n m e = omega arith

decimal_both : (c : ℕ) → StopFacts c → (rest other x : List ℕ) → NumberSame c rest other x decimal_len
decimal_both c f rest other x =
    let d = digits_both c f rest other x in
    let n = digits (x ++ c ∷ rest) in
    let one : drop n (x ++ c ∷ rest) ≡ drop n x ++ c ∷ rest = drop-append-le n x (c ∷ rest) d.within in
    let two : drop (digits (x ++ c ∷ other)) (x ++ c ∷ other)
    ≡ drop n x ++ c ∷ other = ap (λ (k : ℕ). drop k (x ++ c ∷ other)) (sym d.same) ∙ drop-append-le n x (c ∷ other) d.within in
    let more = fraction_both c f rest other (drop n x) in
    let first : fraction_len (drop n (x ++ c ∷ rest)) ≡ fraction_len (drop n x ++ c ∷ rest) = ap fraction_len one in
    let second : fraction_len (drop (digits (x ++ c ∷ other)) (x ++ c ∷ other))
    ≡ fraction_len (drop n x ++ c ∷ other) = ap fraction_len two in
    record { same = omega (arith, d.same, first, second, more.same); within = omega (arith, d.within, first, more.within, length-drop n x) }

sign_both : (c : ℕ) → StopFacts c → (rest other x : List ℕ) → NumberSame c rest other x sign_len
sign_both c f rest other [] = let sign = f.sign in record { same = rw sign refl; within = rw sign (omega arith) }
sign_both c f rest other (a ∷ x) = record { same = refl; within = at_most (is_sign a) (length (a ∷ x)) (omega arith) }
  where
    at_most : (b : Bool) (m : ℕ) → 1 ≤ m → cond b 1 0 ≤ m
    at_most true m e = e
    at_most false m e = omega arith

exponents : (b t t' : Bool) (m m' n n' : ℕ) → t ≡ t' → m ≡ m' → n ≡ n' → ◌≡◌ {A = ℕ} (cond (b && t) (m + n) 0) (cond (b && t') (m' + n') 0)
exponents b t t' m m' n n' e f g = rw (e, f, g) refl

exponent_both : (c : ℕ) → StopFacts c → (rest other x : List ℕ) → NumberSame c rest other x exponent_len
exponent_both c f rest other [] = let mark = f.mark in record { same = rw mark refl; within = rw mark (omega arith) }
exponent_both c f rest other (a ∷ x) =
    let s = sign_both c f rest other x in
    let n = sign_len (x ++ c ∷ rest) in
    let one : drop (1 + n) (a ∷ (x ++ c ∷ rest))
    ≡ drop n x ++ c ∷ rest = ap (λ (k : ℕ). drop k (a ∷ (x ++ c ∷ rest))) (suc_is n) ∙ drop-append-le n x (c ∷ rest) s.within in
    let two : drop (1 + sign_len (x ++ c ∷ other)) (a ∷ (x ++ c ∷ other)) ≡ drop n x ++ c ∷ other =
    ap (λ (k : ℕ). drop (1 + k) (a ∷ (x ++ c ∷ other))) (sym s.same) ∙ ap (λ (k : ℕ). drop k (a ∷ (x ++ c ∷ other)))
    (suc_is n) ∙ drop-append-le n x (c ∷ other) s.within in
    let d = digits_both c f rest other (drop n x) in
    let first : digits (drop (1 + n) (a ∷ (x ++ c ∷ rest))) ≡ digits (drop n x ++ c ∷ rest) = ap digits one in
    let second : digits (drop (1 + sign_len (x ++ c ∷ other)) (a ∷ (x ++ c ∷ other))) ≡ digits (drop n x ++ c ∷ other) = ap digits two in
    record {
      same = exponents (a == 69 || a == 101) _ _ (1 + n) (1 + sign_len (x ++ c ∷ other)) _ _
          (ap (begins is_ascii_digit) one ∙ begins_same is_ascii_digit c rest other (drop n x) ∙ sym (ap (begins is_ascii_digit) two))
          (omega (arith, s.same)) (first ∙ d.same ∙ sym second);
      within = at_most ((a == 69 || a == 101) && begins is_ascii_digit (drop (1 + n) (a ∷ (x ++ c ∷ rest))))
          (1 + n + digits (drop (1 + n) (a ∷ (x ++ c ∷ rest)))) (length (a ∷ x))
          (omega (arith, first, d.within, length-drop n x, s.within));
    }
  where
    suc_is : (n : ℕ) → 1 + n ≡ suc n
    suc_is n = omega arith

    at_most : (b : Bool) (n m : ℕ) → n ≤ m → cond b n 0 ≤ m
    at_most true n m e = e
    at_most false n m e = omega arith

number_both : (c : ℕ) → StopFacts c → (rest other x : List ℕ) → NumberSame c rest other x number_len
unfolding number_len
number_both c f rest other x =
    let s = sign_both c f rest other x in
    let n = sign_len (x ++ c ∷ rest) in
    let one : drop n (x ++ c ∷ rest) ≡ drop n x ++ c ∷ rest = drop-append-le n x (c ∷ rest) s.within in
    let two : drop (sign_len (x ++ c ∷ other)) (x ++ c ∷ other)
    ≡ drop n x ++ c ∷ other = ap (λ (k : ℕ). drop k (x ++ c ∷ other)) (sym s.same) ∙ drop-append-le n x (c ∷ other) s.within in
    let d = decimal_both c f rest other (drop n x) in
    let first : decimal_len (drop n (x ++ c ∷ rest)) ≡ decimal_len (drop n x ++ c ∷ rest) = ap decimal_len one in
    let second : decimal_len (drop (sign_len (x ++ c ∷ other)) (x ++ c ∷ other))
    ≡ decimal_len (drop n x ++ c ∷ rest) = ap decimal_len two ∙ sym d.same in
    let m = n + decimal_len (drop n (x ++ c ∷ rest)) in
    let fits : m ≤ length x = omega (arith, first, d.within, length-drop n x, s.within) in
    let m_same : m ≡ sign_len (x ++ c ∷ other)
    + decimal_len (drop (sign_len (x ++ c ∷ other)) (x ++ c ∷ other)) = omega (arith, s.same, first, second) in
    let three : drop m (x ++ c ∷ rest) ≡ drop m x ++ c ∷ rest = drop-append-le m x (c ∷ rest) fits in
    let four : drop (sign_len (x ++ c ∷ other) + decimal_len (drop (sign_len (x ++ c ∷ other)) (x ++ c ∷ other))) (x ++ c ∷ other)
    ≡ drop m x ++ c ∷ other = ap (λ (k : ℕ). drop k (x ++ c ∷ other)) (sym m_same) ∙ drop-append-le m x (c ∷ other) fits in
    let e = exponent_both c f rest other (drop m x) in
    let third : exponent_len (drop m (x ++ c ∷ rest)) ≡ exponent_len (drop m x ++ c ∷ rest) = ap exponent_len three in
    let fourth : exponent_len (drop (sign_len (x ++ c ∷ other) + decimal_len (drop (sign_len (x ++ c ∷ other)) (x ++ c ∷ other)))
    (x ++ c ∷ other)) ≡ exponent_len (drop m x ++ c ∷ rest) = ap exponent_len four ∙ sym e.same in
    record {
      same = by_zero (decimal_len (drop n (x ++ c ∷ rest))) (decimal_len (drop (sign_len (x ++ c ∷ other)) (x ++ c ∷ other)))
          (m + exponent_len (drop m (x ++ c ∷ rest)))
          (sign_len (x ++ c ∷ other) + decimal_len (drop (sign_len (x ++ c ∷ other)) (x ++ c ∷ other))
          + exponent_len (drop (sign_len (x ++ c ∷ other) + decimal_len (drop (sign_len (x ++ c ∷ other)) (x ++ c ∷ other)))
          (x ++ c ∷ other))) (first ∙ sym second) (omega (arith, m_same, third, fourth));
      within = at_most (decimal_len (drop n (x ++ c ∷ rest)) == 0) (m + exponent_len (drop m (x ++ c ∷ rest))) (length x)
          (omega (arith, fits, third, e.within, length-drop m x));
    }
  where
    by_zero : (d d' k k' : ℕ) → d ≡ d' → k ≡ k' → ◌≡◌ {A = ℕ} (cond (d == 0) 0 k) (cond (d' == 0) 0 k')
    by_zero d d' k k' e g = rw (e, g) refl

    at_most : (b : Bool) (n m : ℕ) → n ≤ m → cond b 0 n ≤ m
    at_most true n m e = omega arith
    at_most false n m e = e

-- a number's piece, by what follows it
numbers : ℕ → Bool → Bool → ℕ → Option Piece
numbers n percent starts m = when (nat_lt 0 n)
    (cond percent (piece Percentage (n + 1)) (cond starts (piece Dimension (n + m)) (piece Number n)))

numbers_alike : (size n m m' : ℕ) (percent starts : Bool) → Near size (n + m) (n + m')
    → Alike size (numbers n percent starts m) (numbers n percent starts m')
unfolding numbers
numbers_alike size n m m' true starts near = same_alike size _ _ refl
numbers_alike size n m m' false true near = near_alike size (nat_lt 0 n) Dimension _ _ near
numbers_alike size n m m' false false near = same_alike size _ _ refl

pub numeric_alike : (c : ℕ) → StopFacts c → (rest other : List ℕ) (x : List ℕ)
    → Alike (length x) (numeric (x ++ c ∷ rest)) (numeric (x ++ c ∷ other))
unfolding numeric numbers
numeric_alike c f rest other x =
    let b = number_both c f rest other x in
    let n = number_len (x ++ c ∷ rest) in
    let k = number_len (x ++ c ∷ other) in
    let one : drop n (x ++ c ∷ rest) ≡ drop n x ++ c ∷ rest = drop-append-le n x (c ∷ rest) b.within in
    let two : drop k (x ++ c ∷ other)
    ≡ drop n x ++ c ∷ other = ap (λ (j : ℕ). drop j (x ++ c ∷ other)) (sym b.same) ∙ drop-append-le n x (c ∷ other) b.within in
    let size : n + length (drop n x) ≡ length x = omega (arith, length-drop n x, b.within) in
    let near = subst (λ (j : ℕ). Near j (n + name_len (drop n x ++ c ∷ rest)) (n + name_len (drop n x ++ c ∷ other))) size
    (near_add n (length (drop n x)) _ _ (name_near c f rest other (drop n x))) in
    let here = numbers_alike (length x) n (name_len (drop n x ++ c ∷ rest)) (name_len (drop n x ++ c ∷ other))
    (begins (λ c. c == 37) (drop n x ++ c ∷ rest)) (starts_ident (drop n x ++ c ∷ rest)) near in
    let left : numeric (x ++ c ∷ rest)
    ≡ numbers n (begins (λ c. c == 37) (drop n x ++ c ∷ rest)) (starts_ident (drop n x ++ c ∷ rest)) (name_len (drop n x ++ c ∷ rest)) =
    ap (λ (t : List ℕ). numbers n (begins (λ c. c == 37) t) (starts_ident t) (name_len t)) one in
    let right : numeric (x ++ c ∷ other)
    ≡ numbers n (begins (λ c. c == 37) (drop n x ++ c ∷ rest)) (starts_ident (drop n x ++ c ∷ rest))
    (name_len (drop n x ++ c ∷ other)) =
    ap (λ (t : List ℕ). numbers k (begins (λ c. c == 37) t) (starts_ident t) (name_len t)) two
    ∙ ap (λ (j : ℕ). numbers j (begins (λ c. c == 37) (drop n x ++ c ∷ other)) (starts_ident (drop n x ++ c ∷ other))
    (name_len (drop n x ++ c ∷ other))) (sym b.same)
    ∙ ap (λ (t : Bool). numbers n t (starts_ident (drop n x ++ c ∷ other)) (name_len (drop n x ++ c ∷ other)))
    (sym (begins_same (λ c. c == 37) c rest other (drop n x)))
    ∙ ap (λ (t : Bool). numbers n (begins (λ c. c == 37) (drop n x ++ c ∷ rest)) t (name_len (drop n x ++ c ∷ other)))
    (sym (starts_same c rest other (drop n x) f)) in
    subst (λ (o : Option Piece). Alike (length x) o (numeric (x ++ c ∷ other))) (sym left)
    (subst (λ (o : Option Piece). Alike (length x)
    (numbers n (begins (λ c. c == 37) (drop n x ++ c ∷ rest)) (starts_ident (drop n x ++ c ∷ rest))
    (name_len (drop n x ++ c ∷ rest))) o) (sym right) here)

-- `-->` and `<!--`
no_code : (c m : ℕ) → is_stop c ≡ true → (123 == m) ≡ false → (125 == m) ≡ false → (59 == m) ≡ false → nat_eq m c ≡ false
no_code c m stop a b d = grind (arith, nat_tests)

pub cdc_alike : (c : ℕ) → is_stop c ≡ true → (rest other : List ℕ) (a : ℕ) (x : List ℕ)
    → Alike (length (a ∷ x)) (cdc (a ∷ (x ++ c ∷ rest))) (cdc (a ∷ (x ++ c ∷ other)))
unfolding cdc
cdc_alike c stop rest other a [] =
    let dash : nat_eq 45 c ≡ false = no_code c 45 stop refl refl refl in
    rw dash (by_first (nat_eq 45 a) _)
  where
    by_first : (b : Bool) (p : Piece) → Alike 1 (when (b && false) p) (when (b && false) p)
    by_first true p = both_none
    by_first false p = both_none
cdc_alike c stop rest other a (b ∷ []) = same_alike _ _ _ refl
cdc_alike c stop rest other a (b ∷ d ∷ x) = same_alike _ _ _ refl

pub cdo_alike : (c : ℕ) → is_stop c ≡ true → (rest other : List ℕ) (a : ℕ) (x : List ℕ)
    → Alike (length (a ∷ x)) (cdo (a ∷ (x ++ c ∷ rest))) (cdo (a ∷ (x ++ c ∷ other)))
unfolding cdo
cdo_alike c stop rest other a [] =
    let bang : nat_eq 33 c ≡ false = no_code c 33 stop refl refl refl in
    rw bang (by_first (nat_eq 60 a) _)
  where
    by_first : (b : Bool) (p : Piece) → Alike 1 (when (b && false) p) (when (b && false) p)
    by_first true p = both_none
    by_first false p = both_none
cdo_alike c stop rest other a (b ∷ []) =
    let dash : nat_eq 45 c ≡ false = no_code c 45 stop refl refl refl in
    rw dash (by_two (nat_eq 60 a) (nat_eq 33 b) _)
  where
    by_two : (a b : Bool) (p : Piece) → Alike 2 (when (a && (b && false)) p) (when (a && (b && false)) p)
    by_two true true p = both_none
    by_two true false p = both_none
    by_two false b p = both_none
cdo_alike c stop rest other a (b ∷ d ∷ []) = same_alike _ _ _ refl
cdo_alike c stop rest other a (b ∷ d ∷ e ∷ x) = same_alike _ _ _ refl
