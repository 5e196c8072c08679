-- The rows of what begins with a name: which of them applies, by the tests in the order of the code.
use Rattle.std.proofs.Common.{◌≡◌, ℕ, zero, suc, ◌+◌, ◌<◌, ◌==◌, Bool, true, false, cond, ◌||◌, ◌&&◌, not, List, [], ◌∷◌, drop, Some, None}
use Rattle.std.proofs.Common.{refl, lit<, arith}
use Rattle.std.specs.Char.{is_ascii_digit}
use Rattle.css_tokens.specs.declared.token.TokenKind.TheVariants.{Ident, Function}
use Rattle.css_tokens.specs.Codes.{begins, is_ident_start, is_newline}
use Rattle.css_tokens.specs.Escapes.{escape_len, escape_tail, begins_escape}
use Rattle.css_tokens.specs.Runs.{run, run_after, unit_then, name_unit, name_len, starts_ident}
use Rattle.css_tokens.specs.Rows.{◌or◌, piece, opens_url, url, bad_url, ident}

pub none_named : (text : List ℕ) → starts_ident text ≡ false → None ≡ (url text or bad_url text or ident text)
unfolding url bad_url opens_url ident
none_named text starts = rw starts refl

pub bare_named : (text : List ℕ) (name : ℕ) → name ≡ name_len text → starts_ident text ≡ true
    → begins (λ c. c == 40) (drop name text) ≡ false → Some (piece Ident name) ≡ (url text or bad_url text or ident text)
unfolding url bad_url opens_url ident
bare_named text name is starts bare = let round : begins (λ c. c == 40) (drop (name_len text) text)
    ≡ false = rw is at bare in rw (is, starts, round) refl

pub function_named : (text : List ℕ) (name : ℕ) → name ≡ name_len text → starts_ident text ≡ true
    → begins (λ c. c == 40) (drop name text) ≡ true → opens_url text ≡ false
    → Some (piece Function (name + 1)) ≡ (url text or bad_url text or ident text)
unfolding url bad_url ident
function_named text name is starts opened plain = let round : begins (λ c. c == 40) (drop (name_len text) text)
    ≡ true = rw is at opened in rw (is, plain, starts, round) refl

run_some : (unit : List ℕ → ℕ) (c : ℕ) (rest : List ℕ) → 0 < unit (c ∷ rest) → 0 < run unit (c ∷ rest)
unfolding run_after
run_some unit c rest some = elim (unit (c ∷ rest)) as
    (λ n. 0 < n → 0 < unit_then n (λ skip. run_after unit skip rest)) [ zero ↦ λ h. h | suc n ↦ λ h. omega arith ] some

positive_by : (start digit dash escape next : Bool) (n : ℕ) → cond dash next (start || escape) ≡ true
    → 0 < cond (start || (digit || dash)) 1 (cond escape (1 + n) 0)
positive_by true digit dash escape next n h = lit< tt
positive_by false true dash escape next n h = lit< tt
positive_by false false true escape next n h = lit< tt
positive_by false false false true next n h = omega arith
positive_by false false false false next n h = cc

-- what starts an ident is a name
pub name_some : (text : List ℕ) → starts_ident text ≡ true → 0 < name_len text
unfolding escape_len
name_some [] starts = cc
name_some (c ∷ rest) starts =
    run_some name_unit c rest
    (positive_by (is_ident_start c) (is_ascii_digit c) (c == 45) (c == 92 && not (begins is_newline rest))
    (begins (λ d. is_ident_start d || d == 45) rest || begins_escape rest) (escape_tail rest) starts)
