-- The numbers that texts of sessions have.
use Rattle.std.proofs.Common.{◌≡◌, ℕ, ◌==◌, ◌<◌, List, [], ◌∷◌, Bool, true, false, cond, drop, Some, None, refl, sym, ◌∙◌, ap, eqb-true}
use Rattle.std.proofs.Common.{◌&&◌, nat_lt, ltb-true, lt-ltb}
use Rattle.std.specs.Prelude.{◌≢◌, decimal}
use Rattle.node_tree.specs.Numbers.{counted_limit}
use Rattle.cdp_json.proofs.Options.{both_parts}
use Rattle.css_objects.specs.Sheets.{is_sheet, sheet_in}
use Rattle.css_objects.proofs.SheetIds.{the_sheet, sheet_read}
use Rattle.session_mux.specs.Sessions.{session_text}
use Rattle.multi_replay.specs.Incoming.{session_number}
use Rattle.multi_replay.specs.Laws.{NumbersAreOfTexts}

-- a text that does not begin with `S`
pub read_no_s : (text : List ℕ) → ((rest : List ℕ) → text ≢ 83 ∷ rest) → None ≡ session_number text
read_no_s [] other = refl
read_no_s (c ∷ digits) other = at (c == 83) refl
  where
    at : (b : Bool) → (c == 83) ≡ b → None ≡ cond b (sheet_in (115 ∷ digits)) None
    at true is = absurd (other digits (λ i. eqb-true c 83 is i ∷ digits))
    at false is = refl

-- the bounds of a number of a session
bounds : (n : ℕ) → is_sheet n ≡ true → (0 < n) × (n < counted_limit)
bounds n f = let p = both_parts (nat_lt 0 n) (nat_lt n counted_limit) f in (ltb-true 0 n p.0, ltb-true n counted_limit p.1)

read_by : (c : ℕ) (digits : List ℕ) (n : ℕ) (b : Bool) → (c == 83) ≡ b → cond b (sheet_in (115 ∷ digits)) None ≡ Some n
    → (c ∷ digits ≡ session_text n) × (0 < n) × (n < counted_limit)
read_by c digits n true is e =
    let p = sheet_read (115 ∷ digits) n e in
    let letter : c ≡ 83 = eqb-true c 83 is in
    let same : decimal n ≡ digits = ap (λ (l : List ℕ). drop 1 l) p.0 in
    let b = bounds n p.1 in
    ((λ i. letter i ∷ sym same i), b.0, b.1)
read_by c digits n false is e = absurd cc

read : (text : List ℕ) (n : ℕ) → session_number text ≡ Some n → (text ≡ session_text n) × (0 < n) × (n < counted_limit)
read [] n e = absurd cc
read (c ∷ digits) n e = read_by c digits n (c == 83) refl e

fits : (n : ℕ) → 0 < n → n < counted_limit → is_sheet n ≡ true
fits n low high = ap (λ b. b && nat_lt n counted_limit) (lt-ltb 0 n low) ∙ lt-ltb n counted_limit high

pub numbers-are-of-texts : NumbersAreOfTexts
numbers-are-of-texts text n = (
  read text n,
  λ p. ap session_number p.0 ∙ sym (the_sheet n (fits n p.1 p.2)),
)
