-- The ids of searches are read as they are written.
use Rattle.std.proofs.Common.{◌≡◌, ℕ, ◌==◌, List, [], ◌∷◌, Bool, true, false, cond, drop, Some, None, refl, sym, ap, eqb-true}
use Rattle.std.specs.Prelude.{◌≢◌, decimal, IsUtf8}
use Rattle.serde_json.specs.Data.{Data, null, boolean, number, string, array, object}
use Rattle.cdp_json.specs.Lawful.{LawfulKind}
use Rattle.css_objects.specs.Sheets.{sheet_in}
use Rattle.css_objects.proofs.SheetIds.{the_sheet, sheet_read, sheet_bounds}
use Rattle.std.proofs.lemmas.Fmt.{IsAscii-decimal}
use Rattle.std.proofs.lemmas.Str.{IsUtf8-from_ascii, IsUtf8-append}
use Rattle.json.proofs.Printed.Utf8.{IsUtf8-are_ascii}
use Rattle.cdp_messages.specs.SearchIds.{search_text, is_search, search_in, search_kind}

read_by : (c : ℕ) (digits : List ℕ) (n : ℕ) (b : Bool) → (c == 113) ≡ b → cond b (sheet_in (115 ∷ digits)) None ≡ Some n
    → (search_text n ≡ c ∷ digits) × (is_search n ≡ true)
read_by c digits n true is e =
    let p = sheet_read (115 ∷ digits) n e in
    let letter : c ≡ 113 = eqb-true c 113 is in
    let same : decimal n ≡ digits = ap (λ (l : List ℕ). drop 1 l) p.0 in
    ((λ i. (sym letter i) ∷ same i), p.1)
read_by c digits n false is e = absurd cc

-- what is read is the text of that search's id
search_read : (text : List ℕ) (n : ℕ) → search_in text ≡ Some n → (search_text n ≡ text) × (is_search n ≡ true)
search_read [] n e = absurd cc
search_read (c ∷ digits) n e = read_by c digits n (c == 113) refl e

search_take : (d : Data) (n : ℕ) → search_kind.reads d ≡ Some n → (search_kind.spell n ≡ d) × (is_search n ≡ true)
search_take null n e = absurd cc
search_take (boolean b) n e = absurd cc
search_take (number m) n e = absurd cc
search_take (string s) n e = let p = search_read s n e in (ap string p.0, p.1)
search_take (array ds) n e = absurd cc
search_take (object ms) n e = absurd cc

pub search_text-utf8 : (n : ℕ) → is_search n ≡ true → IsUtf8 (search_text n)
search_text-utf8 n f = IsUtf8-append (113 ∷ []) (decimal n) (IsUtf8-are_ascii (113 ∷ []) refl)
    (IsUtf8-from_ascii (decimal n) (IsAscii-decimal n (sheet_bounds n f).1))

pub search_lawful : LawfulKind search_kind
search_lawful = record { takes = search_take; again = λ n f. sym (the_sheet n f); plain = λ n f l. refl }

-- a text that does not begin with `q`
pub read_no_q : (text : List ℕ) → ((rest : List ℕ) → text ≢ 113 ∷ rest) → None ≡ search_in text
read_no_q [] other = refl
read_no_q (c ∷ digits) other = at (c == 113) refl
  where
    at : (b : Bool) → (c == 113) ≡ b → None ≡ cond b (sheet_in (115 ∷ digits)) None
    at true is = absurd (other digits (λ i. eqb-true c 113 is i ∷ digits))
    at false is = refl
