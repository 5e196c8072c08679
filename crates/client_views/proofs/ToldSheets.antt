-- The sheets of a view that can be told, and their events.
use Rattle.std.proofs.Common.{◌≡◌, ℕ, ◌==◌, nat_eq, Bool, true, false, not, ◌||◌, cond, List, [], ◌∷◌, ◌++◌, map, Option, Some, refl}
use Rattle.std.proofs.Common.{subst}
use Rattle.std.specs.Str.{IsUtf8}
use Rattle.std.proofs.lemmas.Bool.{eqb-true}
use Rattle.cdp_json.specs.Kinds.{is_counted}
use Rattle.css_objects.specs.Sheets.{is_sheet}
use Rattle.node_tree.specs.declared.origins.Origin.{Origin}
use Rattle.cdp_messages.specs.Events.{sheet_added, sheet_changed, sheet_removed, fits_news}
use Rattle.client_views.specs.Views.{ShownSheet, sheet_number, AreSheets, text_units, sheet_header, shows_sheet, shown_text}
use Rattle.client_views.specs.Views.{is_in, is_distinct}
use Rattle.client_views.proofs.BoolLemmas.{and_left, and_right, both, denied}

-- ---- sheets of a view that can be told

or_false : (a b : Bool) → (a || b) ≡ false → (a ≡ false) × (b ≡ false)
or_false true b e = absurd cc
or_false false b e = (refl, e)

absent_last : (n : ℕ) (ss : List ShownSheet) (s : ShownSheet) → is_in n (map sheet_number (ss ++ s ∷ [])) ≡ false → (n == s.number) ≡ false
absent_last n [] s e = (or_false (nat_eq n s.number) false e).0
absent_last n (t ∷ ss) s e = absent_last n ss s (or_false (nat_eq n t.number) _ e).1

-- the last of distinct numbers is none of the others
pub apart_last : (ss : List ShownSheet) (s : ShownSheet) → is_distinct (map sheet_number (ss ++ s ∷ [])) ≡ true
    → shows_sheet s.number ss ≡ false
apart_last [] s e = refl
apart_last (t ∷ ss) s e =
    let first : (t.number == s.number)
    ≡ false = absent_last t.number ss s
    (denied (is_in t.number (map sheet_number (ss ++ s ∷ [])))
    (and_left (not (is_in t.number (map sheet_number (ss ++ s ∷ [])))) _ e)) in
    rw first (apart_last ss s (and_right (not (is_in t.number (map sheet_number (ss ++ s ∷ [])))) _ e))

pub last_is_sheet : (ss : List ShownSheet) (s : ShownSheet) → AreSheets (ss ++ s ∷ []) → is_sheet s.number ≡ true
last_is_sheet [] s are = are.0
last_is_sheet (t ∷ ss) s are = last_is_sheet ss s are.2

number_fits : (b : Bool) (n number : ℕ) (later : Bool) → (number == n) ≡ b → is_sheet number ≡ true → (later ≡ true → is_sheet n ≡ true)
    → (b || later) ≡ true → is_sheet n ≡ true
number_fits true n number later same is rest e = subst (λ (m : ℕ). is_sheet m ≡ true) (eqb-true number n same) is
number_fits false n number later same is rest e = rest e

-- a number that one of them has
pub shown_is_sheet : (n : ℕ) (ss : List ShownSheet) → AreSheets ss → shows_sheet n ss ≡ true → is_sheet n ≡ true
shown_is_sheet n [] are e = absurd cc
shown_is_sheet n (s ∷ ss) are e = number_fits (s.number == n) n s.number (shows_sheet n ss) refl are.0 (shown_is_sheet n ss are.2) e

text_at : (b : Bool) (own text : List ℕ) (o : Option (List ℕ)) → IsUtf8 own → (o ≡ Some text → IsUtf8 text)
    → cond b (Some own) o ≡ Some text → IsUtf8 text
text_at true own text o utf8 rest e = let same : own ≡ text = cc in subst IsUtf8 same utf8
text_at false own text o utf8 rest e = rest e

-- a text that one of them has
pub shown_utf8 : (n : ℕ) (text : List ℕ) (ss : List ShownSheet) → AreSheets ss → shown_text n ss ≡ Some text → IsUtf8 text
shown_utf8 n text [] are e = absurd cc
shown_utf8 n text (s ∷ ss) are e = text_at (s.number == n) s.text text (shown_text n ss) are.1 (shown_utf8 n text ss are.2) e

-- ---- their events

added_fits : (from : Origin) (number units : ℕ) → is_sheet number ≡ true → is_counted units ≡ true
    → fits_news (sheet_added (record { length = units; origin = from; sheet = number })) ≡ true
added_fits from number units is counted = both (both counted (both refl (both is refl))) refl

pub added_news_fit : (s : ShownSheet) → is_sheet s.number ≡ true → is_counted (text_units s.text) ≡ true
    → fits_news (sheet_added (sheet_header s)) ≡ true
added_news_fit s is counted = added_fits s.origin s.number (text_units s.text) is counted

pub changed_news_fit : (n : ℕ) → is_sheet n ≡ true → fits_news (sheet_changed n) ≡ true
changed_news_fit n is = both is refl

pub removed_news_fit : (n : ℕ) → is_sheet n ≡ true → fits_news (sheet_removed n) ≡ true
removed_news_fit n is = both is refl
