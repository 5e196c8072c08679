-- The sheets that a front knows, beside those that a view has.
use Rattle.std.proofs.Common.{◌≡◌, ℕ, ◌==◌, Bool, true, false, ◌||◌, cond, List, [], ◌∷◌, ◌++◌, Option, Some, None, refl}
use Rattle.std.proofs.Common.{sym, ap, ◌∙◌, subst}
use Rattle.client_views.specs.Views.{ShownSheet, sheet_header, shows_sheet, shown_text, sheets_without}
use Rattle.client_views.specs.Views.{sheets_with_text}
use Rattle.front_mirror.specs.declared.sheets.KnownSheet.{KnownSheet}
use Rattle.front_mirror.specs.Sheets.{told_sheet, stale_sheet, fresh_sheet, has_sheet, marked_old, with_fetched, without_sheet}
use Rattle.front_mirror.specs.Front.{sheets_fetched}
use Rattle.front_mirror.specs.Laws.{KnowsSheet, KnowsSheets, IsOfSheet}

-- ---- what stays the same on both sides

known-either : (b : Bool) (ks ls : List KnownSheet) (ss ts : List ShownSheet) → KnowsSheets ks ss → KnowsSheets ls ts
    → KnowsSheets (cond b ks ls) (cond b ss ts)
known-either true ks ls ss ts first second = first
known-either false ks ls ss ts first second = second

-- a sheet has a number at the front just where it has it in the view
pub known-has : (n : ℕ) (ks : List KnownSheet) (ss : List ShownSheet) → KnowsSheets ks ss → has_sheet n ks ≡ shows_sheet n ss
known-has n [] [] e = refl
known-has n [] (s ∷ ss) e = absurd e
known-has n (k ∷ ks) [] e = absurd e
known-has n (k ∷ ks) (s ∷ ss) e =
    ap (λ (number : ℕ). number == n || has_sheet n ks) e.0.number ∙ ap (λ (b : Bool). s.number == n || b) (known-has n ks ss e.1)

-- one sheet more
pub known-added : (ks : List KnownSheet) (ss : List ShownSheet) (s : ShownSheet) → KnowsSheets ks ss
    → KnowsSheets (ks ++ told_sheet (sheet_header s) ∷ []) (ss ++ s ∷ [])
known-added [] [] s e = (record { number = refl; origin = refl; text = λ fresh. absurd cc }, tt)
known-added [] (t ∷ ss) s e = absurd e
known-added (k ∷ ks) [] s e = absurd e
known-added (k ∷ ks) (t ∷ ss) s e = (e.0, known-added ks ss s e.1)

-- one sheet less
pub known-without : (n : ℕ) (ks : List KnownSheet) (ss : List ShownSheet) → KnowsSheets ks ss
    → KnowsSheets (without_sheet n ks) (sheets_without n ss)
known-without n [] [] e = tt
known-without n [] (s ∷ ss) e = absurd e
known-without n (k ∷ ks) [] e = absurd e
known-without n (k ∷ ks) (s ∷ ss) e =
    subst (λ (number : ℕ). KnowsSheets (cond (number == n) ks (k ∷ without_sheet n ks))
    (cond (s.number == n) ss (s ∷ sheets_without n ss))) (sym e.0.number)
    (known-either (s.number == n) ks (k ∷ without_sheet n ks) ss (s ∷ sheets_without n ss) e.1 (e.0, known-without n ks ss e.1))

-- a text is marked as old, and is another one
known-old : (text : List ℕ) (k : KnownSheet) (s : ShownSheet) → KnowsSheet k s → KnowsSheet (stale_sheet k) (record s { text = text })
known-old text k s e = record { number = e.number; origin = e.origin; text = λ fresh. absurd cc }

pub known-rewritten : (n : ℕ) (text : List ℕ) (ks : List KnownSheet) (ss : List ShownSheet) → KnowsSheets ks ss
    → KnowsSheets (marked_old n ks) (sheets_with_text n text ss)
known-rewritten n text [] [] e = tt
known-rewritten n text [] (s ∷ ss) e = absurd e
known-rewritten n text (k ∷ ks) [] e = absurd e
known-rewritten n text (k ∷ ks) (s ∷ ss) e =
    subst (λ (number : ℕ). KnowsSheets (cond (number == n) (stale_sheet k ∷ ks) (k ∷ marked_old n ks))
    (cond (s.number == n) (record s { text = text } ∷ ss) (s ∷ sheets_with_text n text ss)))
    (sym e.0.number)
    (known-either (s.number == n) (stale_sheet k ∷ ks) (k ∷ marked_old n ks) (record s { text = text } ∷ ss)
    (s ∷ sheets_with_text n text ss)
    (known-old text k s e.0, e.1) (e.0, known-rewritten n text ks ss e.1))

-- a text is fetched, and is that of the view
fetched-one : (b : Bool) (text : List ℕ) (k : KnownSheet) (s : ShownSheet) (ks later : List KnownSheet) (ss : List ShownSheet)
    (o : Option (List ℕ))
    → KnowsSheet k s → KnowsSheets ks ss → (o ≡ Some text → KnowsSheets later ss) → cond b (Some s.text) o ≡ Some text
    → KnowsSheets (cond b (fresh_sheet text k ∷ ks) (k ∷ later)) (s ∷ ss)
fetched-one true text k s ks later ss o e es rest is = (record { number = e.number; origin = e.origin; text = λ fresh. sym is }, es)
fetched-one false text k s ks later ss o e es rest is = (e, rest is)

known-text : (n : ℕ) (text : List ℕ) (ks : List KnownSheet) (ss : List ShownSheet) → shown_text n ss ≡ Some text → KnowsSheets ks ss
    → KnowsSheets (with_fetched n text ks) ss
known-text n text [] [] is e = absurd cc
known-text n text [] (s ∷ ss) is e = absurd e
known-text n text (k ∷ ks) [] is e = absurd e
known-text n text (k ∷ ks) (s ∷ ss) is e =
    subst (λ (number : ℕ). KnowsSheets (cond (number == n) (fresh_sheet text k ∷ ks) (k ∷ with_fetched n text ks)) (s ∷ ss))
    (sym e.0.number)
    (fetched-one (s.number == n) text k s ks (with_fetched n text ks) ss (shown_text n ss) e.0 e.1
    (λ later. known-text n text ks ss later e.1) is)

-- the same, where it may be a fetch or none
pub known-fetched : (n : ℕ) (o : Option ℕ) (text : List ℕ) (ks : List KnownSheet) (ss : List ShownSheet) → IsOfSheet n o
    → shown_text n ss ≡ Some text → KnowsSheets ks ss
    → KnowsSheets (sheets_fetched o text ks) ss
known-fetched n None text ks ss of_sheet is e = e
known-fetched n (Some sheet) text ks ss of_sheet is e = subst (λ (m : ℕ). KnowsSheets (with_fetched m text ks) ss) (sym of_sheet)
    (known-text n text ks ss is e)
