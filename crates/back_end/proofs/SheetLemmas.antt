-- A page's sheets: their numbers, what comes and goes, and the book that they are.
use Rattle.std.proofs.Common.{◌≡◌, ℕ, zero, suc, ◌+◌, ◌^◌, ◌<◌, ◌≤◌, ◌==◌, Bool, true, false, cond, not, ◌&&◌, ◌||◌, nat_eq, nat_lt, nat_le}
use Rattle.std.proofs.Common.{List, [], ◌∷◌, ◌++◌, length, map, drop, Option, Some, None, Result, Err, get_or, refl, sym, ap, ◌∙◌, subst}
use Rattle.std.proofs.Common.{append-nil, append_assoc, length-append, arith}
use Rattle.std.specs.Prelude.{IsSome, option_and_then, slice_get}
use Rattle.std.specs.List.{AllByRecursion, list_all}
use Rattle.std.specs.Str.{IsUtf8}
use Rattle.std.proofs.lemmas.Bool.{leb-true}
use Rattle.std.proofs.lemmas.Bool.Decides.{nat_tests}
use Rattle.std.proofs.lemmas.List.{map-append}
use Rattle.std.proofs.lemmas.List.Elements.{All-head, All-tail}
use Rattle.css_objects.specs.Sheets.{sheet_in}
use Rattle.node_tree.specs.declared.origins.Origin.{Origin}
use Rattle.sheet_reader.specs.declared.book.SheetEntry.{SheetEntry}
use Rattle.sheet_reader.specs.Books.{IsStored, entry_of, removed}
use Rattle.style_edits.specs.declared.faults.SheetErr.{SheetErr}
use Rattle.style_edits.specs.declared.faults.SheetErr.TheVariants.{Fault}
use Rattle.style_edits.specs.declared.faults.SheetFault.{SheetFault}
use Rattle.style_edits.specs.declared.faults.SheetFault.TheVariants.{TooBig}
use Rattle.style_edits.specs.Edits.{is_too_big, new_sheet, IfFault}
use Rattle.page_forms.specs.declared.sheets.SheetForm.{SheetForm}
use Rattle.page_forms.specs.Sheets.{max_sheets, max_sheet_bytes, is_short, can_hold_sheets}
use Rattle.page_forms.specs.Texts.{SheetsHaveTexts}
use Rattle.client_views.specs.Views.{ShownSheet, sheet_number, AreSheets, shows_sheet, shown_text, sheets_without, is_in, is_distinct}
use Rattle.css_agent.specs.Asks.{sheet_named}
use Rattle.cascade_match.proofs.MatchLemmas.{drop-at}
use Rattle.css_agent.proofs.TellableStyles.{both, sheet-number}
use Rattle.dom_agent.specs.Laws.{CanTellSheets}
use Rattle.media_rules.specs.declared.medium.Medium.{Medium}
use Rattle.back_end.specs.Sheets.{entry_of_sheet, as_book, shown_sheet, numbered_sheets, AscendBetween, AreSheetTexts}
use Rattle.back_end.specs.Sheets.{AreSheetsBelow, NumberedBook, AreBelow}

-- ---- tests

pub same-test : (m n : ℕ) → (m == n) ≡ (n == m)
same-test m n = at (m == n) refl (n == m) refl where
  at : (a : Bool) → (m == n) ≡ a → (b : Bool) → (n == m) ≡ b → a ≡ b
  at true e true f = refl
  at false e false f = refl
  at true e false f = grind (arith, nat_tests)
  at false e true f = grind (arith, nat_tests)

pub own-test : (n : ℕ) → (n == n) ≡ true
own-test n = grind (arith, nat_tests)

other-test : (m n : ℕ) → m < n → nat_eq m n ≡ false
other-test m n less = grind (arith, nat_tests)

neither : (a b : Bool) → a ≡ false → b ≡ false → (a || b) ≡ false
neither a b e f = ap (λ c. c || b) e ∙ f

-- ---- numbers

pub ascend-order : (least next : ℕ) (ss : List ShownSheet) → AscendBetween least next ss → least ≤ next
ascend-order least next [] all = all
ascend-order least next (s ∷ ss) all = let more = ascend-order (s.number + 1) next ss all.1 in omega (arith, all.0, more)

ascend-low : (other least next : ℕ) (ss : List ShownSheet) → other ≤ least → AscendBetween least next ss → AscendBetween other next ss
ascend-low other least next [] less all = omega (arith, less, all)
ascend-low other least next (s ∷ ss) less all = (omega (arith, less, all.0), all.1)

ascend-front : (least next : ℕ) (xs ys : List ShownSheet) → AscendBetween least next (xs ++ ys) → AscendBetween least next xs
ascend-front least next [] ys all = ascend-order least next ys all
ascend-front least next (x ∷ xs) ys all = (all.0, ascend-front (x.number + 1) next xs ys all.1)

ascend-last : (least next : ℕ) (origin : Origin) (text : List ℕ) (ss : List ShownSheet) → AscendBetween least next ss
    → AscendBetween least (next + 1) (ss ++ shown_sheet next origin text ∷ [])
ascend-last least next origin text [] all = (all, omega arith)
ascend-last least next origin text (s ∷ ss) all = (all.0, ascend-last (s.number + 1) next origin text ss all.1)

ascend-without : (n least next : ℕ) (ss : List ShownSheet) → AscendBetween least next ss → AscendBetween least next (sheets_without n ss)
ascend-without n least next [] all = all
ascend-without n least next (s ∷ ss) all = at (s.number == n) (ascend-without n (s.number + 1) next ss all.1) where
  at : (b : Bool) → AscendBetween (s.number + 1) next (sheets_without n ss) → AscendBetween least next (cond b ss (s ∷ sheets_without n ss))
  at true more = ascend-low least (s.number + 1) next ss (omega (arith, all.0)) all.1
  at false more = (all.0, more)

not-among : (n least next : ℕ) (ss : List ShownSheet) → n < least → AscendBetween least next ss → is_in n (map sheet_number ss) ≡ false
not-among n least next [] less all = refl
not-among n least next (s ∷ ss) less all =
    neither (nat_eq n s.number) (is_in n (map sheet_number ss)) (other-test n s.number (omega (arith, less, all.0)))
    (not-among n (s.number + 1) next ss (omega (arith, less, all.0)) all.1)

pub ascend-distinct : (least next : ℕ) (ss : List ShownSheet) → AscendBetween least next ss → is_distinct (map sheet_number ss) ≡ true
ascend-distinct least next [] all = refl
ascend-distinct least next (s ∷ ss) all =
    both (ap (λ b. not b) (not-among s.number (s.number + 1) next ss (omega arith) all.1)) (ascend-distinct (s.number + 1) next ss all.1)

are-sheets : (least next : ℕ) (ss : List ShownSheet) → 1 ≤ least → next ≤ 2 ^ 53 → AscendBetween least next ss → AreSheetTexts ss
    → AreSheets ss
are-sheets least next [] some low all texts = tt
are-sheets least next (s ∷ ss) some low all texts =
    let above = ascend-order (s.number + 1) next ss all.1 in (
      sheet-number s.number (omega (arith, some, all.0)) (omega (arith, above, low)),
      texts.0,
      are-sheets (s.number + 1) next ss
          (omega arith) low all.1 texts.2,
    )

-- messages can tell a page's sheets
pub can-tell-sheets : (next : ℕ) (ss : List ShownSheet) → next ≤ 2 ^ 53 → AreSheetsBelow next ss → CanTellSheets ss
can-tell-sheets next ss low is = record {
  are = are-sheets 1 next ss (omega arith) low is.numbers is.texts;
  apart = ascend-distinct 1 next ss is.numbers;
}

-- ---- what comes and goes

texts-front : (xs ys : List ShownSheet) → AreSheetTexts (xs ++ ys) → AreSheetTexts xs
texts-front [] ys all = tt
texts-front (x ∷ xs) ys all = (all.0, all.1, texts-front xs ys all.2)

texts-back : (xs ys : List ShownSheet) → AreSheetTexts (xs ++ ys) → AreSheetTexts ys
texts-back [] ys all = all
texts-back (x ∷ xs) ys all = texts-back xs ys all.2

texts-append : (xs ys : List ShownSheet) → AreSheetTexts xs → AreSheetTexts ys → AreSheetTexts (xs ++ ys)
texts-append [] ys left right = right
texts-append (x ∷ xs) ys left right = (left.0, left.1, texts-append xs ys left.2 right)

texts-without : (n : ℕ) (ss : List ShownSheet) → AreSheetTexts ss → AreSheetTexts (sheets_without n ss)
texts-without n [] all = tt
texts-without n (s ∷ ss) all = at (s.number == n) (texts-without n ss all.2) where
  at : (b : Bool) → AreSheetTexts (sheets_without n ss) → AreSheetTexts (cond b ss (s ∷ sheets_without n ss))
  at true more = all.2
  at false more = (all.0, all.1, more)

length-without : (n : ℕ) (ss : List ShownSheet) → length (sheets_without n ss) ≤ length ss
length-without n [] = omega arith
length-without n (s ∷ ss) = at (s.number == n) (length-without n ss) where
  at : (b : Bool) → length (sheets_without n ss) ≤ length ss → length (cond b ss (s ∷ sheets_without n ss)) ≤ length (s ∷ ss)
  at true more = omega arith
  at false more = omega (arith, more)

-- the sheets before some others
pub below-front : (next : ℕ) (xs ys : List ShownSheet) → AreSheetsBelow next (xs ++ ys) → AreSheetsBelow next xs
below-front next xs ys is =
    let count = length-append xs ys in
    record { numbers = ascend-front 1 next xs ys is.numbers; few = omega (arith, count, is.few); texts = texts-front xs ys is.texts }

-- those behind the first
pub below-tail : (next : ℕ) (s : ShownSheet) (ss : List ShownSheet) → AreSheetsBelow next (s ∷ ss) → AreSheetsBelow next ss
below-tail next s ss is = record {
  numbers = ascend-low 1 (s.number + 1) next ss (omega arith) is.numbers.1;
  few = omega (arith, is.few);
  texts = is.texts.2;
}

pub below-none : (next : ℕ) (ss : List ShownSheet) → AreSheetsBelow next ss → AreSheetsBelow next []
below-none next ss is = record { numbers = ascend-order 1 next ss is.numbers; few = omega arith; texts = tt }

pub texts-of-back : (next : ℕ) (xs ys : List ShownSheet) → AreSheetsBelow next (xs ++ ys) → AreSheetTexts ys
texts-of-back next xs ys is = texts-back xs ys is.texts

-- a new sheet with this text fits beside these
pub record FitsBeside (text : List ℕ) (sheets : List ShownSheet) : Type 0 where
  pub utf8 : IsUtf8 text
  pub short : length text ≤ max_sheet_bytes
  pub few : length sheets < max_sheets

pub sheets-come : (next : ℕ) (origin : Origin) (text : List ℕ) (ss : List ShownSheet) → FitsBeside text ss → AreSheetsBelow next ss
    → AreSheetsBelow (next + 1) (ss ++ shown_sheet next origin text ∷ [])
sheets-come next origin text ss fits is =
    let count = length-append ss (shown_sheet next origin text ∷ []) in
    record {
      numbers = ascend-last 1 next origin text ss is.numbers;
      few = omega (arith, count, fits.few);
      texts = texts-append ss (shown_sheet next origin text ∷ []) is.texts (fits.utf8, fits.short, tt);
    }

pub sheets-leave : (next n : ℕ) (ss : List ShownSheet) → AreSheetsBelow next ss → AreSheetsBelow next (sheets_without n ss)
sheets-leave next n ss is =
    let count = length-without n ss in
    record { numbers = ascend-without n 1 next ss is.numbers; few = omega (arith, count, is.few); texts = texts-without n ss is.texts }

-- ---- the sheets of a page that is loaded

numbered-ascend : (next : ℕ) (fs : List SheetForm) → AscendBetween next (next + length fs) (numbered_sheets next fs)
numbered-ascend next [] = omega arith
numbered-ascend next (f ∷ fs) =
    let one : next + 1 + length fs ≡ next + length (f ∷ fs) = omega arith in
    (omega arith, subst (λ (last : ℕ). AscendBetween (next + 1) last (numbered_sheets (next + 1) fs)) one (numbered-ascend (next + 1) fs))

pub numbered-count : (next : ℕ) (fs : List SheetForm) → length (numbered_sheets next fs) ≡ length fs
numbered-count next [] = refl
numbered-count next (f ∷ fs) = ap (λ n. suc n) (numbered-count (next + 1) fs)

and-left : (a b : Bool) → (a && b) ≡ true → a ≡ true
and-left true b e = refl
and-left false b e = absurd cc

and-right : (a b : Bool) → (a && b) ≡ true → b ≡ true
and-right true b e = e
and-right false b e = absurd cc

numbered-texts : (next : ℕ) (fs : List SheetForm) → list_all is_short fs ≡ true → SheetsHaveTexts fs
    → AreSheetTexts (numbered_sheets next fs)
numbered-texts next [] short texts = tt
numbered-texts next (f ∷ fs) short texts = (
  All-head (λ (x : SheetForm). IsUtf8 x.text) f fs texts,
  leb-true (length f.text) max_sheet_bytes (and-left (is_short f) (list_all is_short fs) short),
  numbered-texts (next + 1) fs (and-right (is_short f) (list_all is_short fs) short)
      (All-tail (λ (x : SheetForm). IsUtf8 x.text) f fs texts),
)

pub sheets-few : (fs : List SheetForm) → can_hold_sheets fs ≡ true → length fs ≤ max_sheets
sheets-few fs can = leb-true (length fs) max_sheets (and-left (nat_le (length fs) max_sheets) (list_all is_short fs) can)

pub sheets-loaded : (next : ℕ) (fs : List SheetForm) → 1 ≤ next → can_hold_sheets fs ≡ true → SheetsHaveTexts fs
    → AreSheetsBelow (next + length fs) (numbered_sheets next fs)
sheets-loaded next fs some can texts =
    let count = numbered-count next fs in
    let few = sheets-few fs can in
    record {
      numbers = ascend-low 1 next (next + length fs) (numbered_sheets next fs) some (numbered-ascend next fs);
      few = omega (arith, count, few);
      texts = numbered-texts next fs (and-right (nat_le (length fs) max_sheets) (list_all is_short fs) can) texts;
    }

-- ---- the book

pub book-last : (next : ℕ) (origin : Origin) (text : List ℕ) (ss : List ShownSheet)
    → as_book (ss ++ shown_sheet next origin text ∷ []) ≡ as_book ss ++ new_sheet next origin text ∷ []
book-last next origin text ss =
    map-append entry_of_sheet ss (shown_sheet next origin text ∷ [])

pub book-without : (n : ℕ) (ss : List ShownSheet) → removed n (as_book ss) ≡ as_book (sheets_without n ss)
book-without n [] = refl
book-without n (s ∷ ss) =
    ap (λ (b : Bool). cond b (as_book ss) (entry_of_sheet s ∷ removed n (as_book ss))) (same-test n s.number) ∙ at (s.number == n)
    (book-without n ss)
  where
    at : (b : Bool) → removed n (as_book ss) ≡ as_book (sheets_without n ss)
        → cond b (as_book ss) (entry_of_sheet s ∷ removed n (as_book ss)) ≡ as_book (cond b ss (s ∷ sheets_without n ss))
    at true more = refl
    at false more = ap (λ (es : List SheetEntry). entry_of_sheet s ∷ es) more

pub book-count : (ss : List ShownSheet) → length (as_book ss) ≡ length ss
book-count [] = refl
book-count (s ∷ ss) = ap (λ n. suc n) (book-count ss)

-- each is as a book has it
pub book-stored : (next : ℕ) (ss : List ShownSheet) → next ≤ 2 ^ 53 → AreSheetsBelow next ss → AllByRecursion IsStored (as_book ss)
book-stored next ss low is = at 1 ss (omega arith) is.numbers is.texts where
  at : (least : ℕ) (ss : List ShownSheet) → 1 ≤ least → AscendBetween least next ss → AreSheetTexts ss
      → AllByRecursion IsStored (as_book ss)
  at least [] some all texts = tt
  at least (s ∷ ss) some all texts =
      let above = ascend-order (s.number + 1) next ss all.1 in (
        record {
          entry = record { read = refl; some = omega (arith, some, all.0); id = omega (arith, above, low); short = texts.1 };
          utf8 = texts.0;
        },
        at (s.number + 1) ss (omega arith) all.1 texts.2,
      )

-- ---- a sheet of the book

-- a sheet that is found stands among those that are shown
pub record StandsIn (n : ℕ) (e : SheetEntry) (ss : List ShownSheet) : Type 0 where
  pub number : e.id ≡ n
  pub shows : shows_sheet n ss ≡ true
  pub text : shown_text n ss ≡ Some e.text

pub entry-stands : (n : ℕ) (ss : List ShownSheet) (e : SheetEntry) → entry_of n (as_book ss) ≡ Some e → StandsIn n e ss
entry-stands n [] e h = absurd cc
entry-stands n (s ∷ ss) e h = at (n == s.number) refl h (λ k. entry-stands n ss e k) where
  at : (b : Bool) → (n == s.number) ≡ b → cond b (Some (entry_of_sheet s)) (entry_of n (as_book ss)) ≡ Some e
      → (entry_of n (as_book ss) ≡ Some e → StandsIn n e ss) → StandsIn n e (s ∷ ss)
  at true t k more =
      let same : entry_of_sheet s ≡ e = cc in
      let is : s.number ≡ n = grind (arith, nat_tests) in
      let test : (s.number == n) ≡ true = same-test s.number n ∙ t in
      record {
        number = ap (λ (x : SheetEntry). x.id) (sym same) ∙ is;
        shows = ap (λ (b : Bool). b || shows_sheet n ss) test;
        text = ap (λ (b : Bool). cond b (Some s.text) (shown_text n ss)) test ∙ ap (λ (x : SheetEntry). Some x.text) same;
      }
  at false t k more =
      let test : (s.number == n) ≡ false = same-test s.number n ∙ t in
      let rest = more k in
      record {
        number = rest.number;
        shows = ap (λ (b : Bool). b || shows_sheet n ss) test ∙ rest.shows;
        text = ap (λ (b : Bool). cond b (Some s.text) (shown_text n ss)) test ∙ rest.text;
      }

named-by : (o : Option ℕ) (book : List SheetEntry) (e : SheetEntry) → option_and_then (λ id. entry_of id book) o ≡ Some e
    → (n : ℕ) × (o ≡ Some n) × (entry_of n book ≡ Some e)
named-by None book e h = absurd cc
named-by (Some n) book e h = (n, refl, h)

-- the sheet whose id has this text
pub record IsNamed (name : List ℕ) (e : SheetEntry) (ss : List ShownSheet) : Type 0 where
  pub told : sheet_in name ≡ Some e.id
  pub shows : shows_sheet e.id ss ≡ true
  pub text : shown_text e.id ss ≡ Some e.text
  pub found : entry_of e.id (as_book ss) ≡ Some e

pub named-is : (text : List ℕ) (ss : List ShownSheet) (e : SheetEntry) → sheet_named text (as_book ss) ≡ Some e → IsNamed text e ss
named-is text ss e h =
    let p = named-by (sheet_in text) (as_book ss) e h in
    let s = entry-stands p.0 ss e p.2 in
    record {
      told = p.1 ∙ ap (λ n. Some n) (sym s.number);
      shows = subst (λ (n : ℕ). shows_sheet n ss ≡ true) (sym s.number) s.shows;
      text = subst (λ (n : ℕ). shown_text n ss ≡ Some e.text) (sym s.number) s.text;
      found = subst (λ (n : ℕ). entry_of n (as_book ss) ≡ Some e) (sym s.number) p.2;
    }

-- ---- what does not fit

lower : (a b : ℕ) → nat_lt a b ≡ false → b ≤ a
lower a b e = grind (arith, nat_tests)

above : (a b : ℕ) → nat_le a b ≡ false → b < a
above a b e = grind (arith, nat_tests)

or-left : (a b : Bool) → (a || b) ≡ false → a ≡ false
or-left false b e = refl
or-left true b e = absurd cc

or-right : (a b : Bool) → (a || b) ≡ false → b ≡ false
or-right false b e = e
or-right true b e = absurd cc

pub fits-beside : (text : List ℕ) (ss : List ShownSheet) → IsUtf8 text → is_too_big text (as_book ss) ≡ false → FitsBeside text ss
fits-beside text ss utf8 fits =
    let count = book-count ss in
    let long = lower max_sheet_bytes (length text) (or-left (nat_lt (2 ^ 24) (length text)) (nat_le 1000 (length (as_book ss))) fits) in
    let many = above 1000 (length (as_book ss)) (or-right (nat_lt (2 ^ 24) (length text)) (nat_le 1000 (length (as_book ss))) fits) in
    record { utf8 = utf8; short = long; few = omega (arith, count, many) }

-- ---- the book in code

below-absent-test : (m n : ℕ) → n < m → (m == n) ≡ false
below-absent-test m n less = grind (arith, nat_tests)

-- the next number is that of no sheet
pub below-absent : (next : ℕ) (es : List SheetEntry) → AreBelow next es → entry_of next es ≡ None
below-absent next [] all = refl
below-absent next (e ∷ es) all =
    ap (λ (b : Bool). cond b (Some e) (entry_of next es)) (below-absent-test next e.id all.0) ∙ below-absent next es all.1

pub below-last : (next : ℕ) (origin : Origin) (text : List ℕ) (es : List SheetEntry) → AreBelow next es
    → AreBelow (next + 1) (es ++ new_sheet next origin text ∷ [])
below-last next origin text [] all = (omega arith, tt)
below-last next origin text (e ∷ es) all = (omega (arith, all.0), below-last next origin text es all.1)

pub below-removed : (n next : ℕ) (es : List SheetEntry) → AreBelow next es → AreBelow next (removed n es)
below-removed n next [] all = tt
below-removed n next (e ∷ es) all = at (n == e.id) (below-removed n next es all.1) where
  at : (b : Bool) → AreBelow next (removed n es) → AreBelow next (cond b es (e ∷ removed n es))
  at true more = all.1
  at false more = (all.0, more)

-- a sheet that is there goes, and one fewer is left
pub one-fewer : (n : ℕ) (es : List SheetEntry) → IsSome (entry_of n es) → suc (length (removed n es)) ≡ length es
one-fewer n [] there = absurd cc
one-fewer n (e ∷ es) there = at (n == e.id) there (λ k. one-fewer n es k) where
  at : (b : Bool) → IsSome (cond b (Some e) (entry_of n es)) → (IsSome (entry_of n es) → suc (length (removed n es)) ≡ length es)
      → suc (length (cond b es (e ∷ removed n es))) ≡ length (e ∷ es)
  at true k more = refl
  at false k more = ap (λ m. suc m) (more k)

-- ---- the sheets of a page that is loaded, in code

-- The sheets so far, and those that are left, make up the whole; and so do the numbers. The medium is this one.
abbrev pub LoadedSoFar : ℕ → Medium → List SheetForm → ℕ → NumberedBook → Type 0
LoadedSoFar next medium forms i book =
    (book.entries ++ as_book (numbered_sheets book.next (drop i forms)) ≡ as_book (numbered_sheets next forms))
    × (book.next + length (drop i forms) ≡ next + length forms) × (book.medium ≡ medium)

short-at : (forms : List SheetForm) (i : ℕ) (f : SheetForm) → list_all is_short forms ≡ true → slice_get forms i ≡ Some f
    → length f.text ≤ max_sheet_bytes
short-at [] i f all at = absurd cc
short-at (x ∷ xs) zero f all at =
    let same : x ≡ f = cc in
    subst (λ (y : SheetForm). length y.text ≤ max_sheet_bytes) same
    (leb-true (length x.text) max_sheet_bytes (and-left (is_short x) (list_all is_short xs) all))
short-at (x ∷ xs) (suc i) f all at = short-at xs i f (and-right (is_short x) (list_all is_short xs) all) at

-- each fits
pub loaded-fits : (next i : ℕ) (medium : Medium) (forms : List SheetForm) (f : SheetForm) (book : NumberedBook)
    → can_hold_sheets forms ≡ true
    → slice_get forms i ≡ Some f → LoadedSoFar next medium forms i book
    → is_too_big f.text book.entries ≡ true → ⊥
loaded-fits next i medium forms f book can at inv big =
    let short = short-at forms i f (and-right (nat_le (length forms) max_sheets) (list_all is_short forms) can) at in
    let few = sheets-few forms can in
    let split : length (drop i forms)
    ≡ suc (length (drop (i + 1) forms)) = ap (λ (fs : List SheetForm). length fs) (drop-at forms i f at) in
    let all : length (book.entries ++ as_book (numbered_sheets book.next (drop i forms)))
    ≡ length (as_book (numbered_sheets next forms)) = ap (λ (es : List SheetEntry). length es) inv.0 in
    let sum = length-append book.entries (as_book (numbered_sheets book.next (drop i forms))) in
    let left = book-count (numbered_sheets book.next (drop i forms)) in
    let left_forms = numbered-count book.next (drop i forms) in
    let whole = book-count (numbered_sheets next forms) in
    let whole_forms = numbered-count next forms in
    apart (nat_lt (2 ^ 24) (length f.text)) (nat_le 1000 (length book.entries)) (not-less (2 ^ 24) (length f.text) short)
    (not-more 1000 (length book.entries) (omega (arith, split, all, sum, left, left_forms, whole, whole_forms, few))) big
  where
    apart : (a b : Bool) → a ≡ false → b ≡ false → (a || b) ≡ true → ⊥
    apart true b e f h = cc
    apart false true e f h = cc
    apart false false e f h = cc

    not-less : (a b : ℕ) → b ≤ a → nat_lt a b ≡ false
    not-less a b less = grind (arith, nat_tests)

    not-more : (a b : ℕ) → b < a → nat_le a b ≡ false
    not-more a b less = grind (arith, nat_tests)

-- an element at a place
got : (fs : List SheetForm) (i : ℕ) (f : SheetForm) → i < length fs → f ≡ get_or fs i f → slice_get fs i ≡ Some f
got [] i f inside is = absurd (omega (arith, inside))
got (x ∷ xs) zero f inside is = ap (λ (y : SheetForm). Some y) (sym is)
got (x ∷ xs) (suc i) f inside is = got xs i f (omega (arith, inside)) is

-- no sheet of a page that may be loaded is too big
pub loaded-fault : (next i : ℕ) (medium : Medium) (forms : List SheetForm) (f : SheetForm) (text : List ℕ) (book : NumberedBook)
    (result : Result Unit SheetErr) (error : SheetErr) (fault : SheetFault)
    → can_hold_sheets forms ≡ true → i < length forms → f ≡ get_or forms i f → text ≡ f.text → LoadedSoFar next medium forms i book
    → result ≡ Err error → error ≡ Fault fault → IfFault result (λ g. (g ≡ TooBig) × (is_too_big text book.entries ≡ true)) → ⊥
loaded-fault next i medium forms f text book result error fault can inside at said inv failed is faulty =
    let big = subst (λ (r : Result Unit SheetErr). IfFault r (λ g. (g ≡ TooBig) × (is_too_big text book.entries ≡ true)))
    (failed ∙ ap (λ (e : SheetErr). Err e) is) faulty in
    loaded-fits next i medium forms f book can (got forms i f inside at) inv
    (ap (λ (t : List ℕ). is_too_big t book.entries) (sym said) ∙ big.1)

-- what the code keeps of its book
abbrev pub KeepsNumbers : ℕ → List SheetEntry → Type 0
KeepsNumbers next es = (0 < next) × AreBelow next es

pub added-kept : (next : ℕ) (origin : Origin) (text : List ℕ) (es new : List SheetEntry) → KeepsNumbers next es
    → new ≡ es ++ new_sheet next origin text ∷ [] → KeepsNumbers (next + 1) new
added-kept next origin text es new keeps is = subst (KeepsNumbers (next + 1)) (sym is) (omega arith, below-last next origin text es keeps.1)

pub removed-kept : (n next : ℕ) (es new : List SheetEntry) → KeepsNumbers next es → new ≡ removed n es → KeepsNumbers next new
removed-kept n next es new keeps is = subst (KeepsNumbers next) (sym is) (keeps.0, below-removed n next es keeps.1)

-- one fewer leaves room for one
pub rest-full : (text : List ℕ) (es : List SheetEntry) (n : ℕ) → IsSome (entry_of n es)
    → (nat_lt max_sheet_bytes (length text) || nat_lt 1000 (length es)) ≡ is_too_big text (removed n es)
rest-full text es n there =
    ap (λ (b : Bool). nat_lt max_sheet_bytes (length text) || b)
    (ap (λ (m : ℕ). nat_lt 1000 m) (sym (one-fewer n es there)) ∙ same (length (removed n es)))
  where
    same : (m : ℕ) → nat_lt 1000 (suc m) ≡ nat_le 1000 m
    same m = at (nat_lt 1000 (suc m)) refl (nat_le 1000 m) refl where
      at : (a : Bool) → nat_lt 1000 (suc m) ≡ a → (b : Bool) → nat_le 1000 m ≡ b → a ≡ b
      at true e true f = refl
      at false e false f = refl
      at true e false f = grind (arith, nat_tests)
      at false e true f = grind (arith, nat_tests)

pub rest-else : (text : List ℕ) (es book : List SheetEntry) (n count : ℕ) (long : Bool) → IsSome (entry_of n es) → book ≡ es
    → count ≡ length book → long ≡ nat_lt max_sheet_bytes (length text) → long ≡ false
    → nat_lt 1000 count ≡ is_too_big text (removed n es)
rest-else text es book n count long there same is said short =
    ap (λ (m : ℕ). nat_lt 1000 m) (is ∙ ap (λ (xs : List SheetEntry). length xs) same)
    ∙ ap (λ (b : Bool). b || nat_lt 1000 (length es)) (sym (sym said ∙ short)) ∙ rest-full text es n there
