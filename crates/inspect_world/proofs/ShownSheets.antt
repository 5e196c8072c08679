-- The sheets that a client sees, and those that a front end knows: their numbers are apart, and are those of sheets.
use Rattle.std.proofs.Common.{◌≡◌, ℕ, suc, ◌+◌, ◌==◌, ◌||◌, ◌<◌, ◌≤◌, Bool, true, false, not, ◌&&◌, cond, List, [], ◌∷◌, ◌++◌, length, map}
use Rattle.std.proofs.Common.{is_some, Option, Some, if◌then◌else◌, refl, sym, ◌∙◌, ap, subst, arith}
use Rattle.std.specs.Str.{IsUtf8}
use Rattle.std.proofs.lemmas.Bool.{eqb-true, eq-eqb, ne_eqb}
use Rattle.client_views.specs.Views.{ShownSheet, shown_text}
use Rattle.sheet_reader.specs.declared.book.SheetEntry.{SheetEntry}
use Rattle.sheet_reader.specs.Books.{entry_of}
use Rattle.front_mirror.specs.declared.sheets.KnownSheet.{KnownSheet}
use Rattle.front_mirror.specs.Sheets.{has_sheet, has_fresh_text, stale_of}
use Rattle.front_mirror.specs.Laws.{KnowsSheet, KnowsSheets}
use Rattle.back_end.specs.Sheets.{entry_of_sheet, as_book, AscendBetween, AreSheetTexts, AreSheetsBelow}
use Rattle.back_end.specs.States.{State, IsState, sheets_shown}
use Rattle.inspect_world.specs.SheetTexts.{sheet_line, sheet_lines, known_lines}
use Rattle.inspect_world.specs.FreshRuns.{known_fresh}
use Rattle.inspect_world.proofs.StaleLemmas.{AreApart}

-- ---- numbers that ascend

ascends : (least next : ℕ) (ss : List ShownSheet) → AscendBetween least next ss → least ≤ next
ascends least next [] a = a
ascends least next (s ∷ ss) a =
    let low : least ≤ s.number = a.0 in
    let high : s.number + 1 ≤ next = ascends (s.number + 1) next ss a.1 in omega (arith, low, high)

-- the sheets that are shown are the page's, or none
shown-by : (on : Bool) (next : ℕ) (ss : List ShownSheet) → AreSheetsBelow next ss → AreSheetsBelow next (cond on ss [])
shown-by true next ss below = below
shown-by false next ss below = record { numbers = ascends 1 next ss below.numbers; few = omega arith; texts = tt }

pub shown-below : (state : State) → IsState state → AreSheetsBelow state.side.next_sheet (sheets_shown state)
shown-below state is = shown-by state.client.css_on state.side.next_sheet state.side.sheets is.now.sheets

-- ---- what a front end knows

known-apart : (n least next : ℕ) (ks : List KnownSheet) (ss : List ShownSheet) → KnowsSheets ks ss → AscendBetween least next ss
    → n < least → has_sheet n ks ≡ false
known-apart n least next [] ss knows a less = refl
known-apart n least next (k ∷ ks) [] knows a less = absurd knows
known-apart n least next (k ∷ ks) (s ∷ ss) knows a less =
    let low : least ≤ s.number = a.0 in
    let same : k.number ≡ s.number = knows.0.number in
    let other : (k.number == n) ≡ false = ne_eqb k.number n (λ e. absurd (omega (arith, low, same, less, e))) in
    ap (λ b. b || has_sheet n ks) other ∙ known-apart n (s.number + 1) next ks ss knows.1 a.1 (omega (arith, low, less))

pub are-apart : (least next : ℕ) (ks : List KnownSheet) (ss : List ShownSheet) → KnowsSheets ks ss → AscendBetween least next ss
    → AreApart ks
are-apart least next [] ss knows a = tt
are-apart least next (k ∷ ks) [] knows a = absurd knows
are-apart least next (k ∷ ks) (s ∷ ss) knows a =
    let same : k.number ≡ s.number = knows.0.number in
    (known-apart k.number (s.number + 1) next ks ss knows.1 a.1 (omega (arith, same)), are-apart (s.number + 1) next ks ss knows.1 a.1)

pub known-length : (ks : List KnownSheet) (ss : List ShownSheet) → KnowsSheets ks ss → length ks ≡ length ss
known-length [] [] knows = refl
known-length [] (s ∷ ss) knows = absurd knows
known-length (k ∷ ks) [] knows = absurd knows
known-length (k ∷ ks) (s ∷ ss) knows = ap suc (known-length ks ss knows.1)

-- ---- the sheet of a number

-- it is shown, with a text
pub record HasText (n : ℕ) (ss : List ShownSheet) : Type 0 where
  pub text : List ℕ
  pub is : shown_text n ss ≡ Some text

text-cons : (b : Bool) (n : ℕ) (s : ShownSheet) (ss : List ShownSheet) → (s.number == n) ≡ b → HasText n ss → HasText n (s ∷ ss)
text-cons true n s ss is has = record { text = s.text; is = ap (λ c. cond c (Some s.text) (shown_text n ss)) is }
text-cons false n s ss is has = record { text = has.text; is = ap (λ c. cond c (Some s.text) (shown_text n ss)) is ∙ has.is }

stale-by : (fresh : Bool) (k : KnownSheet) (s : ShownSheet) (ks : List KnownSheet) (ss : List ShownSheet) (number : ℕ) (numbers : List ℕ)
    → k.number ≡ s.number
    → cond fresh (stale_of ks) (k.number ∷ stale_of ks) ≡ number ∷ numbers → (stale_of ks ≡ number ∷ numbers → HasText number ss)
    → HasText number (s ∷ ss)
stale-by true k s ks ss number numbers same e later = text-cons (s.number == number) number s ss refl (later e)
stale-by false k s ks ss number numbers same e later =
    let first : k.number ≡ number = cc e in
    record { text = s.text; is = ap (λ c. cond c (Some s.text) (shown_text number ss)) (eq-eqb s.number number (sym same ∙ first)) }

-- a sheet without a fresh text is shown
pub stale-shown : (ks : List KnownSheet) (ss : List ShownSheet) (number : ℕ) (numbers : List ℕ) → KnowsSheets ks ss
    → stale_of ks ≡ number ∷ numbers → HasText number ss
stale-shown [] ss number numbers knows e = absurd cc
stale-shown (k ∷ ks) [] number numbers knows e = absurd knows
stale-shown (k ∷ ks) (s ∷ ss) number numbers knows e =
    stale-by (has_fresh_text k) k s ks ss number numbers knows.0.number e (λ rest. stale-shown ks ss number numbers knows.1 rest)

number-by : (b : Bool) (n least next : ℕ) (s : ShownSheet) (ss : List ShownSheet) (text : List ℕ) → (s.number == n) ≡ b → least ≤ s.number
    → s.number + 1 ≤ next
    → cond b (Some s.text) (shown_text n ss) ≡ Some text → (shown_text n ss ≡ Some text → (s.number + 1 ≤ n) × (n < next))
    → (least ≤ n) × (n < next)
number-by true n least next s ss text is low high e later = let same : s.number
    ≡ n = eqb-true s.number n is in (omega (arith, low, same), omega (arith, high, same))
number-by false n least next s ss text is low high e later = let p = later e in (omega (arith, low, p.0), p.1)

-- its number is one of those
pub shown-number : (n least next : ℕ) (ss : List ShownSheet) (text : List ℕ) → AscendBetween least next ss → shown_text n ss ≡ Some text
    → (least ≤ n) × (n < next)
shown-number n least next [] text a e = absurd cc
shown-number n least next (s ∷ ss) text a e =
    number-by (s.number == n) n least next s ss text refl a.0 (ascends (s.number + 1) next ss a.1) e
    (λ rest. shown-number n (s.number + 1) next ss text a.1 rest)

utf8-by : (b : Bool) (s : ShownSheet) (o : Option (List ℕ)) (text : List ℕ) → IsUtf8 s.text → (o ≡ Some text → IsUtf8 text)
    → cond b (Some s.text) o ≡ Some text → IsUtf8 text
utf8-by true s o text one later e = let same : s.text ≡ text = cc e in subst IsUtf8 same one
utf8-by false s o text one later e = later e

-- its text is UTF-8
pub shown-utf8 : (n : ℕ) (text : List ℕ) (ss : List ShownSheet) → AreSheetTexts ss → shown_text n ss ≡ Some text → IsUtf8 text
shown-utf8 n text [] texts e = absurd cc
shown-utf8 n text (s ∷ ss) texts e = utf8-by (s.number == n) s (shown_text n ss) text texts.0 (shown-utf8 n text ss texts.2) e

-- ---- in the book

-- an entry of that number and text
pub record IsEntryOf (n : ℕ) (text : List ℕ) (book : List SheetEntry) : Type 0 where
  pub entry : SheetEntry
  pub found : entry_of n book ≡ Some entry
  pub id_is : entry.id ≡ n
  pub text_is : entry.text ≡ text

entry-by : (b : Bool) (n : ℕ) (text : List ℕ) (s : ShownSheet) (ss : List ShownSheet) → (s.number == n) ≡ b → (n == s.number) ≡ b
    → cond b (Some s.text) (shown_text n ss) ≡ Some text → (shown_text n ss ≡ Some text → IsEntryOf n text (as_book ss))
    → IsEntryOf n text (as_book (s ∷ ss))
entry-by true n text s ss is is2 e later = record {
  entry = entry_of_sheet s;
  found = ap (λ c. if c then Some (entry_of_sheet s) else entry_of n (as_book ss)) is2;
  id_is = eqb-true s.number n is;
  text_is = cc e;
}
entry-by false n text s ss is is2 e later =
    let p : IsEntryOf n text (as_book ss) = later e in
    record {
      entry = p.entry;
      found = ap (λ c. if c then Some (entry_of_sheet s) else entry_of n (as_book ss)) is2 ∙ p.found;
      id_is = p.id_is;
      text_is = p.text_is;
    }

turned-by : (a b : ℕ) (c : Bool) → (a == b) ≡ c → (b == a) ≡ c
turned-by a b true e = eq-eqb b a (sym (eqb-true a b e))
turned-by a b false e = ne_eqb b a (λ same. let no : true ≡ false = sym (eq-eqb a b (sym same)) ∙ e in absurd cc)

pub book-entry : (n : ℕ) (text : List ℕ) (ss : List ShownSheet) → shown_text n ss ≡ Some text → IsEntryOf n text (as_book ss)
book-entry n text [] e = absurd cc
book-entry n text (s ∷ ss) e =
    entry-by (s.number == n) n text s ss refl (turned-by s.number n (s.number == n) refl) e (λ rest. book-entry n text ss rest)

id-by : (b : Bool) (n : ℕ) (x e : SheetEntry) (es : List SheetEntry) → (n == x.id) ≡ b → (if b then Some x else entry_of n es) ≡ Some e
    → (entry_of n es ≡ Some e → e.id ≡ n) → e.id ≡ n
id-by true n x e es is found later = let same : x ≡ e = cc found in ap (λ (y : SheetEntry). y.id) (sym same) ∙ sym (eqb-true n x.id is)
id-by false n x e es is found later = later found

-- an entry that is found has the number
pub entry-id : (n : ℕ) (es : List SheetEntry) (e : SheetEntry) → entry_of n es ≡ Some e → e.id ≡ n
entry-id n [] e found = absurd cc
entry-id n (x ∷ es) e found = id-by (n == x.id) n x e es refl found (λ rest. entry-id n es e rest)

-- ---- what a show prints

not-stale : (k : KnownSheet) → has_fresh_text k ≡ true → k.stale ≡ false
not-stale k e = at (is_some k.text) k.stale e where
  at : (some stale : Bool) → (some && not stale) ≡ true → stale ≡ false
  at true true e = absurd cc
  at true false e = refl
  at false stale e = absurd cc

known-same : (k : KnownSheet) (s : ShownSheet) → KnowsSheet k s → k.stale ≡ false → k ≡ known_fresh s
known-same k s knows fresh = λ i. record {
  number = knows.number i;
  origin = knows.origin i;
  text = knows.text fresh i;
  stale = fresh i;
}

texts-by : (fresh : Bool) (k : KnownSheet) (s : ShownSheet) (ks : List KnownSheet) (ss : List ShownSheet) → has_fresh_text k ≡ fresh
    → KnowsSheet k s → cond fresh (stale_of ks) (k.number ∷ stale_of ks) ≡ [] → (stale_of ks ≡ [] → ks ≡ map known_fresh ss)
    → k ∷ ks ≡ map known_fresh (s ∷ ss)
texts-by true k s ks ss is knows e later = ap (λ x. x ∷ ks) (known-same k s knows (not-stale k is)) ∙ ap (λ xs. known_fresh s ∷ xs)
    (later e)
texts-by false k s ks ss is knows e later = absurd cc

-- where no text is old, the known sheets are those of the page
pub fresh-texts : (ks : List KnownSheet) (ss : List ShownSheet) → KnowsSheets ks ss → stale_of ks ≡ [] → ks ≡ map known_fresh ss
fresh-texts [] [] knows e = refl
fresh-texts [] (s ∷ ss) knows e = absurd knows
fresh-texts (k ∷ ks) [] knows e = absurd knows
fresh-texts (k ∷ ks) (s ∷ ss) knows e = texts-by (has_fresh_text k) k s ks ss refl knows.0 e (λ rest. fresh-texts ks ss knows.1 rest)

fresh-printed : (ss : List ShownSheet) → known_lines (map known_fresh ss) ≡ sheet_lines ss
fresh-printed [] = refl
fresh-printed (s ∷ ss) = ap (λ rest. sheet_line s.number s.origin (Some s.text) ++ rest) (fresh-printed ss)

-- and so their lines are
pub fresh-lines : (ks : List KnownSheet) (ss : List ShownSheet) → KnowsSheets ks ss → stale_of ks ≡ [] → known_lines ks ≡ sheet_lines ss
fresh-lines ks ss knows e = ap known_lines (fresh-texts ks ss knows e) ∙ fresh-printed ss
