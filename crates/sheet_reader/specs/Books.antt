-- A book of sheets: its entries in order.
use Rattle.std.specs.Prelude.{◌≡◌, ℕ, ◌<◌, ◌≤◌, ◌==◌, List, [], ◌∷◌, length, map, Option, Some, None, nat_eq, position, if◌then◌else◌}
use Rattle.std.specs.List.{IsDistinct}
use Rattle.std.specs.Str.{IsUtf8}
use Rattle.node_tree.specs.Numbers.{counted_limit, max_sheet_bytes}
use Rattle.sheet_reader.specs.declared.book.SheetEntry.{SheetEntry}
use Rattle.sheet_reader.specs.Sheets.{sheet_of}

-- an entry's reading is that of its text; its id is from 1 to 2^53 - 1, and its text has at most 2^24 bytes
pub record IsEntry (e : SheetEntry) : Type 0 where
  pub read : e.reading ≡ sheet_of e.text
  pub some : 0 < e.id
  pub id : e.id < counted_limit
  pub short : length e.text ≤ max_sheet_bytes

-- as a book has it: its text is UTF-8 too
pub record IsStored (e : SheetEntry) : Type 0 where
  pub entry : IsEntry e
  pub utf8 : IsUtf8 e.text

-- the ids of the entries, in their order
abbrev pub ids_of : List SheetEntry → List ℕ
ids_of es = map (λ e. e.id) es

-- the entry with this id
abbrev pub entry_of : ℕ → List SheetEntry → Option SheetEntry
entry_of id [] = None
entry_of id (e ∷ es) = if id == e.id then Some e else entry_of id es

-- the place of the entry with this id, from 0
abbrev pub entry_place : ℕ → List SheetEntry → Option ℕ
entry_place id es = position (nat_eq id) (ids_of es)

-- no two entries have one id
abbrev pub AreApart : List SheetEntry → Type 0
AreApart es = IsDistinct nat_eq (ids_of es)

-- the entries, this one in the place of the one with its id
abbrev pub book_changed : SheetEntry → List SheetEntry → List SheetEntry
book_changed new [] = []
book_changed new (e ∷ es) = if new.id == e.id then new ∷ es else e ∷ book_changed new es

-- the entries without the one with this id, the others in their order
abbrev pub removed : ℕ → List SheetEntry → List SheetEntry
removed id [] = []
removed id (e ∷ es) = if id == e.id then es else e ∷ removed id es

-- a map's entries as the book's, each under its own id
abbrev pub entries_in : List (ℕ × SheetEntry) → List SheetEntry
entries_in [] = []
entries_in (p ∷ ps) = p.1 ∷ entries_in ps

-- each entry of a map stands under its own id, and is as a book has it
abbrev pub AreEntries : List (ℕ × SheetEntry) → Type 0
AreEntries [] = Unit {0}
AreEntries (p ∷ ps) = (p.0 ≡ p.1.id) × IsStored p.1 × AreEntries ps
