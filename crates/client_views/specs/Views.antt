-- Views: what a client may know of a page, a tree of shown nodes and the sheets that it was told of.
use Rattle.std.specs.Prelude.{◌≡◌, ◌≤◌, ℕ, ◌==◌, Bool, true, false, cond, not, ◌&&◌, ◌||◌, if◌then◌else◌, nat_eq, nat_lt, List, [], ◌∷◌}
use Rattle.std.specs.Prelude.{◌++◌, Option, Some, None}
use Rattle.std.specs.List.{list_any, sum_by}
use Rattle.std.specs.Str.{IsUtf8}
use Rattle.css_objects.specs.declared.sheets.Header.{Header}
use Rattle.node_tree.specs.declared.origins.Origin.{Origin}
use Rattle.css_objects.specs.Sheets.{is_sheet}
use Rattle.node_tree.specs.Nodes.{Nodes, none, node, height, is_no_node}
use Rattle.node_tree.specs.Levels.{most_levels}
use Rattle.node_tree.specs.Labels.{is_document, is_formed_label, is_named_label}
use Rattle.node_tree.specs.Keys.{tally}
use Rattle.node_tree.specs.Seen.{Seen, is_opened, seen_id, seen_serial}

-- children stand below opened nodes alone
abbrev pub is_bare : Nodes Seen → Bool
is_bare none = true
is_bare (node r c t) = (is_opened r.hold || is_no_node c) && is_bare c && is_bare t

-- Ids and serials are distinct, no id is 0, no node stands above the level limit, and children stand below opened nodes
-- alone. The empty view is one.
pub record IsView (v : Nodes Seen) : Type 0 where
  pub ids : (x : ℕ) → tally seen_id x v ≤ 1
  pub serials : (x : ℕ) → tally seen_serial x v ≤ 1
  pub above : tally seen_id 0 v ≡ 0
  pub levels : height v ≤ most_levels
  pub bare : is_bare v ≡ true

-- the labels have their forms, and their names too
abbrev pub has_formed_labels : Nodes Seen → Bool
has_formed_labels none = true
has_formed_labels (node r c t) = is_formed_label r.label && is_named_label r.label && has_formed_labels c && has_formed_labels t

-- a tree is empty, or one tree whose root is a document
abbrev pub is_document_tree : Nodes Seen → Bool
is_document_tree none = true
is_document_tree (node r c t) = is_document r.label.kind && is_no_node t

-- what every mirror is, whatever bytes it came from
pub record IsMirror (v : Nodes Seen) : Type 0 where
  pub view : IsView v
  pub labels : has_formed_labels v ≡ true
  pub document : is_document_tree v ≡ true

-- ---- keys in document order

module _ {R : Type 0} (key : R → ℕ) where
  -- the keys of all nodes
  abbrev pub keys : Nodes R → List ℕ
  keys none = []
  keys (node r c t) = key r ∷ (keys c ++ keys t)

-- the number stands in the list
abbrev pub is_in : ℕ → List ℕ → Bool
is_in x xs = list_any (nat_eq x) xs

-- no number comes twice
abbrev pub is_distinct : List ℕ → Bool
is_distinct [] = true
is_distinct (x ∷ xs) = not (is_in x xs) && is_distinct xs

-- ---- sheets

-- a sheet that a client was told of: its number, where it comes from, and its text as the page has it
pub record ShownSheet : Type 0 where
  pub number : ℕ
  pub origin : Origin
  pub text : List ℕ

-- the sheet's number
abbrev pub sheet_number : ShownSheet → ℕ
sheet_number s = s.number

-- each text is UTF-8, and each number is one of a sheet's
abbrev pub AreSheets : List ShownSheet → Type 0
AreSheets [] = Unit {0}
AreSheets (s ∷ ss) = (is_sheet s.number ≡ true) × IsUtf8 s.text × AreSheets ss

-- the UTF-16 units of a text: of each character two where it has four bytes, and else one, told by its first byte; its other
-- bytes count nothing
abbrev pub text_units : List ℕ → ℕ
text_units text = sum_by (λ byte. if nat_lt byte 128 then 1 else (if nat_lt byte 192 then 0 else (if nat_lt byte 240 then 1 else 2))) text

-- what is told of a sheet as it comes
abbrev pub sheet_header : ShownSheet → Header
sheet_header s = record { length = text_units s.text; origin = s.origin; sheet = s.number }

-- one of the sheets has the number
abbrev pub shows_sheet : ℕ → List ShownSheet → Bool
shows_sheet n [] = false
shows_sheet n (s ∷ ss) = s.number == n || shows_sheet n ss

-- the text of the first sheet of that number
abbrev pub shown_text : ℕ → List ShownSheet → Option (List ℕ)
shown_text n [] = None
shown_text n (s ∷ ss) = cond (s.number == n) (Some s.text) (shown_text n ss)

-- the sheets without the first of that number
abbrev pub sheets_without : ℕ → List ShownSheet → List ShownSheet
sheets_without n [] = []
sheets_without n (s ∷ ss) = cond (s.number == n) ss (s ∷ sheets_without n ss)

-- the sheets, where the first of that number has another text
abbrev pub sheets_with_text : ℕ → List ℕ → List ShownSheet → List ShownSheet
sheets_with_text n text [] = []
sheets_with_text n text (s ∷ ss) = cond (s.number == n) (record s { text = text } ∷ ss) (s ∷ sheets_with_text n text ss)

-- ---- views

-- the tree of the known nodes, none where nothing is known; and the sheets, in the page's order
pub record View : Type 0 where
  pub tree : Nodes Seen
  pub sheets : List ShownSheet
