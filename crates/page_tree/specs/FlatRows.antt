-- Rows as JSON spells them, as code holds them, and what is told of a row's tree before it is made.
use Rattle.std.specs.Prelude.{◌≡◌, ℕ, suc, ◌+◌, ◌==◌, ◌&&◌, ◌||◌, Bool, true, false, not, max, min, cond, List, [], ◌∷◌, Option, Some, None}
use Rattle.std.specs.Prelude.{option_map, option_and_then, codes, is_some, refl}
use Rattle.std.specs.Coded.{Coded, code_by, coded×, coded_list, coded_ℕ, coded_bool}
use Rattle.serde_json.specs.Data.{Data, Items, no_items, item}
use Rattle.serde_json.specs.Find.{get, as_array, as_number, as_u64}
use Rattle.node_tree.specs.Nodes.{Nodes, Branch}
use Rattle.node_tree.specs.Labels.{Label, holds}
use Rattle.node_tree.specs.Keys.{first_of}
use Rattle.node_tree.specs.declared.Kind.TheVariants.{Element, Text, Comment, Doctype}
use Rattle.node_tree.specs.Levels.{most_levels}
use Rattle.page_tree.specs.Forms.{may_stand}
use Rattle.page_tree.specs.Loads.{property_count, times_of, text_at, labelled, attributes_at}
use Rattle.page_tree.specs.declared.flat_rows.Row as held
use Rattle.page_tree.specs.declared.nested.Waiting as waiting
use Rattle.page_tree.specs.declared.outlines.Outline.{Outline}
use Rattle.page_tree.specs.Flat.{FlatRow, Pending, flat_formed}

-- ---- rows as JSON

-- the number of the row's parent
abbrev pub up_at : Data → Option ℕ
up_at d = option_and_then as_u64 (option_and_then as_number (get (codes "up") d))

-- the text at a property beside which there is one other
abbrev pub text_beside : List ℕ → Data → Option (List ℕ)
text_beside key d = cond (property_count d == 2) (text_at key d) None

-- the name at `e`, where there is one property beside it and `a`
abbrev pub row_name : Data → Option (List ℕ)
row_name d = cond (property_count d == 2 + times_of (codes "a") d) (text_at (codes "e") d) None

-- the label of an element's row
abbrev pub element_row : Data → Option Label
element_row d = option_and_then (λ name. option_map (labelled Element name []) (attributes_at d)) (row_name d)

-- the label of a row, with one property beside those of the label
abbrev pub row_label : Data → Option Label
row_label d =
    first_of (element_row d)
    (first_of (option_map (λ text. labelled Text [] text []) (text_beside (codes "t") d))
    (first_of (option_map (λ text. labelled Comment [] text []) (text_beside (codes "k") d))
    (option_map (λ name. labelled Doctype name [] []) (text_beside (codes "d") d))))

-- a row of these parts, where both are there
abbrev pub row_with : Option ℕ → Option Label → Option FlatRow
row_with up label = option_and_then (λ up. option_map (λ label. record { up = up; label = label }) label) up

-- `{"up":i,"e":NAME,"a":[NAME,VALUE,..]}`, where `a` may be absent, `{"up":i,"t":TEXT}`, `{"up":i,"k":TEXT}` and `{"up":i,"d":NAME}`,
-- with exactly these properties
abbrev pub row_spelled : Data → Option FlatRow
row_spelled d = row_with (up_at d) (row_label d)

-- a row before those that follow it, where both are there
abbrev pub row_before : Option FlatRow → Option (List FlatRow) → Option (List FlatRow)
row_before r rs = option_and_then (λ r. option_map (λ rs. r ∷ rs) rs) r

-- the rows that a list spells
abbrev pub rows_of : Items → Option (List FlatRow)
rows_of no_items = Some []
rows_of (item d ds) = row_before (row_spelled d) (rows_of ds)

-- the nodes of the rows that a value lists
abbrev pub flat_in : Data → Option (Nodes Label)
flat_in d = option_and_then flat_formed (option_and_then rows_of (as_array d))

-- ---- as code holds them

-- the row
abbrev pub row_of : held.Row → FlatRow
row_of r = record { up = r.up; label = r.label }

-- the tree that waits for its parent
abbrev pub pending_of : waiting.Waiting → Pending
pending_of w = record { up = w.up; tree = w.form }

-- nothing is left
abbrev pub is_none_left : {A : Type 0} → List A → Bool
is_none_left [] = true
is_none_left (p ∷ ps) = false

-- the first tree's parent is the row i
abbrev pub is_next : ℕ → List Pending → Bool
is_next i [] = false
is_next i (p ∷ ps) = p.up == i

-- the first tree, where its parent is the row i
abbrev pub Takes : ℕ → List Pending → Option (Branch Label) → List Pending → Type 0
Takes i before None after = (is_next i before ≡ false) × (after ≡ before)
Takes i before (Some b) after = before ≡ record { up = i; tree = b } ∷ after

-- ---- what is told of trees that have no parent yet

-- by its parts
abbrev pub coded_outlines : Coded (List Outline)
coded_outlines = coded_list (code_by (ℕ × (ℕ × Bool)) (coded× coded_ℕ (coded× coded_ℕ coded_bool))
    (λ o. (o.up, (o.levels, o.is_held))) (λ p. record { up = p.0; levels = p.1.0; is_held = p.1.1 }) (λ _. refl))

-- the first one's parent is the row i
abbrev pub is_ahead : ℕ → List Outline → Bool
is_ahead i [] = false
is_ahead i (o ∷ os) = o.up == i

-- the first one, where its parent is the row i
abbrev pub TakesOutline : ℕ → List Outline → Option Outline → List Outline → Type 0
TakesOutline i before None after = (is_ahead i before ≡ false) × (after ≡ before)
TakesOutline i before (Some o) after = (o.up ≡ i) × (before ≡ o ∷ after)

-- how many levels those at the front have whose parent is the row i
abbrev pub kid_levels : ℕ → List Outline → ℕ
kid_levels i [] = 0
kid_levels i (o ∷ os) = cond (o.up == i) (max o.levels (kid_levels i os)) 0

-- and each of them is held
abbrev pub kids_held : ℕ → List Outline → Bool
kids_held i [] = true
kids_held i (o ∷ os) = cond (o.up == i) (o.is_held && kids_held i os) true

-- and what is behind them
abbrev pub past_kids : ℕ → List Outline → List Outline
past_kids i [] = []
past_kids i (o ∷ os) = cond (o.up == i) (past_kids i os) (o ∷ os)

-- A row takes those at the front that are its children. Levels are counted up to one more than a page may have.
abbrev pub outline_under : ℕ → FlatRow → List Outline → List Outline
outline_under i r os = record {
  up = r.up;
  levels = min (suc (kid_levels i os)) most_levels;
  is_held = may_stand (r.up == 0) r.label.kind && (holds r.label.kind || not (is_ahead i os)) && kids_held i os;
} ∷ past_kids i os

-- of the trees of rows from the number i on
abbrev pub outlined : ℕ → List FlatRow → List Outline
outlined i [] = []
outlined i (r ∷ rs) = outline_under i r (outlined (i + 1) rs)

-- how many levels the nodes have, counted likewise, where each stands below the document or one that may hold it
abbrev pub outline_levels : List Outline → Option ℕ
outline_levels os = cond (is_none_left (past_kids 0 os) && kids_held 0 os) (Some (kid_levels 0 os)) None
