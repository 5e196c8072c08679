-- Walks over shown children.
use Rattle.std.specs.Prelude.{◌≡◌, ℕ, ◌==◌, cond, List, [], ◌∷◌, Option, Some, None}
use Rattle.node_tree.specs.Nodes.{Nodes, none, node, Branch, from}
use Rattle.page_tree.specs.Pages.{PageRow}
use Rattle.shown_pages.specs.declared.modes.Mode.{Mode}
use Rattle.shown_pages.specs.declared.cursors.Stop.{Stop}
use Rattle.shown_pages.specs.Modes.{hidden_in}
use Rattle.shown_pages.specs.ShownPages.{shown_nodes}

-- the first of the old trees is taken, if there is one, and the new ones are left
abbrev pub TakesFirst : Nodes PageRow → Option (Branch PageRow) → Nodes PageRow → Type 0
TakesFirst old None new = (old ≡ none) × (new ≡ none)
TakesFirst old (Some b) new = old ≡ node b.row b.children new

-- the first shown tree of the given ones, if there is one; those behind it stand from its place on among all
abbrev pub IsNextShown : Mode → Nodes PageRow → Option Stop → Nodes PageRow → Type 0
IsNextShown mode given None all = shown_nodes mode given ≡ none
IsNextShown mode given (Some s) all =
    shown_nodes mode given ≡ node s.node.row (shown_nodes mode s.node.children) (shown_nodes mode (from s.behind all))

-- the serial of the tree that stands right before that of the serial, or else of the last; `previous` where there is none
abbrev pub serial_before : Option ℕ → ℕ → Nodes PageRow → Option ℕ
serial_before previous serial none = previous
serial_before previous serial (node r c t) = cond (r.serial == serial) previous (serial_before (Some r.serial) serial t)

-- the serial of the first of these nodes that is shown, if there is one
abbrev pub first_shown : Mode → List (Branch PageRow) → Option ℕ
first_shown mode [] = None
first_shown mode (b ∷ bs) = cond (hidden_in mode b.row.label) (first_shown mode bs) (Some b.row.serial)
