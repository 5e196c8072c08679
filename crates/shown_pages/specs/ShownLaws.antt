-- What holds of shown pages.
use Rattle.std.specs.Prelude.{◌≡◌, ℕ, true, false, cond, List, map, Option, Some, None, IfSome, IsSome}
use Rattle.std.specs.Option.{option_and_then}
use Rattle.node_tree.specs.Nodes.{Branch, alone}
use Rattle.node_tree.specs.Keys.{has}
use Rattle.page_tree.specs.Pages.{PageRow, row_serial, PageValue, IsValid, find_in, parent_at}
use Rattle.page_tree.specs.Zippers.{Zipper, serial_of, ancestors, below, zipper_at}
use Rattle.page_tree.specs.Members.{IsIn}
use Rattle.page_tree.specs.Edits.{after}
use Rattle.page_tree.specs.EditFaults.{CanApply}
use Rattle.page_tree.specs.declared.edits.TreeEdit.{TreeEdit}
use Rattle.shown_pages.specs.declared.modes.Mode.{Mode}
use Rattle.shown_pages.specs.declared.modes.Mode.TheVariants.{All}
use Rattle.shown_pages.specs.Modes.{hidden_in}
use Rattle.shown_pages.specs.ShownPages.{shown_branch, shown_page}
use Rattle.shown_pages.specs.ShownEdits.{shown_edit, after_some}

-- a shown page is a valid page
abbrev pub ShownIsValid : Type 0
ShownIsValid = (mode : Mode) (page : PageValue) → IsValid page → IsValid (shown_page mode page)

-- where nothing is hidden the shown page is the page
abbrev pub AllIsShown : Type 0
AllIsShown = (page : PageValue) → shown_page All page ≡ page

-- The shown page takes what the edit is there, if it is one; and that leads to the shown page of the page after the edit.
pub record IsShownStep (mode : Mode) (e : TreeEdit) (page : PageValue) : Type 0 where
  pub taken : IfSome (shown_edit mode e page.tree) (λ f. CanApply page.next f (shown_page mode page).tree)
  pub leads : shown_page mode (after e page) ≡ after_some (shown_edit mode e page.tree) (shown_page mode page)

-- each edit that a page takes is such a step
abbrev pub ShownSteps : Type 0
ShownSteps = (mode : Mode) (page : PageValue) (e : TreeEdit) → IsValid page → CanApply page.next e page.tree → IsShownStep mode e page

-- a node as the mode shows it, if it shows it
abbrev pub shown_if : Mode → Branch PageRow → Option (Branch PageRow)
shown_if mode b = cond (hidden_in mode b.row.label) None (Some (shown_branch mode b))

-- exactly the nodes of the page that are not hidden themselves are found in the shown page, each with what is shown below it
abbrev pub FoundShown : Type 0
FoundShown = (mode : Mode) (page : PageValue) (serial : ℕ) → IsValid page
    → find_in serial (shown_page mode page).tree ≡ option_and_then (shown_if mode) (find_in serial page.tree)

-- the nodes above the node of that serial, each with all below it: its parent first, the document last
abbrev pub branches_above : ℕ → Branch PageRow → List (Branch PageRow)
branches_above serial tree = map (λ z. z.branch) (ancestors (zipper_at serial tree))

-- a node has in a shown page the parent that it has in the page, and above it the same nodes as they are shown
pub record StandsAlike (mode : Mode) (serial : ℕ) (page : PageValue) : Type 0 where
  pub parent : parent_at serial (shown_page mode page).tree ≡ parent_at serial page.tree
  pub above : branches_above serial (shown_page mode page).tree ≡ map (shown_branch mode) (branches_above serial page.tree)

-- so does each node that stands in the shown page
abbrev pub StandsShown : Type 0
StandsShown = (mode : Mode) (page : PageValue) (serial : ℕ) → IsValid page → IsSome (find_in serial (shown_page mode page).tree)
    → StandsAlike mode serial page

-- a node that stands below a shown one in the page stands in the shown page, if it is not hidden itself
abbrev pub BelowShown : Type 0
BelowShown = (mode : Mode) (page : PageValue) (serial : ℕ) (z : Zipper) → IsValid page
    → IsSome (find_in serial (shown_page mode page).tree) → IsIn z (below (zipper_at serial page.tree))
    → hidden_in mode z.branch.row.label ≡ false
    → has row_serial (serial_of z) (alone (shown_page mode page).tree) ≡ true
