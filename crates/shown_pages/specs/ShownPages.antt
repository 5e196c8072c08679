-- The shown page: a page without the nodes that a mode hides.
use Rattle.std.specs.Prelude.{cond}
use Rattle.node_tree.specs.Nodes.{Nodes, none, node, Branch}
use Rattle.page_tree.specs.Pages.{PageRow, PageValue}
use Rattle.shown_pages.specs.declared.modes.Mode.{Mode}
use Rattle.shown_pages.specs.Modes.{hidden_in}

-- trees side by side without the hidden nodes among them and below them
abbrev pub shown_nodes : Mode → Nodes PageRow → Nodes PageRow
shown_nodes mode none = none
shown_nodes mode (node r c t) =
    cond (hidden_in mode r.label) (shown_nodes mode t) (node r (shown_nodes mode c) (shown_nodes mode t))

-- one tree, whose root is shown, without the hidden nodes below it
abbrev pub shown_branch : Mode → Branch PageRow → Branch PageRow
shown_branch mode b = record { row = b.row; children = shown_nodes mode b.children }

-- the page without its hidden nodes
abbrev pub shown_page : Mode → PageValue → PageValue
shown_page mode page = record { tree = shown_branch mode page.tree; next = page.next }
