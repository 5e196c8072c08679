-- Nodes as they are shown to some levels, and a node that is described alone.
use Rattle.std.specs.Prelude.{ℕ, Bool, not, ◌&&◌, cond, Option}
use Rattle.node_tree.specs.Nodes.{Nodes, none, node, Branch, width}
use Rattle.node_tree.specs.Labels.{holds}
use Rattle.node_tree.specs.Seen.{Seen, leaf, counted, opened}
use Rattle.page_tree.specs.Pages.{PageRow}
use Rattle.node_binding.specs.Openings.{less, is_spent}
use Rattle.dom_objects.specs.Told.{Told, told_branch}

-- a container shows its children where levels are left
abbrev pub shows_children : Option ℕ → PageRow → Bool
shows_children levels r = holds r.label.kind && not (is_spent levels)

-- a row shown to so many levels, with these ids, above the children c
abbrev pub row_to : (ℕ → ℕ) → Option ℕ → PageRow → Nodes PageRow → Seen
row_to ids levels r c = record {
  id = ids r.serial;
  serial = r.serial;
  label = r.label;
  hold = cond (holds r.label.kind) (cond (shows_children levels r) opened (counted (width c))) leaf;
}

-- trees shown to so many levels, with these ids: where levels are left a container has its children, and else their number
abbrev pub shown_to : (ℕ → ℕ) → Option ℕ → Nodes PageRow → Nodes Seen
shown_to ids levels none = none
shown_to ids levels (node r c t) = node (row_to ids levels r c) (cond (shows_children levels r) (shown_to ids (less levels) c) none)
    (shown_to ids levels t)

-- what is shown below one node to so many levels
abbrev pub kids_to : (ℕ → ℕ) → Option ℕ → Branch PageRow → Nodes Seen
kids_to ids levels x = cond (shows_children levels x.row) (shown_to ids (less levels) x.children) none

-- no node that is described has an id
abbrev pub no_ids : ℕ → ℕ
no_ids serial = 0

-- a node that is described alone, with what is shown below it to so many levels; no parent is told
abbrev pub described : Option ℕ → Branch PageRow → Branch Told
described levels x = told_branch 0 (record { row = row_to no_ids levels x.row x.children; children = kids_to no_ids levels x })
