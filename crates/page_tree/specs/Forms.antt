-- Which nodes may make up a page.
use Rattle.std.specs.Prelude.{◌≡◌, ℕ, suc, ◌≤◌, Bool, true, false, not, ◌&&◌, ◌||◌}
use Rattle.node_tree.specs.Nodes.{Nodes, none, node, node_count, height, is_no_node}
use Rattle.node_tree.specs.Levels.{max_level}
use Rattle.node_tree.specs.Labels.{Label, is_document, is_doctype, holds, is_formed_label, is_named_label}
use Rattle.node_tree.specs.declared.Kind.{Kind}

-- the most nodes of a page, with the document
abbrev pub max_nodes : ℕ
max_nodes = 100000

-- A node of that kind may stand there: no document is below another node, and doctypes stand at the top, right below the
-- document.
abbrev pub may_stand : Bool → Kind → Bool
may_stand top kind = not (is_document kind) && (top || not (is_doctype kind))

-- What stands at each node and below it, but for the forms of names, levels and counts; `top` says that the trees stand
-- right below the document.
abbrev pub are_formed : Bool → Nodes Label → Bool
are_formed top none = true
are_formed top (node l c t) = is_formed_label l && may_stand top l.kind && (holds l.kind || is_no_node c) && are_formed false c
    && are_formed top t

-- all names have their forms
abbrev pub are_named : Nodes Label → Bool
are_named none = true
are_named (node l c t) = is_named_label l && are_named c && are_named t

-- a page may hold these nodes below its document
pub record CanLoad (nodes : Nodes Label) : Type 0 where
  pub formed : are_formed true nodes ≡ true
  pub named : are_named nodes ≡ true
  pub levels : height nodes ≤ max_level
  pub room : suc (node_count nodes) ≤ max_nodes
