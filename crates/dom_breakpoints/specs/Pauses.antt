-- The pause that an edit by script comes to, by the page before it.
use Rattle.std.specs.Prelude.{ℕ, Bool, true, false, cond, List, ◌∷◌, find, Option, Some, None, option_map}
use Rattle.node_tree.specs.Nodes.{Branch}
use Rattle.node_tree.specs.Keys.{first_of}
use Rattle.page_tree.specs.Pages.{PageRow}
use Rattle.page_tree.specs.Ancestors.{ancestors_at}
use Rattle.page_tree.specs.declared.edits.TreeEdit.{TreeEdit}
use Rattle.page_tree.specs.declared.edits.TreeEdit.TheVariants.{SetAttr, DropAttr, SetText, Attach, Detach}
use Rattle.node_tree.specs.declared.watches.WatchKind.{WatchKind}
use Rattle.node_tree.specs.declared.watches.WatchKind.TheVariants.{Subtree, Attribute, Removed}
use Rattle.dom_breakpoints.specs.declared.pauses.Pause.{Pause}
use Rattle.dom_breakpoints.specs.Watched.{Watched, is_watched}

-- the node that an edit changes: of an attach it is the parent
abbrev pub edited_node : TreeEdit → ℕ
edited_node (SetAttr node name value) = node
edited_node (DropAttr node name) = node
edited_node (SetText node value) = node
edited_node (Attach parent before tree) = parent
edited_node (Detach node) = node

-- the pause by a watch of that kind on the node itself
abbrev pub own_pause : WatchKind → Watched → ℕ → Option Pause
own_pause kind w node = cond (is_watched kind w node) (Some (record { kind = kind; node = node; target = None; insertion = false })) None

-- the pause by the first node of the line with a subtree watch
abbrev pub subtree_pause : Watched → ℕ → Bool → List ℕ → Option Pause
subtree_pause w target insertion line =
    option_map (λ nearest. record { kind = Subtree; node = nearest; target = Some target; insertion = insertion })
    (find (is_watched Subtree w) line)

-- An attribute's edit pauses by an attribute watch on the node. A text's pauses by the nearest subtree watch above the node.
-- An attach pauses by the nearest subtree watch from the parent upwards, and the parent is the target. A detach pauses by a
-- removed watch on the node, and where there is none by the nearest subtree watch above it.
abbrev pub pause_of : Watched → Branch PageRow → TreeEdit → Option Pause
pause_of w tree (SetAttr node name value) = own_pause Attribute w node
pause_of w tree (DropAttr node name) = own_pause Attribute w node
pause_of w tree (SetText node value) = subtree_pause w node false (ancestors_at node tree)
pause_of w tree (Attach parent before attached) = subtree_pause w parent true (parent ∷ ancestors_at parent tree)
pause_of w tree (Detach node) = first_of (own_pause Removed w node) (subtree_pause w node false (ancestors_at node tree))
