-- The ancestors of a node of a page.
use Rattle.std.specs.Prelude.{ℕ, ◌==◌, cond, List, [], ◌∷◌, Option, Some, None, unwrap_or}
use Rattle.node_tree.specs.Nodes.{Nodes, none, node, Branch, alone}
use Rattle.node_tree.specs.Keys.{first_of}
use Rattle.page_tree.specs.Pages.{PageRow}

-- The serials of the node's proper ancestors, the parent first, where these trees stand below nodes with the serials
-- `above`, the nearest first.
abbrev pub ancestors_of : ℕ → List ℕ → Nodes PageRow → Option (List ℕ)
ancestors_of serial above none = None
ancestors_of serial above (node r c t) =
    cond (r.serial == serial) (Some above) (first_of (ancestors_of serial (r.serial ∷ above) c) (ancestors_of serial above t))

-- the ancestors of a node of a page; the document has none
abbrev pub ancestors_at : ℕ → Branch PageRow → List ℕ
ancestors_at serial tree = unwrap_or (ancestors_of serial [] (alone tree)) []
