-- Watched nodes: pairs of a node's serial and a kind of watch, as one set of serials for each kind.
use Rattle.std.specs.Prelude.{ℕ, Bool, not, refl}
use Rattle.std.specs.Ordering.{nat_cmp}
use Rattle.std.specs.Coded.{Coded, code_by, coded×, coded_ℕ}
use Rattle.std.specs.FinSet as set
use Rattle.node_tree.specs.Nodes.{Branch, alone}
use Rattle.node_tree.specs.Keys.{has}
use Rattle.page_tree.specs.Pages.{PageRow, row_serial, node_at}
use Rattle.node_tree.specs.declared.watches.WatchKind.{WatchKind}
use Rattle.node_tree.specs.declared.watches.WatchKind.TheVariants.{Subtree, Attribute, Removed}

-- a set of nodes' serials
abbrev pub Serials : Type 0
Serials = set.FinSet nat_cmp

-- the nodes watched for each kind of change, by their serials
pub record Watched : Type 0 where
  pub subtree : Serials
  pub attribute : Serials
  pub removed : Serials

-- how sets of watches are told apart: by the set of serials of each kind
abbrev pub coded_watched : Coded Watched
coded_watched =
    code_by (Serials × (Serials × Serials)) (coded× (set.code coded_ℕ) (coded× (set.code coded_ℕ) (set.code coded_ℕ)))
    (λ w. (w.subtree, (w.attribute, w.removed)))
    (λ p. record { subtree = p.0; attribute = p.1.0; removed = p.1.1 })
    (λ _. refl)

-- no watch is set
abbrev pub unwatched : Watched
unwatched = record { subtree = set.empty; attribute = set.empty; removed = set.empty }

-- the watch of that kind is set on the node
abbrev pub is_watched : WatchKind → Watched → ℕ → Bool
is_watched Subtree w serial = set.contains w.subtree serial
is_watched Attribute w serial = set.contains w.attribute serial
is_watched Removed w serial = set.contains w.removed serial

-- with that watch, and without it
abbrev pub with_watch : WatchKind → ℕ → Watched → Watched
with_watch Subtree serial w = record { subtree = set.insert w.subtree serial; attribute = w.attribute; removed = w.removed }
with_watch Attribute serial w = record { subtree = w.subtree; attribute = set.insert w.attribute serial; removed = w.removed }
with_watch Removed serial w = record { subtree = w.subtree; attribute = w.attribute; removed = set.insert w.removed serial }

-- without the watch of that kind on the node
abbrev pub without_watch : WatchKind → ℕ → Watched → Watched
without_watch Subtree serial w = record { subtree = set.remove w.subtree serial; attribute = w.attribute; removed = w.removed }
without_watch Attribute serial w = record { subtree = w.subtree; attribute = set.remove w.attribute serial; removed = w.removed }
without_watch Removed serial w = record { subtree = w.subtree; attribute = w.attribute; removed = set.remove w.removed serial }

-- The node with the first serial is the one with the second, or below it.
abbrev pub is_within : ℕ → ℕ → Branch PageRow → Bool
is_within serial root tree = has row_serial serial (alone (node_at root tree))

-- the serials of a set but those of nodes at and below the root
abbrev pub outside : ℕ → Branch PageRow → Serials → Serials
outside root tree serials = set.retain serials (λ serial. not (is_within serial root tree))

-- without the watches at and below that node
abbrev pub without_subtree : ℕ → Branch PageRow → Watched → Watched
without_subtree root tree w = record {
  subtree = outside root tree w.subtree;
  attribute = outside root tree w.attribute;
  removed = outside root tree w.removed;
}
