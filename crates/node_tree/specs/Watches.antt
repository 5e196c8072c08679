-- What a breakpoint watches of a node.
use Rattle.std.specs.Prelude.{ℕ, List, codes}
use Rattle.node_tree.specs.declared.watches.WatchKind.{WatchKind}
use Rattle.node_tree.specs.declared.watches.WatchKind.TheVariants.{Subtree, Attribute, Removed}

-- what is watched of a node, by its word
abbrev pub watch_name : WatchKind → List ℕ
watch_name Subtree = codes "subtree-modified"
watch_name Attribute = codes "attribute-modified"
watch_name Removed = codes "node-removed"
