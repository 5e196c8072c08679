-- The pairs so far, before those that the rest spells, are those that all values spell.
use Rattle.std.proofs.Common.{◌≡◌, ◌++◌, length, option_map}
use Rattle.serde_json.specs.View.{items_view}
use Rattle.page_tree.specs.Loads.{pairs_of}
use Rattle.page_tree.proofs.attributes.read_pairs.Given as goal

abbrev pub decreases-loop-name : goal.decreases-loop-name
decreases-loop-name l = length l.rest

abbrev pub invariant-loop-name : goal.invariant-loop-name
invariant-loop-name l = option_map (λ ps. l.pairs.items ++ ps) (pairs_of (items_view l.rest)) ≡ pairs_of (items_view l.values)
