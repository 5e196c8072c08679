-- The forms so far, before those that the rest spells, are those that all values spell.
use Rattle.std.proofs.Common.{◌≡◌, ◌*◌, suc, drop, option_map}
use Rattle.serde_json.specs.Data.{depth, items_depth}
use Rattle.serde_json.specs.View.{view, items_view}
use Rattle.node_tree.specs.Nodes.{nodes_of, beside}
use Rattle.page_tree.specs.Loads.{forms_of}
use Rattle.page_tree.proofs.loads.+forms.Given as goal

abbrev pub decreases-read_one : goal.decreases-read_one
decreases-read_one l = 2 * depth (view l.v.now)

abbrev pub decreases-read_all : goal.decreases-read_all
decreases-read_all l = suc (2 * items_depth (items_view l.values.now))

abbrev pub invariant-read_all-loop-v : goal.invariant-read_all-loop-v
invariant-read_all-loop-v l = option_map (beside (nodes_of l.forms.items)) (forms_of l.top (items_view (drop l.v-index l.values)))
    ≡ forms_of l.top (items_view l.values)
