-- How deep the JSON of an event nests.
use Rattle.std.proofs.Common.{ℕ, suc, ◌*◌, ◌≤◌, max, arith}
use Rattle.serde_json.specs.Data.{depth, items_depth}
use Rattle.css_objects.proofs.Objects.{header_sound}
use Rattle.css_objects.specs.Sheets.{header_kind}
use Rattle.node_tree.specs.Nodes.{alone, height}
use Rattle.dom_objects.specs.NodeData.{tree_items, tree_data}
use Rattle.cdp_messages.specs.Events.{attribute_modified, attribute_removed, text_modified, count_updated, inserted, removed, set_children}
use Rattle.cdp_messages.specs.Events.{document_updated, sheet_added, sheet_changed, sheet_removed, paused}
use Rattle.cdp_messages.specs.declared.down.PauseData.TheVariants as pause
use Rattle.cdp_messages.specs.Laws.{EventsAreShallow}
use Rattle.node_tree.specs.Levels.{most_told}
use Rattle.dom_objects.proofs.NodeDepths.{trees_depth, tree_depth}

pub events_are_shallow : EventsAreShallow
events_are_shallow (attribute_modified id m value) h = omega arith
events_are_shallow (attribute_removed id m) h = omega arith
events_are_shallow (text_modified id value) h = omega arith
events_are_shallow (count_updated id count) h = omega arith
events_are_shallow (inserted parent previous b) h = shallow (depth (tree_data b)) (height (alone b)) (tree_depth b) h where
  shallow : (d g : ℕ) → d ≤ 2 * g → g ≤ most_told → suc (max 0 (max (suc (max d (max 0 (max 0 0)))) 0)) ≤ 127
  shallow d g p q = omega arith
events_are_shallow (removed parent id) h = omega arith
events_are_shallow (set_children parent nodes) h = shallow (items_depth (tree_items nodes)) (height nodes) (trees_depth nodes) h where
  shallow : (d g : ℕ) → d ≤ 2 * g → g ≤ most_told → suc (max 0 (max (suc (max (suc d) (max 0 0))) 0)) ≤ 127
  shallow d g p q = omega arith
events_are_shallow document_updated h = omega arith
events_are_shallow (sheet_added header) h = shallow (depth (header_kind.spell header)) (header_sound.shallow header) where
  shallow : (d : ℕ) → d ≤ 1 → suc (max 0 (max (suc (max d 0)) 0)) ≤ 127
  shallow d p = omega arith
events_are_shallow (sheet_changed sheet) h = omega arith
events_are_shallow (sheet_removed sheet) h = omega arith
events_are_shallow (paused (pause.Subtree id target insertion)) h = omega arith
events_are_shallow (paused (pause.Attribute id)) h = omega arith
events_are_shallow (paused (pause.Removed id)) h = omega arith
