-- What an edit of one node makes of the table.
use Rattle.std.specs.Prelude.{◌≡◌, ℕ, ◌==◌, ◌||◌, ◌&&◌, Bool, not, true, ⊤}
use Rattle.node_tree.specs.Nodes.{alone}
use Rattle.node_tree.specs.Labels.{is_ascending, is_element, has_value}
use Rattle.node_tree.specs.Seen.{shows_count, is_opened}
use Rattle.client_views.specs.Moves.{Change, shows, inserts, removes, counts, sets, drops, says}
use Rattle.dom_objects.specs.Told.{seen_nodes}
use Rattle.client_views.specs.Views.{is_in}
use Rattle.node_tree.specs.LabelChanges.{placed, pairs_without}
use Rattle.front_mirror.specs.Shown.{shown_of}
use Rattle.front_mirror.specs.declared.edits.NodeChange.{NodeChange}
use Rattle.front_mirror.specs.declared.edits.NodeChange.TheVariants as edit
use Rattle.front_mirror.specs.declared.slots.Slot.{Slot}
use Rattle.front_mirror.specs.declared.slots.Below.TheVariants.{Counted}
use Rattle.front_mirror.specs.declared.table.Table.{Table}
use Rattle.front_mirror.specs.Tables.{TableTurned, TableGrown, TableCut, opened_slot, with_child_id, root_ids, mirror_row}

-- what the slot of the node owes before the edit: the sibling is there, attributes ascend
abbrev pub Suits : NodeChange → Slot → Type 0
Suits (edit.Show nodes) s = ⊤
Suits (edit.Insert previous tree) s = (previous == 0 || is_in previous s.children) ≡ true
Suits (edit.Remove id) s = ⊤
Suits (edit.Count count) s = ⊤
Suits (edit.SetAttribute name value) s = is_ascending s.attributes ≡ true
Suits (edit.DropAttribute name) s = is_ascending s.attributes ≡ true
Suits (edit.SetValue value) s = ⊤

-- the change may be told of the node in that slot
abbrev pub suits_slot : Change → Slot → Bool
suits_slot (shows kids) s = shows_count (mirror_row s).hold
suits_slot (inserts previous w) s =
    is_opened (mirror_row s).hold && (previous == 0 || is_in previous s.children) && not (is_opened w.row.hold)
suits_slot (removes id) s = is_opened (mirror_row s).hold && is_in id s.children
suits_slot (counts n) s = shows_count (mirror_row s).hold
suits_slot (sets name value) s = is_element s.kind
suits_slot (drops name) s = is_element s.kind
suits_slot (says value) s = has_value s.kind

-- one slot is another, and nothing else
abbrev pub TurnedAlone : Table → Table → ℕ → (Slot → Slot) → Type 0
TurnedAlone a b x f = TableTurned a b x f × (b.ids ≡ a.ids)

-- the second table is the first after the edit of the node of that id
abbrev pub IsEdited : NodeChange → Table → Table → ℕ → Type 0
IsEdited (edit.Show nodes) a b x = TableGrown a b x (opened_slot (root_ids (shown_of nodes.items))) (shown_of nodes.items)
IsEdited (edit.Insert previous tree) a b x = TableGrown a b x (with_child_id previous tree.row.seen.id) (seen_nodes (alone tree))
IsEdited (edit.Remove id) a b x = TableCut a b x id
IsEdited (edit.Count count) a b x = TurnedAlone a b x (λ s. record s { below = Counted count })
IsEdited (edit.SetAttribute name value) a b x = TurnedAlone a b x (λ s. record s { attributes = placed (name, value) s.attributes })
IsEdited (edit.DropAttribute name) a b x = TurnedAlone a b x (λ s. record s { attributes = pairs_without name s.attributes })
IsEdited (edit.SetValue value) a b x = TurnedAlone a b x (λ s. record s { value = value })
