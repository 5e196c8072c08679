-- The mirror as a table: a slot for each known node under its id, and the id of each serial.
use Rattle.std.specs.Prelude.{◌≡◌, ◌≢◌, ℕ, zero, suc, ◌<◌, ◌==◌, cond, List, [], ◌∷◌, Option, Some, None, option_map, option_and_then}
use Rattle.std.specs.Option.{option_map_or}
use Rattle.std.specs.Ordering.{nat_cmp}
use Rattle.std.specs.BTreeMap as map
use Rattle.std.specs.FinMap as numbers
use Rattle.node_tree.specs.Nodes.{Nodes, none, node, Branch}
use Rattle.node_tree.specs.Keys.{tally}
use Rattle.node_tree.specs.Seen.{Hold, leaf, counted, opened, Seen, seen_id, seen_serial}
use Rattle.node_tree.specs.Arena.{SlotForm, Keeps, kept_trees, IsFiled}
use Rattle.client_views.specs.Views.{keys, IsMirror}
use Rattle.node_tree.specs.Levels.{most_levels}
use Rattle.front_mirror.specs.IdLists.{id_after, without_id}
use Rattle.front_mirror.specs.declared.slots.Slot.{Slot}
use Rattle.front_mirror.specs.declared.slots.Below.{Below}
use Rattle.front_mirror.specs.declared.slots.Below.TheVariants.{Leaf, Counted, Opened}
use Rattle.front_mirror.specs.declared.table.Table.{Table}

-- what is shown below a node, as code holds it
abbrev pub hold_below : Hold → Below
hold_below leaf = Leaf
hold_below (counted n) = Counted n
hold_below opened = Opened

-- what is shown below a node, as contracts see it
abbrev pub below_hold : Below → Hold
below_hold Leaf = leaf
below_hold (Counted n) = counted n
below_hold Opened = opened

-- the row of a slot's node
abbrev pub mirror_row : Slot → Seen
mirror_row s = record {
  id = s.id;
  serial = s.serial;
  label = record { kind = s.kind; name = s.name; value = s.value; attributes = s.attributes };
  hold = below_hold s.below;
}

-- slots by the ids of their nodes, which are their keys
abbrev pub by_id : SlotForm Slot Seen
by_id = record { row = mirror_row; number = seen_id; parent = λ s. s.parent; children = λ s. s.children }

-- slots by the serials of their nodes
abbrev pub by_serial : SlotForm Slot Seen
by_serial = record { row = mirror_row; number = seen_serial; parent = λ s. s.parent; children = λ s. s.children }

-- the slot of an id
abbrev pub table_slots : Table → ℕ → Option Slot
table_slots t k = option_map (λ slot. slot.value) (map.get nat_cmp t.slots k)

-- the id of a serial
abbrev pub table_ids : Table → ℕ → Option ℕ
table_ids t = numbers.get t.ids

-- each serial has the id of its slot, and no others have one
abbrev pub IsListed : Table → Type 0
IsListed t = IsFiled by_serial (table_slots t) (table_ids t)

-- ---- a map changed at one number

-- the map with this under the number
abbrev pub with_entry : {X : Type 0} → ℕ → Option X → (ℕ → Option X) → ℕ → Option X
with_entry k w old j = cond (j == k) w (old j)

-- the second map is the first but for what it has under the number
pub record PutsAt {X : Type 0} (old new : ℕ → Option X) (k : ℕ) (w : Option X) : Type 0 where
  pub at : new k ≡ w
  pub others : (j : ℕ) → j ≢ k → new j ≡ old j

-- the slot of that id, where it has one, became what `f` makes of it, and no other slot changed
abbrev pub TableTurned : Table → Table → ℕ → (Slot → Slot) → Type 0
TableTurned t u k f = (s : Slot) → table_slots t k ≡ Some s → PutsAt (table_slots t) (table_slots u) k (Some (f s))

-- ---- nodes that come and go

-- the ids of the first nodes of these trees
abbrev pub root_ids : Nodes Seen → List ℕ
root_ids none = []
root_ids (node r c t) = r.id ∷ root_ids t

-- the slot of a node with these children
abbrev pub new_slot : Option ℕ → Seen → List ℕ → Slot
new_slot above r children = record {
  id = r.id;
  serial = r.serial;
  kind = r.label.kind;
  name = r.label.name;
  value = r.label.value;
  attributes = r.label.attributes;
  below = hold_below r.hold;
  parent = above;
  children = children;
}

-- the slots after these trees came in below a node
abbrev pub planted : Option ℕ → Nodes Seen → (ℕ → Option Slot) → ℕ → Option Slot
planted above none slots = slots
planted above (node r c t) slots = planted above t (planted (Some r.id) c (with_entry r.id (Some (new_slot above r (root_ids c))) slots))

-- the ids of the serials after these trees came in below a node
abbrev pub serials_listed : Nodes Seen → (ℕ → Option ℕ) → ℕ → Option ℕ
serials_listed none ids = ids
serials_listed (node r c t) ids = serials_listed t (serials_listed c (with_entry r.serial (Some r.id) ids))

-- the slots without those of these ids
abbrev pub without_slots : List ℕ → (ℕ → Option Slot) → ℕ → Option Slot
without_slots [] slots = slots
without_slots (x ∷ xs) slots = without_slots xs (with_entry x None slots)

-- ---- the trees of a table

-- each slot stands under its node's id
abbrev pub HasOwnIds : (ℕ → Option Slot) → Type 0
HasOwnIds slots = (k : ℕ) (s : Slot) → slots k ≡ Some s → s.id ≡ k

-- the trees in the slots of these ids, so many levels down
abbrev pub table_trees : Table → ℕ → List ℕ → Nodes Seen
table_trees t levels ids = kept_trees by_id (table_slots t) levels ids

-- the trees from the roots on
unfoldable pub tree_in : Table → List ℕ → Nodes Seen
tree_in t roots = table_trees t most_levels roots

-- The table keeps these trees and nothing else.
pub record IsTable (t : Table) (roots : List ℕ) (n : Nodes Seen) : Type 0 where
  pub stands : Keeps by_id (table_slots t) n None roots
  pub own : HasOwnIds (table_slots t)
  pub files : IsListed t
  pub reached : (k : ℕ) (s : Slot) → table_slots t k ≡ Some s → 0 < tally seen_id k n

-- what the slot of an id says of the node that is found
abbrev pub TableLooks : Option Slot → Option (Branch Seen) → Type 0
TableLooks None f = f ≡ None
TableLooks (Some slot) f = (b : Branch Seen) × (f ≡ Some b) × (mirror_row slot ≡ b.row) × (slot.children ≡ root_ids b.children)

-- How many slots there are from the one of that id up, looked for no further than so many levels.
abbrev pub table_climbed : Table → ℕ → Option ℕ → ℕ
table_climbed t zero above = 0
table_climbed t (suc levels) above = option_map_or
    (λ k. suc (table_climbed t levels (option_and_then (λ slot. slot.parent) (table_slots t k)))) above 0

-- ---- a node changed, with what comes and goes below it

-- the slot of a node whose children are shown from now on
abbrev pub opened_slot : List ℕ → Slot → Slot
opened_slot ids slot = record slot { below = Opened; children = ids }

-- with a child more, and a child less
abbrev pub with_child_id : ℕ → ℕ → Slot → Slot
with_child_id previous child slot = record slot { children = id_after previous child slot.children }

-- the slot without that child
abbrev pub without_child_id : ℕ → Slot → Slot
without_child_id child slot = record slot { children = without_id child slot.children }

-- The slot of that id was told of its children, and then these trees came in below it.
pub record TableGrown (a b : Table) (x : ℕ) (f : Slot → Slot) (kids : Nodes Seen) : Type 0 where
  pub mid : Table
  pub turned : TableTurned a mid x f
  pub ids_are : mid.ids ≡ a.ids
  pub slots_are : table_slots b ≡ planted (Some x) kids (table_slots mid)
  pub listing : table_ids b ≡ serials_listed kids (table_ids mid)

-- The slot of that id lost a child, and then the slots of that child and of all below it went.
pub record TableCut (a b : Table) (x child : ℕ) : Type 0 where
  pub mid : Table
  pub turned : TableTurned a mid x (without_child_id child)
  pub ids_are : mid.ids ≡ a.ids
  pub files : IsListed b
  pub slots_are : table_slots b ≡ without_slots (keys seen_id (table_trees a most_levels (child ∷ []))) (table_slots mid)

-- what the slot of a node says of it
pub record IsFace (slot : Slot) (b : Branch Seen) : Type 0 where
  pub row : mirror_row slot ≡ b.row
  pub children : slot.children ≡ root_ids b.children

-- the table of a mirror keeps its tree
pub record KeepsMirror (t : Table) (roots : List ℕ) : Type 0 where
  pub table : IsTable t roots (tree_in t roots)
  pub mirror : IsMirror (tree_in t roots)
