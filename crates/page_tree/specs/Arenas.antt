-- The slots of a page, and what they keep.
use Rattle.std.specs.Prelude.{◌≡◌, ℕ, zero, suc, ◌+◌, ◌≤◌, ◌==◌, Bool, false, cond, List, [], ◌∷◌, length, slice_get, Option, Some, None}
use Rattle.std.specs.Prelude.{option_and_then, IfSome}
use Rattle.std.specs.Option.{option_map_or}
use Rattle.std.specs.List.{insert, remove}
use Rattle.std.specs.Ordering.{nat_cmp}
use Rattle.std.specs.BTreeMap as map
use Rattle.slab.specs.Slab as slab
use Rattle.node_tree.specs.Nodes.{Nodes, none, node, Branch, alone, width, height}
use Rattle.node_tree.specs.Arena.{SlotForm, times, Keeps, kept_trees, IsFiled, IsArena, IsFresh, Grows, Shrinks, Comes, Turns}
use Rattle.node_tree.specs.Levels.{max_level}
use Rattle.page_tree.specs.Pages.{PageRow, row_serial, document_label, IsValid}
use Rattle.page_tree.specs.Zippers.{zipper_at}
use Rattle.page_tree.specs.declared.slots.Slot.{Slot}
use Rattle.page_tree.specs.declared.arenas.Arena.{Arena}

-- the row of a slot's node
abbrev pub slot_row : Slot → PageRow
slot_row s = record { serial = s.serial; label = record { kind = s.kind; name = s.name; value = s.value; attributes = s.attributes } }

-- what a slot of a page says: its node's row, its serial, its parent's key and its children's keys
abbrev pub page_slots : SlotForm Slot PageRow
page_slots = record { row = slot_row; number = row_serial; parent = λ s. s.parent; children = λ s. s.children }

-- the slot under a key, and the key of a serial's slot
abbrev pub slots_in : Arena → ℕ → Option Slot
slots_in a = slab.get a.slots

-- the key of the slot that has the serial
abbrev pub keys_in : Arena → ℕ → Option ℕ
keys_in a = map.get nat_cmp a.keys

-- the serials have the keys of their slots
abbrev pub Filed : Arena → Type 0
Filed a = IsFiled page_slots (slots_in a) (keys_in a)

-- the slots under these keys keep these trees
abbrev pub Stored : Arena → Nodes PageRow → Option ℕ → List ℕ → Type 0
Stored a n above ks = Keeps page_slots (slots_in a) n above ks

-- the trees in the slots under these keys, so many levels down
abbrev pub stored_trees : Arena → ℕ → List ℕ → Nodes PageRow
stored_trees a levels ks = kept_trees page_slots (slots_in a) levels ks

-- trees that may come into an arena
abbrev pub Fresh : Arena → Nodes PageRow → Type 0
Fresh a n = IsFresh page_slots (slots_in a) n

-- slots of some of these trees' nodes came in, and all others stay
abbrev pub Grown : Arena → Arena → Nodes PageRow → Type 0
Grown a b n = Grows page_slots (slots_in a) (slots_in b) (λ x. times page_slots x n)

-- how often the list has the number
abbrev pub listed : ℕ → List ℕ → ℕ
listed x [] = 0
listed x (y ∷ ys) = cond {A = ℕ} (y == x) 1 0 + listed x ys

-- the slots of these serials are gone, and all others stay
abbrev pub Shrunk : Arena → Arena → List ℕ → Type 0
Shrunk a b serials = Shrinks page_slots (slots_in a) (slots_in b) (λ x. listed x serials)

-- the slot came in under that key
abbrev pub Came : Arena → Arena → ℕ → Slot → Type 0
Came a b k slot = Comes page_slots (slots_in a) (slots_in b) k slot

-- the slot of that key, where it has one, became what `f` makes of it
abbrev pub Turned : Arena → Arena → ℕ → (Slot → Slot) → Type 0
Turned a b k f = (was : Slot) → slots_in a k ≡ Some was → Turns page_slots (slots_in a) (slots_in b) k was (f was)

-- each key has the same slot
abbrev pub SameSlots : Arena → Arena → Type 0
SameSlots a b = (k : ℕ) → slots_in b k ≡ slots_in a k

-- the slot of a serial
abbrev pub slot_of : Arena → ℕ → Option Slot
slot_of a serial = option_and_then (slots_in a) (keys_in a serial)

-- How many slots there are from the one under that key up, looked for no further than so many levels.
abbrev pub climbed : Arena → ℕ → Option ℕ → ℕ
climbed a zero above = 0
climbed a (suc levels) above = option_map_or (λ k. suc (climbed a levels (option_and_then (λ slot. slot.parent) (slots_in a k)))) above 0

-- ---- a page in an arena

-- the first of the trees; a page has one
abbrev pub first_tree : Nodes PageRow → Branch PageRow
first_tree none = record { row = record { serial = 0; label = document_label }; children = none }
first_tree (node r c t) = record { row = r; children = c }

-- the tree from the root's slot on
unfoldable pub tree_of : Arena → ℕ → Branch PageRow
tree_of a root = first_tree (stored_trees a (suc max_level) (root ∷ []))

-- the trees in the slots under these keys
unfoldable pub trees_in : Arena → List ℕ → Nodes PageRow
trees_in a ks = stored_trees a (suc max_level) ks

-- the tree of a slot
abbrev pub branch_in : Arena → Slot → Branch PageRow
branch_in a slot = record { row = slot_row slot; children = trees_in a slot.children }

-- the slots under these keys keep trees that hang below one parent, on no more levels than a page has
pub record Hangs (a : Arena) (ks : List ℕ) : Type 0 where
  pub above : Option ℕ
  pub stands : Stored a (trees_in a ks) above ks
  pub low : height (trees_in a ks) ≤ suc max_level

-- the slots keep a valid page's tree, and nothing else
pub record IsPage (a : Arena) (root next : ℕ) : Type 0 where
  pub arena : IsArena page_slots (slots_in a) (keys_in a) root (tree_of a root)
  pub valid : IsValid (record { tree = tree_of a root; next = next })

-- what the slot of a serial says of the node that is found
abbrev pub Looks : Option Slot → Option (Branch PageRow) → Type 0
Looks None f = f ≡ None
Looks (Some slot) f = (b : Branch PageRow) × (f ≡ Some b) × (slot_row slot ≡ b.row) × (length slot.children ≡ width b.children)

-- the keys of a slot and its siblings, in their order; the root's slot has none
abbrev pub sibling_keys : Arena → Slot → List ℕ
sibling_keys a slot = option_map_or (λ over. over.children) (option_and_then (slots_in a) slot.parent) []

-- the slot at that place among a slot and its siblings
abbrev pub sibling_slot : Arena → Slot → ℕ → Option Slot
sibling_slot a slot i = option_and_then (slots_in a) (slice_get (sibling_keys a slot) i)

-- a slot of a page, with its place among its siblings, where that is known
pub record IsSlotAt (a : Arena) (root : ℕ) (slot : Slot) (place : Option ℕ) : Type 0 where
  pub next : ℕ
  pub page : IsPage a root next
  pub at : slot_of a slot.serial ≡ Some slot
  pub place_is : IfSome place (λ i. i ≡ length (zipper_at slot.serial (tree_of a root)).before)

-- ---- a tree put among the children of a slot, and taken out

-- the slot under the key has the serial
abbrev pub is_numbered : Arena → ℕ → ℕ → Bool
is_numbered a serial key = option_map_or (λ slot. slot.serial == serial) (slots_in a key) false

-- the place of the first key whose slot has the serial, and else the number of the keys
abbrev pub place_in : Arena → ℕ → List ℕ → ℕ
place_in a serial [] = 0
place_in a serial (k ∷ ks) = cond {A = ℕ} (is_numbered a serial k) 0 (suc (place_in a serial ks))

-- the slot with one key more among its children's, before the one of that serial; and with the key of that serial less
abbrev pub with_child_key : Arena → ℕ → ℕ → Slot → Slot
with_child_key a before child slot = record slot { children = insert slot.children (place_in a before slot.children) child }

-- the slot without the key of its child of that serial
abbrev pub without_child_key : Arena → ℕ → Slot → Slot
without_child_key a serial slot = record slot { children = remove slot.children (place_in a serial slot.children) }

-- among the children of the slot of that key: the child of that serial, or behind the last one where there is none
pub record GraftPoint : Type 0 where
  pub key : ℕ
  pub serial : ℕ

-- that key and that serial
abbrev pub graft_point : ℕ → ℕ → GraftPoint
graft_point key serial = record { key = key; serial = serial }

-- the tree came in at that point, before the child that is there
pub record Grafted (a b : Arena) (at : GraftPoint) (tree : Branch PageRow) : Type 0 where
  pub mid : Arena
  pub child : ℕ
  pub grown : Grown a mid (alone tree)
  pub stored : Stored mid (alone tree) (Some at.key) (child ∷ [])
  pub turned : Turned mid b at.key (with_child_key a at.serial child)

-- the tree of the child at that point went out
pub record Cut (a b : Arena) (at : GraftPoint) (tree : Branch PageRow) : Type 0 where
  pub mid : Arena
  pub serials : List ℕ
  pub turned : Turned a mid at.key (without_child_key a at.serial)
  pub shrunk : Shrunk mid b serials
  pub listing : (x : ℕ) → listed x serials ≡ times page_slots x (alone tree)

-- ---- the next of the siblings

-- the serial of the first key's slot; 0 where there is none
abbrev pub first_in : Arena → List ℕ → ℕ
first_in a [] = 0
first_in a (k ∷ ks) = option_map_or (λ slot. slot.serial) (slots_in a k) 0

-- the serial of the slot right after the one of that serial; 0 where there is none
abbrev pub next_in : Arena → ℕ → List ℕ → ℕ
next_in a serial [] = 0
next_in a serial (k ∷ ks) = cond (is_numbered a serial k) (first_in a ks) (next_in a serial ks)
