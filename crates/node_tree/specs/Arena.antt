-- Trees that stand in slots: each slot has a node's row, the key of its parent's slot and the keys of its children's slots.
use Rattle.std.specs.Prelude.{◌≡◌, ◌≢◌, ◌⊎◌, ℕ, zero, suc, ◌<◌, ◌≤◌, List, [], ◌∷◌, Option, Some, None}
use Rattle.node_tree.specs.Nodes.{Nodes, none, node, Branch, alone}
use Rattle.node_tree.specs.Keys.{tally}

-- how a slot is read; a row has a number, as a serial or an id, that is its own in the arena
pub record SlotForm (Slot Row : Type 0) : Type 0 where
  pub row : Slot → Row
  pub number : Row → ℕ
  pub parent : Slot → Option ℕ
  pub children : Slot → List ℕ

module _ {Slot Row : Type 0} (form : SlotForm Slot Row) where
  -- the number of a slot's node
  abbrev pub slot_number : Slot → ℕ
  slot_number slot = form.number (form.row slot)

  -- how many of these trees' nodes have the number
  abbrev pub times : ℕ → Nodes Row → ℕ
  times x n = tally form.number x n

  module _ (slots : ℕ → Option Slot) where
    -- The slots under these keys keep these trees, with all below them; the slot of their parent has the key `above`.
    abbrev pub Keeps : Nodes Row → Option ℕ → List ℕ → Type 0
    Keeps none above [] = Unit {0}
    Keeps none above (k ∷ ks) = ⊥
    Keeps (node r c t) above [] = ⊥
    Keeps (node r c t) above (k ∷ ks) =
        (slot : Slot) × (slots k ≡ Some slot) × (form.parent slot ≡ above) × (form.row slot ≡ r) × Keeps c (Some k) (form.children slot)
        × Keeps t above ks

    -- the slots keep one tree
    abbrev pub KeepsOne : Branch Row → Option ℕ → ℕ → Type 0
    KeepsOne b above k = Keeps (alone b) above (k ∷ [])

    -- the tree of a slot, with what its children's keys give, before other trees
    abbrev pub slot_tree : Option Slot → (List ℕ → Nodes Row) → Nodes Row → Nodes Row
    slot_tree None below after = after
    slot_tree (Some slot) below after = node (form.row slot) (below (form.children slot)) after

    -- the trees of these keys, side by side
    abbrev pub slot_trees : (List ℕ → Nodes Row) → List ℕ → Nodes Row
    slot_trees below [] = none
    slot_trees below (k ∷ ks) = slot_tree (slots k) below (slot_trees below ks)

    -- the trees that stand in the slots under these keys, as far down as so many levels
    abbrev pub kept_trees : ℕ → List ℕ → Nodes Row
    kept_trees zero ks = none
    kept_trees (suc levels) ks = slot_trees (kept_trees levels) ks

    -- the numbers have the keys of their slots, and no others
    pub record IsFiled (keys : ℕ → Option ℕ) : Type 0 where
      pub filed : (k : ℕ) (slot : Slot) → slots k ≡ Some slot → keys (slot_number slot) ≡ Some k
      pub found : (x k : ℕ) → keys x ≡ Some k → (slot : Slot) × (slots k ≡ Some slot) × (slot_number slot ≡ x)

    -- the slots keep one tree, from the root's key on, and nothing else
    pub record IsArena (keys : ℕ → Option ℕ) (root : ℕ) (tree : Branch Row) : Type 0 where
      pub stands : KeepsOne tree None root
      pub files : IsFiled keys
      pub reached : (k : ℕ) (slot : Slot) → slots k ≡ Some slot → 0 < times (slot_number slot) (alone tree)

    -- trees that may come into the slots: their numbers are distinct, and no slot has one of them
    pub record IsFresh (n : Nodes Row) : Type 0 where
      pub distinct : (x : ℕ) → times x n ≤ 1
      pub apart : (k : ℕ) (slot : Slot) → slots k ≡ Some slot → times (slot_number slot) n ≡ 0

  module _ (old new : ℕ → Option Slot) where
    -- All slots stay, and each slot that is new has one of these numbers: those that `among` counts at least once.
    pub record Grows (among : ℕ → ℕ) : Type 0 where
      pub kept : (k : ℕ) (slot : Slot) → old k ≡ Some slot → new k ≡ Some slot
      pub only : (k : ℕ) (slot : Slot) → new k ≡ Some slot → (old k ≡ Some slot) ⊎ (0 < among (slot_number slot))

    -- the slots that have one of these numbers are gone, and all others stay
    pub record Shrinks (among : ℕ → ℕ) : Type 0 where
      pub kept : (k : ℕ) (slot : Slot) → old k ≡ Some slot → among (slot_number slot) ≡ 0 → new k ≡ Some slot
      pub only : (k : ℕ) (slot : Slot) → new k ≡ Some slot → (old k ≡ Some slot) × (among (slot_number slot) ≡ 0)

    -- the slot comes in under that key, where nothing was
    pub record Comes (k : ℕ) (slot : Slot) : Type 0 where
      pub vacant : old k ≡ None
      pub at : new k ≡ Some slot
      pub others : (j : ℕ) → j ≢ k → new j ≡ old j

    -- that slot is changed, and no other
    pub record Turns (k : ℕ) (was slot : Slot) : Type 0 where
      pub before : old k ≡ Some was
      pub at : new k ≡ Some slot
      pub others : (j : ℕ) → j ≢ k → new j ≡ old j
