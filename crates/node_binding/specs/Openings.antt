-- What becomes opened. A distance counts levels downwards; `Some d` levels, or all of them, `None`.
use Rattle.std.specs.Prelude.{◌≡◌, ℕ, zero, suc, ◌≤◌, pos, negsuc, ℤ, Bool, true, false, cond, not, ◌&&◌, ◌||◌, List, [], ◌∷◌, ◌++◌, Option}
use Rattle.std.specs.Prelude.{Some, None}
use Rattle.node_tree.specs.Nodes.{Nodes, none, node, Branch, alone}
use Rattle.node_tree.specs.Keys.{has}
use Rattle.node_tree.specs.Labels.{holds}
use Rattle.page_tree.specs.Pages.{PageRow, row_serial}
use Rattle.node_binding.specs.Counts.{stands_in}

-- a depth of the protocol: -1 for all levels, or their number, at least 1
abbrev pub IsDepth : ℤ → Type 0
IsDepth (pos d) = 1 ≤ d
IsDepth (negsuc d) = d ≡ 0

-- the levels that a depth stands for
abbrev pub levels_of : ℤ → Option ℕ
levels_of (pos d) = Some d
levels_of (negsuc d) = None

-- one level less
abbrev pub less : Option ℕ → Option ℕ
less None = None
less (Some zero) = Some 0
less (Some (suc d)) = Some d

-- no level is left
abbrev pub is_spent : Option ℕ → Bool
is_spent None = false
is_spent (Some zero) = true
is_spent (Some (suc d)) = false

-- the containers at a distance below d, in document order
abbrev pub containers_within : Option ℕ → Nodes PageRow → List ℕ
containers_within d none = []
containers_within d (node r c t) = cond (holds r.label.kind && not (is_spent d)) (r.serial ∷ containers_within (less d) c) []
    ++ containers_within d t

-- the nodes that are known once these are opened, in document order
abbrev pub levelled : Option ℕ → Nodes PageRow → List ℕ
levelled d none = []
levelled d (node r c t) = r.serial ∷ (cond (holds r.label.kind && not (is_spent d)) (levelled (less d) c) [] ++ levelled d t)

-- the opened containers as a test
abbrev pub above : Option ℕ → Nodes PageRow → ℕ → Bool
above d n s = stands_in s (containers_within d n)

-- o, and the containers at or below x at a distance below d
abbrev pub opened_also : Option ℕ → Branch PageRow → (ℕ → Bool) → ℕ → Bool
opened_also d x o s = o s || stands_in s (containers_within d (alone x))

-- o without the nodes at and below x
abbrev pub opened_without : Branch PageRow → (ℕ → Bool) → ℕ → Bool
opened_without x o s = o s && not (has row_serial s (alone x))

-- no node is in o
abbrev pub is_unopened : (ℕ → Bool) → Nodes PageRow → Bool
is_unopened o none = true
is_unopened o (node r c t) = not (o r.serial) && is_unopened o c && is_unopened o t

-- o has the parent of each member
abbrev pub is_closed : (ℕ → Bool) → Nodes PageRow → Bool
is_closed o none = true
is_closed o (node r c t) = cond (o r.serial) (is_closed o c) (is_unopened o c) && is_closed o t

-- o has each root
abbrev pub has_roots : (ℕ → Bool) → Nodes PageRow → Bool
has_roots o none = true
has_roots o (node r c t) = o r.serial && has_roots o t

-- An opened set of the page n: live containers, with the document and the parent of each member.
pub record IsOpenedSet (o : ℕ → Bool) (n : Nodes PageRow) : Type 0 where
  pub live : (s : ℕ) → o s ≡ true → stands_in s (containers_within None n) ≡ true
  pub rooted : has_roots o n ≡ true
  pub closed : is_closed o n ≡ true
