-- What a command opens, over the tree of the page: distances, counted in levels downwards, and ancestors.
use Rattle.std.specs.Prelude.{◌≡◌, ℕ, suc, ◌<◌, true, ◌⊎◌, ◌↔◌, Option, Some, None}
use Rattle.node_tree.specs.Nodes.{Nodes, node, Branch, alone}
use Rattle.node_tree.specs.Keys.{has}
use Rattle.node_tree.specs.Labels.{holds}
use Rattle.page_tree.specs.Pages.{PageRow, row_serial}
use Rattle.node_binding.specs.Sessions.{Session, is_open}

-- y is a node among these trees, so many levels below the roots
pub data StandsAt (y : Branch PageRow) : ℕ → Nodes PageRow → Type 0 where
  root : (t : Nodes PageRow) → StandsAt y 0 (node y.row y.children t)
  below : (k : ℕ) (r : PageRow) (c t : Nodes PageRow) → StandsAt y k c → StandsAt y (suc k) (node r c t)
  beside : (k : ℕ) (r : PageRow) (c t : Nodes PageRow) → StandsAt y k t → StandsAt y k (node r c t)

-- the distance is below d; each is where d stands for all levels
abbrev pub IsWithin : ℕ → Option ℕ → Type 0
IsWithin k None = Unit {0}
IsWithin k (Some d) = k < d

-- s is a container at or below x, at a distance below d
pub record IsReached (d : Option ℕ) (x : Branch PageRow) (s : ℕ) : Type 0 where
  pub container : Branch PageRow
  pub distance : ℕ
  pub stands : StandsAt container distance (alone x)
  pub near : IsWithin distance d
  pub can_hold : holds container.row.label.kind ≡ true
  pub serial : container.row.serial ≡ s

-- t is a proper ancestor of the node of serial s
pub record IsAncestor (document : Branch PageRow) (s t : ℕ) : Type 0 where
  pub ancestor : Branch PageRow
  pub level : ℕ
  pub stands : StandsAt ancestor level (alone document)
  pub above : has row_serial s ancestor.children ≡ true
  pub serial : ancestor.row.serial ≡ t

-- the opened set is the old one and all of those
abbrev pub OpensAlso : Session → Session → (ℕ → Type 0) → Type 0
OpensAlso w z more = (s : ℕ) → (is_open z.opened s ≡ true) ↔ ((is_open w.opened s ≡ true) ⊎ more s)
