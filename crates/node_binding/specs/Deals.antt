-- A deal: the openings by which a container is opened to many levels, in pieces of few.
use Rattle.std.specs.Prelude.{◌≡◌, ℕ, zero, suc, ◌-◌, Bool, false, cond, not, ◌&&◌, List, [], ◌∷◌, ◌++◌, Option, Some, None}
use Rattle.node_tree.specs.Nodes.{Nodes, none, node, Branch, alone}
use Rattle.node_tree.specs.Labels.{holds}
use Rattle.node_tree.specs.Levels.{most_told}
use Rattle.page_tree.specs.Pages.{PageRow}
use Rattle.node_binding.specs.Openings.{less, is_spent, opened_also}
use Rattle.node_binding.specs.Sessions.{CanOpen}

-- a container that is opened, and by how many levels
pub record Opening : Type 0 where
  pub levels : Option ℕ
  pub node : Branch PageRow

-- how many levels a message tells beyond the first of them
abbrev pub more_told : ℕ
more_told = most_told - 1

-- the smaller of two numbers of levels
abbrev pub smaller : ℕ → ℕ → ℕ
smaller zero d = 0
smaller (suc k) zero = 0
smaller (suc k) (suc d) = suc (smaller k d)

-- at most k levels
abbrev pub capped : ℕ → Option ℕ → Option ℕ
capped k None = Some k
capped k (Some d) = Some (smaller k d)

-- one level less, so many times
abbrev pub less_by : ℕ → Option ℕ → Option ℕ
less_by zero d = d
less_by (suc k) d = less_by k (less d)

-- the containers so many levels below these trees' roots, in document order
abbrev pub containers_at : ℕ → Nodes PageRow → List (Branch PageRow)
containers_at k none = []
containers_at zero (node r c t) = cond (holds r.label.kind) (record { row = r; children = c } ∷ []) [] ++ containers_at zero t
containers_at (suc k) (node r c t) = cond (holds r.label.kind) (containers_at k c) [] ++ containers_at (suc k) t

-- a piece shows `suc m` levels
module _ (m : ℕ) where
  -- The openings below n of which `left` levels are opened already, down to d levels: in document order the containers that many
  -- levels below the roots, each by a piece, and below it, once it is opened, the next ones.
  abbrev pub dealt : ℕ → Option ℕ → Nodes PageRow → List Opening
  dealt left d none = []
  dealt zero d (node r c t) =
      cond (holds r.label.kind && not (is_spent d))
      (record { levels = capped (suc m) d; node = record { row = r; children = c } } ∷ dealt m (less d) c) []
      ++ dealt zero d t
  dealt (suc k) d (node r c t) =
      cond (holds r.label.kind && not (is_spent d)) (dealt k (less d) c) [] ++ dealt (suc k) d t

  -- the deal of a container of which nothing is opened
  abbrev pub deal : Option ℕ → Branch PageRow → List Opening
  deal d x = dealt 0 d (alone x)

  -- those of several, one after another
  abbrev pub deals : Option ℕ → List (Branch PageRow) → List Opening
  deals d [] = []
  deals d (x ∷ xs) = deal d x ++ deals d xs

  -- what a request opens: each container that is not opened and whose parent is, or which is the first, by its deal
  abbrev pub asked : (ℕ → Bool) → Option ℕ → Nodes PageRow → List Opening
  asked o d none = []
  asked o d (node r c t) =
      cond (holds r.label.kind && not (is_spent d))
      (cond (o r.serial) (asked o (less d) c) (deal d (record { row = r; children = c }))) []
      ++ asked o d t

-- each is known and not opened as its turn comes, and levels are left
abbrev pub AreOpenings : Nodes PageRow → (ℕ → Bool) → List Opening → Type 0
AreOpenings n o [] = Unit {0}
AreOpenings n o (x ∷ xs) = (is_spent x.levels ≡ false) × CanOpen n o x.node × AreOpenings n (opened_also x.levels x.node o) xs

-- what is opened after them
abbrev pub opened_all : (ℕ → Bool) → List Opening → ℕ → Bool
opened_all o [] = o
opened_all o (x ∷ xs) = opened_all (opened_also x.levels x.node o) xs
