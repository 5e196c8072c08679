-- What holds of deals.
use Rattle.std.specs.Prelude.{◌≡◌, ℕ, suc, ◌≤◌, Bool, true, false, List, [], ◌∷◌, Option, Some, None}
use Rattle.node_tree.specs.Nodes.{Nodes, Branch, alone, height}
use Rattle.node_tree.specs.Labels.{holds}
use Rattle.node_tree.specs.Keys.{find}
use Rattle.page_tree.specs.Pages.{PageRow, PageValue, IsValid, row_serial}
use Rattle.node_binding.specs.Cuts.{known, cut}
use Rattle.node_binding.specs.Openings.{is_spent, above, opened_also}
use Rattle.node_binding.specs.Counts.{stands_in}
use Rattle.node_binding.specs.Sessions.{IsSession, CanOpen, session_of}
use Rattle.node_binding.specs.Deals.{Opening, capped, less_by, containers_at, dealt, deal, deals, asked, AreOpenings, opened_all}

-- a deal is its first opening and the deals of the containers a piece below
abbrev pub DealIsDeals : Type 0
DealIsDeals = (m : ℕ) (d : Option ℕ) (x : Branch PageRow) → holds x.row.label.kind ≡ true → is_spent d ≡ false
    → deal m d x ≡ record { levels = capped (suc m) d; node = x } ∷ deals m (less_by (suc m) d) (containers_at (suc m) (alone x))

-- the openings of a deal can be made one after another, and open what the one opening opens
pub record DealOpens (m : ℕ) (page : PageValue) (o : ℕ → Bool) (d : Option ℕ) (x : Branch PageRow) : Type 0 where
  pub are : AreOpenings (alone page.tree) o (deal m d x)
  pub opens : (s : ℕ) → opened_all o (deal m d x) s ≡ opened_also d x o s

-- a container that a session can open
abbrev pub Deals : Type 0
Deals = (m : ℕ) (page : PageValue) (o : ℕ → Bool) (pushed : List ℕ) (since : ℕ) (d : Option ℕ) (x : Branch PageRow) → IsValid page
    → IsSession (alone page.tree) (session_of o pushed since) → is_spent d ≡ false → CanOpen (alone page.tree) o x
    → DealOpens m page o d x

-- the further pieces of the document, of which the first is opened
pub record DocumentDeals (m : ℕ) (page : PageValue) (d : Option ℕ) : Type 0 where
  pub are : AreOpenings (alone page.tree) (above (capped (suc m) d) (alone page.tree)) (dealt m (suc m) d (alone page.tree))
  pub opens : (s : ℕ) → opened_all (above (capped (suc m) d) (alone page.tree)) (dealt m (suc m) d (alone page.tree)) s
      ≡ above d (alone page.tree) s

abbrev pub StartDeals : Type 0
StartDeals = (m : ℕ) (page : PageValue) (d : Option ℕ) → IsValid page → is_spent d ≡ false → DocumentDeals m page d

-- a request for the children of a known node, by deals
pub record AskOpens (m : ℕ) (page : PageValue) (o : ℕ → Bool) (d : Option ℕ) (x : Branch PageRow) : Type 0 where
  pub are : AreOpenings (alone page.tree) o (asked m o d (alone x))
  pub opens : (s : ℕ) → opened_all o (asked m o d (alone x)) s ≡ opened_also d x o s

-- it opens the containers at or below the node at a distance below d, and no more
abbrev pub AskDeals : Type 0
AskDeals = (m : ℕ) (page : PageValue) (o : ℕ → Bool) (pushed : List ℕ) (since : ℕ) (d : Option ℕ) (x : Branch PageRow) → IsValid page
    → IsSession (alone page.tree) (session_of o pushed since)
    → find row_serial x.row.serial (alone page.tree) ≡ Some x → stands_in x.row.serial (known o (alone page.tree)) ≡ true
    → AskOpens m page o d x

-- ---- the size of pieces

-- so many levels, and no more than `suc m`
abbrev pub IsPiece : ℕ → Option ℕ → Type 0
IsPiece m None = ⊥
IsPiece m (Some j) = j ≤ suc m

-- each opens no more
abbrev pub ArePieces : ℕ → List Opening → Type 0
ArePieces m [] = Unit {0}
ArePieces m (x ∷ xs) = IsPiece m x.levels × ArePieces m xs

-- the openings of a deal are pieces
abbrev pub DealtInPieces : Type 0
DealtInPieces = (m left : ℕ) (d : Option ℕ) (n : Nodes PageRow) → ArePieces m (dealt m left d n)

-- what is known below a node that is opened by j + 1 levels has no more than j + 1 levels
abbrev pub ShownLow : Type 0
ShownLow = (page : PageValue) (o : ℕ → Bool) (pushed : List ℕ) (since j : ℕ) (x : Branch PageRow) (i : ℕ → ℕ) → IsValid page
    → IsSession (alone page.tree) (session_of o pushed since) → CanOpen (alone page.tree) o x
    → height (cut (opened_also (Some (suc j)) x o) i x.children) ≤ suc j

-- and what the first piece of the document shows has one level more than a piece
abbrev pub RootLow : Type 0
RootLow = (m : ℕ) (page : PageValue) (d : Option ℕ) (i : ℕ → ℕ) → IsValid page
    → height (cut (above (capped (suc m) d) (alone page.tree)) i (alone page.tree)) ≤ suc (suc m)
