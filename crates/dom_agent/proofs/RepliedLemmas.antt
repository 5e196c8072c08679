-- A reply alone changes nothing.
use Rattle.std.proofs.Common.{◌≡◌, ℤ, Option, Some, None, refl}
use Rattle.node_tree.specs.Nodes.{Branch}
use Rattle.page_tree.specs.Pages.{PageRow}
use Rattle.dom_agent.specs.Keepers.{Keeper}
use Rattle.dom_agent.specs.Requests.{of_description, state_after}

module _ {S : Type 0} (k : Keeper S) (document : Branch PageRow) where
  pub description-keeps : (depth : Option ℤ) (found : Option (Branch PageRow)) (w : S)
      → state_after w (of_description k document depth found w) ≡ w
  description-keeps depth None w = refl
  description-keeps depth (Some x) w = refl
