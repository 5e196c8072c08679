-- From a node upwards.
use Rattle.std.proofs.Common.{◌≡◌, ◌≢◌, ℕ, ◌<◌, ◌||◌, Bool, false, cond, [], ◌∷◌, length, Some, None, is_some, IsSome, sym, ap, ◌∙◌, arith}
use Rattle.std.specs.Prelude.{find}
use Rattle.std.specs.List.{list_any}
use Rattle.node_tree.specs.Nodes.{Branch}
use Rattle.page_tree.specs.Pages.{PageRow, find_in, parent_at}
use Rattle.page_tree.specs.Ancestors.{ancestors_at}
use Rattle.page_tree.proofs.AncestorLemmas.{StepUp}

module _ (at parent : ℕ) (tree : Branch PageRow) (up : StepUp at tree) (is : parent ≡ parent_at at tree) where
  pub above_is : parent ≢ 0 → ancestors_at at tree ≡ parent ∷ ancestors_at parent tree
  above_is other = up.next (λ e. other (is ∙ e)) ∙ ap (λ k. k ∷ ancestors_at k tree) (sym is)

  pub none_above : parent ≡ 0 → ancestors_at at tree ≡ []
  none_above e = up.top (sym is ∙ e)

  pub live_above : parent ≢ 0 → IsSome (find_in parent tree)
  live_above other = ap (λ k. is_some (find_in k tree)) is ∙ up.live (λ e. other (is ∙ e))

  pub shorter : parent ≢ 0 → length (ancestors_at parent tree) < length (ancestors_at at tree)
  shorter other = omega (arith, ap length (above_is other))

  -- past a node that the test lets by, a search goes on from its parent, and ends at the document
  pub find_up : (p : ℕ → Bool) → p at ≡ false → parent ≢ 0 → find p (at ∷ ancestors_at at tree) ≡ find p (parent ∷ ancestors_at parent tree)
  find_up p passed other = ap (λ b. cond b (Some at) (find p (ancestors_at at tree))) passed ∙ ap (find p) (above_is other)

  pub find_top : (p : ℕ → Bool) → p at ≡ false → parent ≡ 0 → find p (at ∷ ancestors_at at tree) ≡ None
  find_top p passed e = ap (λ b. cond b (Some at) (find p (ancestors_at at tree))) passed ∙ ap (find p) (none_above e)

  pub any_up : (p : ℕ → Bool) → p at ≡ false → parent ≢ 0
      → list_any p (at ∷ ancestors_at at tree) ≡ list_any p (parent ∷ ancestors_at parent tree)
  any_up p passed other = ap (λ b. b || list_any p (ancestors_at at tree)) passed ∙ ap (list_any p) (above_is other)

  pub any_top : (p : ℕ → Bool) → p at ≡ false → parent ≡ 0 → list_any p (at ∷ ancestors_at at tree) ≡ false
  any_top p passed e = ap (λ b. b || list_any p (ancestors_at at tree)) passed ∙ ap (list_any p) (none_above e)
