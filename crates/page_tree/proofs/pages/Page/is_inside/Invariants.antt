-- From here up it is as from the start.
use Rattle.std.proofs.Common.{◌≡◌, ◌==◌, ◌∷◌, length, IsSome}
use Rattle.std.specs.List.{list_any}
use Rattle.page_tree.specs.Pages.{find_in}
use Rattle.page_tree.specs.Ancestors.{ancestors_at}
use Rattle.page_tree.proofs.pages.Page.is_inside.Given as goal

abbrev pub invariant-loop-at : goal.invariant-loop-at
invariant-loop-at l = record {
  live : IsSome (find_in l.at l.self.tree);
  same : list_any (λ k. k == l.other) (l.at ∷ ancestors_at l.at l.self.tree)
      ≡ list_any (λ k. k == l.other) (l.fn.serial ∷ ancestors_at l.fn.serial l.self.tree);
}

abbrev pub decreases-loop-at : goal.decreases-loop-at
decreases-loop-at l = length (ancestors_at l.at l.self.tree)
