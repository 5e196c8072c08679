use Rattle.std.proofs.Common.{◌≡◌, ◌∷◌, length, IsSome}
use Rattle.std.specs.Prelude.{find}
use Rattle.std.specs.FinSet as set
use Rattle.page_tree.specs.Pages.{find_in}
use Rattle.page_tree.specs.Ancestors.{ancestors_at}
use Rattle.dom_breakpoints.proofs.climbing.nearest_from.Given as goal

abbrev pub invariant-loop-parent : goal.invariant-loop-parent
invariant-loop-parent l = record {
  live : IsSome (find_in l.at l.page.tree);
  same : find (set.contains l.serials) (l.at ∷ ancestors_at l.at l.page.tree)
      ≡ find (set.contains l.serials) (l.fn.serial ∷ ancestors_at l.fn.serial l.page.tree);
}

abbrev pub decreases-loop-parent : goal.decreases-loop-parent
decreases-loop-parent l = length (ancestors_at l.at l.page.tree)
