-- What was opened and what is left to climb make up the whole.
use Rattle.std.proofs.Common.{◌≡◌, ◌≢◌, ◌++◌, map, length, IsSome}
use Rattle.page_tree.specs.Pages.{find_in}
use Rattle.page_tree.specs.Zippers.{ancestors, zipper_at}
use Rattle.shown_pages.specs.ShownPages.{shown_page}
use Rattle.node_binding.specs.Bindings.{opened_in}
use Rattle.dom_agent.specs.Openings.{opening_of}
use Rattle.dom_agent.specs.Climbs.{up_openings}
use Rattle.dom_agent.proofs.ClimbLemmas.{climb_at}
use Rattle.dom_agent.proofs.openings.climb.Given as goal

abbrev pub invariant-loop-at : goal.invariant-loop-at
invariant-loop-at l = record {
  rest : map opening_of l.openings.items ++ up_openings (opened_in l.binding) (climb_at l.at (shown_page l.mode l.page).tree)
      ≡ map opening_of l.initial.openings.items
      ++ up_openings (opened_in l.binding) (ancestors (zipper_at l.serial (shown_page l.mode l.page).tree));
  there : l.at ≢ 0 → IsSome (find_in l.at (shown_page l.mode l.page).tree);
}

abbrev pub decreases-loop-at : goal.decreases-loop-at
decreases-loop-at l = length (climb_at l.at (shown_page l.mode l.page).tree)
