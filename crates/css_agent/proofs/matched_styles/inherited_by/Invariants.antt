-- What is told, and the ancestors that are left.
use Rattle.std.proofs.Common.{◌≡◌, ◌++◌, map, length}
use Rattle.page_tree.specs.Zippers.{ancestors}
use Rattle.select_match.specs.Elements.{elements}
use Rattle.select_match.proofs.WalkLemmas.{from}
use Rattle.css_agent.specs.MatchedStyles.{told_inherited}
use Rattle.css_agent.proofs.matched_styles.inherited_by.Given as goal

abbrev pub invariant-loop-at : goal.invariant-loop-at
invariant-loop-at l = l.entries.items ++ map (told_inherited l.medium l.book) (elements (from ancestors l.at))
    ≡ map (told_inherited l.medium l.book) (elements (ancestors l.node))

abbrev pub decreases-loop-at : goal.decreases-loop-at
decreases-loop-at l = length (from ancestors l.at)
