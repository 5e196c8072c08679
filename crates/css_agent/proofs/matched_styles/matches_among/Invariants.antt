-- What is found and what is left make up the whole.
use Rattle.std.proofs.Common.{◌≡◌, ◌++◌, drop}
use Rattle.std.specs.List.{filter_map}
use Rattle.css_agent.specs.MatchedStyles.{told_hit}
use Rattle.css_agent.proofs.matched_styles.matches_among.Given as goal

abbrev pub invariant-loop-hit : goal.invariant-loop-hit
invariant-loop-hit l = l.found.items ++ filter_map (told_hit l.book) (drop l.hit-index l.hits) ≡ filter_map (told_hit l.book) l.hits
