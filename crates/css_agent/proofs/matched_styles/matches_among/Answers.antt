use Rattle.std.proofs.Common.{Option, ◌++◌, ap, ◌∙◌}
use Rattle.std.specs.Option.{option_to_list}
use Rattle.css_objects.specs.declared.rules.RuleMatch.{RuleMatch}
use Rattle.css_agent.specs.MatchedStyles.{told_hit}
use Rattle.css_agent.proofs.StyleLemmas.{found-turn}
use Rattle.css_agent.proofs.matched_styles.matches_among.Goals as goal

pub loop-hit-preserved : goal.loop-hit-preserved
loop-hit-preserved c =
    found-turn (told_hit c.args.book.now) c.args.hits.now c.loop-hit.hit-index c.hit-item.result c.loop-hit.found.items
    c.push_some.new.found.items c.loop-hit-test.true c.hit-item.is
    (c.in_ok-push_some.ensures {u = tt} ∙ ap
    (λ (o : Option RuleMatch). c.loop-hit.found.items ++ option_to_list o) c.in_ok-told_hit.ensures)
    ∙ c.loop-hit.invariant
