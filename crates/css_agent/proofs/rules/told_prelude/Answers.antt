use Rattle.css_agent.proofs.StyleLemmas.{each-between}
use Rattle.selectors.specs.Lists.{list_seen}
use Rattle.css_agent.proofs.rules.told_prelude.Goals as goal

pub told_selectors-requires : goal.told_selectors-requires
told_selectors-requires c =
    each-between c.args.ruler.now c.args.rule.now.prelude.start c.args.rule.now.prelude.end
    (list_seen c.args.rule.now.selectors) c.requires.selectors
