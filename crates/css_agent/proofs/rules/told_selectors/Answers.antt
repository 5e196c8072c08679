use Rattle.std.proofs.Common.{ℕ, List, [], ◌∷◌, ◌++◌, ap, ◌∙◌}
use Rattle.css_objects.specs.declared.selectors.SelectorValue.{SelectorValue}
use Rattle.selectors.specs.Forms.{selector_seen}
use Rattle.selectors.specs.Lists.{list_seen}
use Rattle.css_agent.specs.RuleObjects.{told_selector}
use Rattle.css_agent.proofs.StyleLemmas.{told-at}
use Rattle.css_agent.proofs.rules.told_selectors.Goals as goal

pub loop-i-preserved : goal.loop-i-preserved
loop-i-preserved c =
    let s = selector_seen c.at.result.now in
    let same = c.loop-i.invariant.same in
    let value = c.in_ok-told_selector.ensures.value ∙ ap (λ (t : List ℕ). told_selector t s) same in
    record {
      told =
          told-at (told_selector c.args.ruler.now)
          (list_seen c.args.selectors.now) c.loop-i.i s c.loop-i.told.items c.push.new.self.items c.at.ensures c.loop-i.invariant.told
          (c.in_ok-push.ensures.items ∙ ap (λ (v : SelectorValue). c.loop-i.told.items ++ v ∷ []) value);
      same = c.told_selector.ensures.same ∙ same;
    }
