use Rattle.std.proofs.Common.{List, ap, ◌∙◌, map}
use Rattle.selectors.specs.declared.selector.Compound.{Compound}
use Rattle.selectors.specs.Forms.{SelectorForm, selector_seen, compound_seen}
use Rattle.selectors.specs.Lists.{list_seen}
use Rattle.css_agent.specs.ClassNames.{classes_of_compounds, with_names}
use Rattle.css_agent.proofs.NameLemmas.{texts, names-at}
use Rattle.css_agent.proofs.class_names.add_selectors.Goals as goal

pub loop-i-preserved : goal.loop-i-preserved
loop-i-preserved c =
    names-at (λ (s : SelectorForm). classes_of_compounds s.compounds) (list_seen c.args.selectors.now) c.loop-i.i
    (selector_seen c.at.result.now)
    (texts c.loop-i.names.keys) (texts c.add_compounds.new.names.keys) c.at.ensures
    (c.in_ok-add_compounds.ensures {u = tt} ∙ ap
    (λ (xs : List Compound). with_names (texts c.loop-i.names.keys)
    (classes_of_compounds (map compound_seen xs))) c.as_slice.ensures.value)
    ∙ c.loop-i.invariant
