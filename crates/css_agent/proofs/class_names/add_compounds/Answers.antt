use Rattle.std.proofs.Common.{List, ap, ◌∙◌, map}
use Rattle.selectors.specs.declared.selector.Simple.{Simple}
use Rattle.selectors.specs.Forms.{CompoundForm, simple_seen, compound_seen}
use Rattle.css_agent.specs.ClassNames.{classes_of_tests, with_names}
use Rattle.css_agent.proofs.NameLemmas.{texts, names-turn}
use Rattle.css_agent.proofs.class_names.add_compounds.Goals as goal

pub loop-compound-preserved : goal.loop-compound-preserved
loop-compound-preserved c =
    names-turn compound_seen (λ (s : CompoundForm). classes_of_tests s.tests) c.args.compounds.now c.loop-compound.compound-index
    c.compound-item.result (texts c.loop-compound.names.keys) (texts c.add_tests.new.names.keys)
    c.loop-compound-test.true c.compound-item.is
    (c.in_ok-add_tests.ensures {u = tt} ∙ ap
    (λ (xs : List Simple). with_names (texts c.loop-compound.names.keys)
    (classes_of_tests (map simple_seen xs))) c.as_slice.ensures.value)
    ∙ c.loop-compound.invariant
