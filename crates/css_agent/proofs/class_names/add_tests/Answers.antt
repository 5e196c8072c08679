use Rattle.std.proofs.Common.{ap, ◌∙◌}
use Rattle.std.specs.Option.{option_to_list}
use Rattle.std.proofs.Common.{ℕ, List, Option}
use Rattle.selectors.specs.Forms.{SimpleForm, simple_seen}
use Rattle.css_agent.specs.ClassNames.{class_of, with_names}
use Rattle.css_agent.proofs.NameLemmas.{texts, names-turn}
use Rattle.css_agent.proofs.class_names.add_tests.Goals as goal

pub loop-simple-preserved : goal.loop-simple-preserved
loop-simple-preserved c =
    names-turn simple_seen (λ (s : SimpleForm). option_to_list
    (class_of s)) c.args.tests.now c.loop-simple.simple-index c.simple-item.result (texts c.loop-simple.names.keys)
    (texts c.add_name.new.names.keys)
    c.loop-simple-test.true c.simple-item.is
    (c.in_ok-add_name.ensures {u = tt} ∙ ap
    (λ (o : Option (List ℕ)). with_names (texts c.loop-simple.names.keys) (option_to_list o)) c.class_of.ensures)
    ∙ c.loop-simple.invariant
