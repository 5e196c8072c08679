use Rattle.std.proofs.Common.{◌∷◌, sym, ap, ◌∙◌}
use Rattle.std.specs.Option.{option_copied}
use Rattle.dom_agent.specs.Paths.{parts_after_comma}
use Rattle.dom_agent.proofs.PathLemmas.{walk_nowhere, walk_further}
use Rattle.dom_agent.proofs.paths.+node_by.Goals as goal

pub returns-in_default-child_by : goal.returns-in_default-child_by
returns-in_default-child_by t c =
    walk_nowhere c.args.above.now.children c.args.path.now c.in-Some.named.now c.first_part.result.0.now c.first_part-2.result.0.now
    (option_copied c.first_part-2.result.1)
    (c.first_part.ensures.parts ∙ ap (λ r. c.first_part.result.0.now ∷ parts_after_comma (option_copied r)) c.in-Some.is)
    c.first_part-2.ensures.parts
    (sym c.in_default-child_by.is ∙ c.child_by.ensures)

pub returns-in-Some-rest : goal.returns-in-Some-rest
returns-in-Some-rest t c =
    walk_further c.args.above.now.children c.args.path.now c.in-Some.named.now c.first_part.result.0.now c.first_part-2.result.0.now
    c.in-Some-rest.rest.now c.in-Some-child_by.child _
    (c.first_part.ensures.parts ∙ ap (λ r. c.first_part.result.0.now ∷ parts_after_comma (option_copied r)) c.in-Some.is)
    (c.first_part-2.ensures.parts ∙ ap (λ r. c.first_part-2.result.0.now ∷ parts_after_comma (option_copied r)) c.in-Some-rest.is)
    c.in-Some-child_by.ensures
    c.node_by.ensures
