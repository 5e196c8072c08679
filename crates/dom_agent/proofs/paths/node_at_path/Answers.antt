use Rattle.std.proofs.Common.{ap, ◌∙◌}
use Rattle.std.specs.Option.{option_and_then}
use Rattle.dom_agent.specs.Paths.{parts_of, steps_of, node_by}
use Rattle.dom_agent.proofs.paths.node_at_path.Goals as goal

pub returns : goal.returns
returns c =
    c.node_by.ensures
    ∙ ap (λ text. option_and_then (λ steps. node_by steps c.args.document.now.children) (steps_of (parts_of text))) c.as_bytes.ensures.value
