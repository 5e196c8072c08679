use Rattle.std.proofs.Common.{unwrap_or, ap, ◌∙◌}
use Rattle.node_binding.specs.Bindings.{id_in}
use Rattle.dom_agent.proofs.FrameLemmas.{shows_sent}
use Rattle.dom_agent.proofs.serving.tell_children.Goals as goal

pub returns : goal.returns
returns c =
    let b = c.args.binding.now in
    shows_sent c.tell_shows.result b c.unwrap_or-parent.result c.args.node.now c.walk-walk.result c.args.out.now.items
    c.tell_shows.new.out.items
    (c.unwrap_or-parent.ensures ∙ ap (λ o. unwrap_or o 0) c.id_of.ensures ∙ ap
    (id_in b) c.serial.ensures) c.walk-walk.ensures c.tell_shows.ensures
