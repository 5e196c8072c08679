use Rattle.std.proofs.Common.{None, unwrap_or, ap, ◌∙◌}
use Rattle.std.specs.Option.{option_map}
use Rattle.node_binding.specs.Bindings.{id_in}
use Rattle.dom_agent.proofs.EditCode.{id_before-of, came_sent}
use Rattle.dom_agent.proofs.edits.tell_came.Goals as goal

pub returns : goal.returns
returns c =
    let b = c.args.binding.now in
    came_sent c.tell_inserted.result b c.args.parent.now.row.serial c.unwrap_or-above.result c.unwrap_or-id.result
    c.id_before-previous.result
    c.args.node.now c.args.parent.now.children c.args.out.now.items c.tell_inserted.new.out.items
    (c.unwrap_or-above.ensures ∙ ap (λ o. unwrap_or o 0) c.id_of.ensures ∙ ap (id_in b) c.serial.ensures)
    (c.unwrap_or-id.ensures ∙ ap (λ o. unwrap_or o 0) c.id_of-2.ensures ∙ ap (id_in b) c.serial-2.ensures)
    (c.id_before-previous.ensures ∙ ap (λ o. unwrap_or (option_map (id_in b) o) 0) c.requires
    ∙ id_before-of (id_in b) None c.args.node.now.row.serial c.args.parent.now.children)
    c.tell_inserted.ensures
