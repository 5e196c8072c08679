use Rattle.std.proofs.Common.{refl, ◌∙◌}
use Rattle.node_binding.specs.Bindings.{opened_in, id_in}
use Rattle.dom_objects.specs.Told.{told_branch}
use Rattle.dom_objects.specs.NodeData.{tree_data}
use Rattle.cdp_messages.specs.declared.node_message.NodeMessage.TheVariants as message
use Rattle.cdp_messages.specs.NodeWrites.{message_with}
use Rattle.client_views.specs.Moves.{root}
use Rattle.dom_agent.specs.Requests.{shown}
use Rattle.dom_agent.proofs.FrameLemmas.{move_written}
use Rattle.dom_agent.proofs.told.tell_root.Goals as goal

pub returns : goal.returns
returns c =
    let d = message_with (message.Root c.args.id)
    (tree_data (told_branch 0 (shown (opened_in c.args.binding.now) (id_in c.args.binding.now) c.args.document.now))) in
    move_written c.write_root-written.result c.finish.result c.args.out.now.items c.write_root-written.new.out.before
    c.finish.new.out.items c.new-writer.result.tokens c.write_root-written.new.out.tokens d
    (root c.args.id (shown (opened_in c.args.binding.now)
    (id_in c.args.binding.now) c.args.document.now)) refl c.new-writer.ensures.tokens c.write_root-written.ensures.ok
    (c.write_root-written.ensures.before ∙ c.new-writer.ensures.before) (c.finish.ensures.ok d)
