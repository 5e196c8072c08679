use Rattle.std.proofs.Common.{refl, ◌∙◌}
use Rattle.dom_objects.specs.NodeData.{tree_data}
use Rattle.cdp_messages.specs.declared.down.ReplyBody.TheVariants.{Node}
use Rattle.cdp_messages.specs.declared.node_message.NodeMessage.TheVariants as message
use Rattle.cdp_messages.specs.NodeWrites.{message_with}
use Rattle.client_views.specs.Moves.{replied}
use Rattle.dom_agent.specs.Described.{described}
use Rattle.dom_agent.proofs.FrameLemmas.{move_written}
use Rattle.dom_agent.proofs.described.tell_described.Goals as goal

pub returns : goal.returns
returns c =
    let d = message_with (message.Node c.args.id) (tree_data (described c.args.levels c.args.node.now)) in
    move_written c.write_reply-written.result c.finish.result c.args.out.now.items c.write_reply-written.new.out.before
    c.finish.new.out.items c.new-writer.result.tokens c.write_reply-written.new.out.tokens d
    (replied c.args.id (Node (described c.args.levels c.args.node.now))) refl c.new-writer.ensures.tokens c.write_reply-written.ensures.ok
    (c.write_reply-written.ensures.before ∙ c.new-writer.ensures.before) (c.finish.ensures.ok d)
