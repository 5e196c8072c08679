use Rattle.dom_objects.specs.NodeData.{tree_data}
use Rattle.cdp_messages.specs.declared.node_message.NodeMessage.TheVariants as message
use Rattle.cdp_messages.proofs.MessageTokens.{message_written}
use Rattle.dom_agent.specs.Described.{described}
use Rattle.dom_agent.proofs.described.write_reply.Goals as goal

pub returns-clause-ok : goal.returns-clause-ok
returns-clause-ok c =
    message_written c.args.out.now.tokens (message.Node c.args.id)
    (tree_data (described c.args.levels c.args.node.now)) c.in_ok-open.ensures.ok c.in_ok-write_described.ensures.ok
    c.in_ok-close.ensures.ok
