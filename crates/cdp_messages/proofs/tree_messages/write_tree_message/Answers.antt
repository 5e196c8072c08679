use Rattle.dom_objects.specs.NodeData.{tree_data}
use Rattle.cdp_messages.proofs.MessageTokens.{message_written}
use Rattle.cdp_messages.proofs.tree_messages.write_tree_message.Goals as goal

pub returns-clause-ok : goal.returns-clause-ok
returns-clause-ok c = message_written c.args.out.now.tokens c.args.message
    (tree_data c.args.tree.now) c.in_ok-open.ensures.ok c.in_ok-write_node.ensures.ok c.in_ok-close.ensures.ok
