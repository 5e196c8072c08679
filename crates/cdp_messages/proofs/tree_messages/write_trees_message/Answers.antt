use Rattle.node_tree.specs.Nodes.{nodes_of}
use Rattle.dom_objects.specs.NodeKinds.{nodes_kind}
use Rattle.cdp_messages.proofs.MessageTokens.{message_written}
use Rattle.cdp_messages.proofs.tree_messages.write_trees_message.Goals as goal

pub returns-clause-ok : goal.returns-clause-ok
returns-clause-ok c = message_written c.args.out.now.tokens c.args.message
    (nodes_kind.spell (nodes_of c.args.trees.now.items)) c.in_ok-open.ensures.ok c.in_ok-write_nodes.ensures.ok c.in_ok-close.ensures.ok
