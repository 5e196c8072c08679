use Rattle.dom_objects.specs.Told.{told_branch}
use Rattle.dom_objects.specs.NodeData.{tree_data}
use Rattle.cdp_messages.specs.declared.node_message.NodeMessage.TheVariants as message
use Rattle.cdp_messages.proofs.MessageTokens.{message_written}
use Rattle.dom_agent.specs.Edits.{unopened}
use Rattle.dom_agent.proofs.told.write_inserted.Goals as goal

pub returns-clause-ok : goal.returns-clause-ok
returns-clause-ok c = message_written c.args.out.now.tokens (message.Inserted c.args.parent c.args.previous)
    (tree_data (told_branch c.args.parent
    (unopened c.args.id c.args.node.now))) c.in_ok-open.ensures.ok c.in_ok-write_unopened.ensures.ok c.in_ok-close.ensures.ok
