use Rattle.node_binding.specs.Bindings.{opened_in, id_in}
use Rattle.dom_objects.specs.Told.{told_branch}
use Rattle.dom_objects.specs.NodeData.{tree_data}
use Rattle.cdp_messages.specs.declared.node_message.NodeMessage.TheVariants as message
use Rattle.cdp_messages.proofs.MessageTokens.{message_written}
use Rattle.dom_agent.specs.Requests.{shown}
use Rattle.dom_agent.proofs.told.write_root.Goals as goal

pub returns-clause-ok : goal.returns-clause-ok
returns-clause-ok c = message_written c.args.out.now.tokens (message.Root c.args.id)
    (tree_data (told_branch 0 (shown (opened_in c.args.binding.now)
    (id_in c.args.binding.now) c.args.document.now))) c.in_ok-open.ensures.ok c.in_ok-write_shown.ensures.ok c.in_ok-close.ensures.ok
