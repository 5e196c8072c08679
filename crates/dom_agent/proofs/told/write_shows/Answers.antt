use Rattle.node_binding.specs.Cuts.{cut}
use Rattle.node_binding.specs.Bindings.{opened_in, id_in}
use Rattle.cdp_messages.specs.declared.node_message.NodeMessage.TheVariants as message
use Rattle.cdp_messages.proofs.MessageTokens.{message_written}
use Rattle.dom_agent.proofs.WritingLemmas.{nodes_data}
use Rattle.dom_agent.proofs.told.write_shows.Goals as goal

pub returns-clause-ok : goal.returns-clause-ok
returns-clause-ok c = message_written c.args.out.now.tokens (message.Children c.args.parent)
    (nodes_data c.args.parent (cut (opened_in c.args.binding.now)
    (id_in c.args.binding.now) c.args.walk.now)) c.in_ok-open.ensures.ok c.in_ok-write_children.ensures.ok c.in_ok-close.ensures.ok
