use Rattle.cdp_messages.proofs.MessageTokens.{reply_opened}
use Rattle.cdp_messages.proofs.node_message.write_reply_opening.Goals as goal

pub returns-clause-ok : goal.returns-clause-ok
returns-clause-ok c =
    reply_opened c.args.out.now.tokens c.args.id c.args.name.now c.in_ok-begin_object.ensures.ok c.in_ok-whole_field.ensures.ok
    c.in_ok-key.ensures.ok c.in_ok-begin_object-2.ensures.ok c.in_ok-key-2.ensures.ok
