use Rattle.cdp_messages.proofs.MessageTokens.{message_closed}
use Rattle.cdp_messages.proofs.node_message.write_closing.Goals as goal

pub returns-clause-ok : goal.returns-clause-ok
returns-clause-ok c = message_closed c.args.out.now.tokens c.args.message c.in_ok-write_fields_behind.ensures.ok
    c.in_ok-end_object.ensures.ok c.in_ok-end_object-2.ensures.ok
