use Rattle.cdp_messages.specs.Events.{event_name}
use Rattle.cdp_messages.proofs.MessageTokens.{event_opened}
use Rattle.cdp_messages.proofs.node_message.write_event_opening.Goals as goal

pub returns-clause-ok : goal.returns-clause-ok
returns-clause-ok c =
    event_opened c.args.out.now.tokens
    (event_name c.args.event) c.args.name.now c.as_str.ensures c.in_ok-begin_object.ensures.ok c.in_ok-text_field.ensures.ok
    c.in_ok-key.ensures.ok
    c.in_ok-begin_object-2.ensures.ok c.in_ok-key-2.ensures.ok
