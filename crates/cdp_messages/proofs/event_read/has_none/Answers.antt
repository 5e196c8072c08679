use Rattle.cdp_messages.proofs.NeedsRead.{some_items}
use Rattle.cdp_messages.proofs.event_read.has_none.Goals as goal

pub returns-in_default : goal.returns-in_default
returns-in_default c = some_items c.args.items.now c.in_default.len_at_least
