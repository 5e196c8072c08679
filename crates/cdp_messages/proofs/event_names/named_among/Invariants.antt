use Rattle.std.proofs.Common.{◌≡◌, drop}
use Rattle.cdp_json.specs.Kinds.{named}
use Rattle.cdp_messages.specs.Events.{event_name}
use Rattle.cdp_messages.proofs.event_names.named_among.Given as goal

abbrev pub invariant-loop-event : goal.invariant-loop-event
invariant-loop-event l = named event_name (drop l.event-index l.events) l.fn.name ≡ named event_name l.events l.fn.name
