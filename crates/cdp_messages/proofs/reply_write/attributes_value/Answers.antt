-- One attribute more, and no more.
use Rattle.std.proofs.Common.{ap, ◌∙◌}
use Rattle.serde_json.specs.Data.{string}
use Rattle.dom_objects.proofs.AttributeLists.{attribute_written, attributes_written}
use Rattle.cdp_messages.proofs.reply_write.attributes_value.Goals as goal

pub loop-pair-preserved : goal.loop-pair-preserved
loop-pair-preserved c =
    attribute_written c.loop-pair.list.items c.push.new.self.items c.push-in-loop-pair.new.self.items c.in_ok-try_from_str.field-0
    c.in_ok-try_from_str-2.field-0 c.in-Some.pair.now c.loop-pair.pair-iterator c.next.new.self c.args.attributes.now
    (c.in-Some.ensures {u = tt}).steps c.in_ok-push.ensures.items c.in_ok-push-2.ensures.items
    (c.in_ok-try_from_str.ensures ∙ ap string c.as_str.ensures)
    (c.in_ok-try_from_str-2.ensures ∙ ap string c.as_str-in-loop-pair.ensures) c.loop-pair.invariant

pub returns : goal.returns
returns c = attributes_written c.loop-pair.list c.loop-pair.pair-iterator c.args.attributes.now c.loop-pair.invariant
    (c.in-None.ensures {u = tt}).steps.0
