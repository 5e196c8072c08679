use Rattle.std.proofs.Common.{◌≡◌, ◌++◌, OnOk, sym, subst}
use Rattle.cdp_messages.specs.declared.node_message.NodeMessage.{NodeMessage}
use Rattle.cdp_messages.specs.NodeWrites.{opening_tokens}
use Rattle.cdp_messages.proofs.node_message.write_opening.Goals as goal

pub returns-in-Root-clause-ok : goal.returns-in-Root-clause-ok
returns-in-Root-clause-ok c = subst
    (λ (m : NodeMessage). OnOk c.write_reply_opening.result
    (c.write_reply_opening.new.out.tokens ≡ c.args.out.now.tokens ++ opening_tokens m)) (sym c.in-Root.is) c.write_reply_opening.ensures.ok

pub returns-in-Node-clause-ok : goal.returns-in-Node-clause-ok
returns-in-Node-clause-ok c = subst
    (λ (m : NodeMessage). OnOk c.write_reply_opening-in-Node.result
    (c.write_reply_opening-in-Node.new.out.tokens ≡ c.args.out.now.tokens ++ opening_tokens m))
    (sym c.in-Node.is) c.write_reply_opening-in-Node.ensures.ok

pub returns-in-Children-clause-ok : goal.returns-in-Children-clause-ok
returns-in-Children-clause-ok c = subst
    (λ (m : NodeMessage). OnOk c.write_event_opening.result
    (c.write_event_opening.new.out.tokens ≡ c.args.out.now.tokens ++ opening_tokens m))
    (sym c.in-Children.is) c.write_event_opening.ensures.ok

pub returns-in-Inserted-clause-ok : goal.returns-in-Inserted-clause-ok
returns-in-Inserted-clause-ok c = subst
    (λ (m : NodeMessage). OnOk c.write_event_opening-in-Inserted.result
    (c.write_event_opening-in-Inserted.new.out.tokens ≡ c.args.out.now.tokens ++ opening_tokens m))
    (sym c.in-Inserted.is) c.write_event_opening-in-Inserted.ensures.ok
