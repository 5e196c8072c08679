use Rattle.std.proofs.Common.{◌≡◌, ◌++◌, Some, OnOk, sym, subst}
use Rattle.std.specs.Prelude.{codes}
use Rattle.cdp_json.specs.Kinds.{whole}
use Rattle.cdp_messages.specs.declared.node_message.NodeMessage.{NodeMessage}
use Rattle.dom_objects.specs.Tokens.{field_tokens}
use Rattle.cdp_messages.specs.NodeWrites.{fields_behind}
use Rattle.dom_objects.proofs.TokenLists.{after_last}
use Rattle.cdp_messages.proofs.node_message.write_fields_behind.Goals as goal

pub returns-in_ok-whole_field-in-Inserted-clause-ok : goal.returns-in_ok-whole_field-in-Inserted-clause-ok
returns-in_ok-whole_field-in-Inserted-clause-ok c =
    subst (λ (m : NodeMessage). OnOk c.whole_field-in-Inserted-2.result
    (c.whole_field-in-Inserted-2.new.self.tokens ≡ c.args.out.now.tokens ++ fields_behind m)) (sym c.in-Inserted.is)
    (after_last c.args.out.now.tokens (field_tokens (codes "parentNodeId") (Some (whole.spell c.in-Inserted.parent)))
    (field_tokens (codes "previousNodeId") (Some (whole.spell c.in-Inserted.previous)))
    c.whole_field-in-Inserted-2.result c.whole_field-in-Inserted-2.new.self.tokens c.in_ok-whole_field-in-Inserted.ensures.ok
    c.whole_field-in-Inserted-2.ensures.ok)
