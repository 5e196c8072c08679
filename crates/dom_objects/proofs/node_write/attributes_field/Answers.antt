use Rattle.std.proofs.Common.{◌≡◌, ◌++◌, Bool, true, [], ◌∷◌, OnOk, sym, ◌∙◌, subst}
use Rattle.std.specs.Prelude.{codes, option_map}
use Rattle.json.specs.Token.{key}
use Rattle.node_tree.specs.Labels.{is_element}
use Rattle.dom_objects.specs.NodeObject.{attribute_list, only_if}
use Rattle.dom_objects.specs.Tokens.{data_tokens, field_tokens}
use Rattle.dom_objects.proofs.TokenLists.{after_last}
use Rattle.dom_objects.proofs.node_write.attributes_field.Goals as goal

pub returns-in_ok-key-clause-ok : goal.returns-in_ok-key-clause-ok
returns-in_ok-key-clause-ok c =
    let yes : true ≡ is_element c.args.kind = sym c.if-is_element.true ∙ c.is_element.ensures in
    subst (λ (b : Bool). OnOk c.write_attributes.result (c.write_attributes.new.out.tokens ≡ c.args.out.now.tokens
    ++ field_tokens (codes "attributes") (option_map attribute_list.spell (only_if b c.args.attributes.now)))) yes
    (after_last c.args.out.now.tokens (key (codes "attributes") ∷ [])
    (data_tokens (attribute_list.spell c.args.attributes.now)) c.write_attributes.result c.write_attributes.new.out.tokens
    c.in_ok-key.ensures.ok c.write_attributes.ensures.ok)
