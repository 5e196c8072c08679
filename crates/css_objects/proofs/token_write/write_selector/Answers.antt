use Rattle.cdp_json.proofs.WrittenTokens.{object_written, then_field, then_key, no_field}
use Rattle.css_objects.specs.Selectors.{selector_row, selector_fields}
use Rattle.css_objects.proofs.WrittenParts.{then_text}
use Rattle.css_objects.proofs.token_write.write_selector.Goals as goal

pub returns-clause-ok : goal.returns-clause-ok
returns-clause-ok c =
    object_written c.args.out.now.tokens (selector_row.writes (selector_fields c.args.selector.now)) c.in_ok-begin_object.ensures.ok
    (then_field c.in_ok-write_range_field.ensures.ok
    (then_key c.in_ok-key.ensures.ok c.in_ok-write_weight.ensures.ok
    (then_text c.as_str.ensures c.in_ok-write_text_field.ensures.ok
    (no_field c.in_ok-end_object.ensures.ok))))
