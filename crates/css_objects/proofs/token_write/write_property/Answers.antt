use Rattle.cdp_json.proofs.WrittenTokens.{object_written, then_field, no_field}
use Rattle.css_objects.specs.Styles.{property_row, property_fields}
use Rattle.css_objects.proofs.WrittenParts.{then_text}
use Rattle.css_objects.proofs.token_write.write_property.Goals as goal

pub returns-clause-ok : goal.returns-clause-ok
returns-clause-ok c =
    object_written c.args.out.now.tokens (property_row.writes (property_fields c.args.property.now)) c.in_ok-begin_object.ensures.ok
    (then_field c.in_ok-write_important.ensures.ok
    (then_text c.as_str.ensures c.in_ok-write_text_field.ensures.ok
    (then_field c.in_ok-write_range_if_any.ensures.ok
    (then_text c.as_str-2.ensures c.in_ok-write_text_field-2.ensures.ok
    (then_text c.as_str-3.ensures c.in_ok-write_text_field-3.ensures.ok
    (no_field c.in_ok-end_object.ensures.ok))))))
