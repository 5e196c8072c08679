use Rattle.cdp_json.proofs.WrittenTokens.{object_written, then_field, no_field}
use Rattle.css_objects.specs.Styles.{property_kind, style_row, style_fields}
use Rattle.css_objects.proofs.WrittenParts.{then_list, then_text}
use Rattle.css_objects.proofs.token_write.write_style.Goals as goal

pub returns-clause-ok : goal.returns-clause-ok
returns-clause-ok c =
    object_written c.args.out.now.tokens (style_row.writes (style_fields c.args.style.now)) c.in_ok-begin_object.ensures.ok
    (then_list property_kind c.as_slice.ensures c.in_ok-key.ensures.ok c.in_ok-write_property_list.ensures.ok
    (then_text c.as_str.ensures c.in_ok-write_text_field.ensures.ok
    (then_field c.in_ok-write_range_if_any.ensures.ok
    (then_field c.in_ok-write_shorthands_field.ensures.ok
    (then_field c.in_ok-write_sheet_if_any.ensures.ok
    (no_field c.in_ok-end_object.ensures.ok))))))
