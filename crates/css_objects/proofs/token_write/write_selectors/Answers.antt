use Rattle.cdp_json.proofs.WrittenTokens.{object_written, no_field}
use Rattle.css_objects.specs.Selectors.{selector_kind, selectors_row, selectors_fields}
use Rattle.css_objects.proofs.WrittenParts.{then_list, then_text}
use Rattle.css_objects.proofs.token_write.write_selectors.Goals as goal

pub returns-clause-ok : goal.returns-clause-ok
returns-clause-ok c =
    object_written c.args.out.now.tokens (selectors_row.writes (selectors_fields c.args.selectors.now)) c.in_ok-begin_object.ensures.ok
    (then_list selector_kind c.as_slice.ensures c.in_ok-key.ensures.ok c.in_ok-write_selector_list.ensures.ok
    (then_text c.as_str.ensures c.in_ok-write_text_field.ensures.ok
    (no_field c.in_ok-end_object.ensures.ok)))
