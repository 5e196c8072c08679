use Rattle.cdp_json.proofs.WrittenTokens.{object_written, then_field, then_key, no_field}
use Rattle.css_objects.specs.Rules.{rule_row, rule_fields}
use Rattle.css_objects.proofs.token_write.write_rule.Goals as goal

pub returns-clause-ok : goal.returns-clause-ok
returns-clause-ok c =
    object_written c.args.out.now.tokens (rule_row.writes (rule_fields c.args.rule.now)) c.in_ok-begin_object.ensures.ok
    (then_field c.in_ok-write_media_if_any.ensures.ok
    (then_field c.in_ok-write_origin_field.ensures.ok
    (then_key c.in_ok-key.ensures.ok c.in_ok-write_selectors.ensures.ok
    (then_key c.in_ok-key-2.ensures.ok c.in_ok-write_style.ensures.ok
    (then_field c.in_ok-write_sheet_field.ensures.ok
    (no_field c.in_ok-end_object.ensures.ok))))))
