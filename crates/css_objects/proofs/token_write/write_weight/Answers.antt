use Rattle.cdp_json.proofs.WrittenTokens.{object_written, then_field, no_field}
use Rattle.css_objects.specs.Selectors.{weight_row, weight_fields}
use Rattle.css_objects.proofs.token_write.write_weight.Goals as goal

pub returns-clause-ok : goal.returns-clause-ok
returns-clause-ok c =
    object_written c.args.out.now.tokens (weight_row.writes (weight_fields c.args.weight)) c.in_ok-begin_object.ensures.ok
    (then_field c.in_ok-write_whole_field.ensures.ok
    (then_field c.in_ok-write_whole_field-2.ensures.ok
    (then_field c.in_ok-write_whole_field-3.ensures.ok
    (no_field c.in_ok-end_object.ensures.ok))))
