use Rattle.cdp_json.proofs.WrittenTokens.{object_written, then_field, no_field}
use Rattle.css_objects.specs.Ranges.{range_row, range_fields}
use Rattle.css_objects.proofs.token_write.write_range.Goals as goal

pub returns-clause-ok : goal.returns-clause-ok
returns-clause-ok c =
    object_written c.args.out.now.tokens (range_row.writes (range_fields c.args.range)) c.in_ok-begin_object.ensures.ok
    (then_field c.in_ok-write_whole_field.ensures.ok
    (then_field c.in_ok-write_whole_field-2.ensures.ok
    (then_field c.in_ok-write_whole_field-3.ensures.ok
    (then_field c.in_ok-write_whole_field-4.ensures.ok
    (no_field c.in_ok-end_object.ensures.ok)))))
