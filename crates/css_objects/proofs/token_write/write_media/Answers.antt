use Rattle.cdp_json.proofs.WrittenTokens.{object_written, then_field, no_field}
use Rattle.css_objects.specs.Media.{media_row, media_fields}
use Rattle.css_objects.proofs.WrittenParts.{then_text}
use Rattle.css_objects.proofs.token_write.write_media.Goals as goal

pub returns-clause-ok : goal.returns-clause-ok
returns-clause-ok c =
    object_written c.args.out.now.tokens (media_row.writes (media_fields c.args.media.now)) c.in_ok-begin_object.ensures.ok
    (then_field c.in_ok-write_range_field.ensures.ok
    (then_field c.in_ok-write_text_field.ensures.ok
    (then_field c.in_ok-write_sheet_field.ensures.ok
    (then_text c.as_str.ensures c.in_ok-write_text_field-2.ensures.ok
    (no_field c.in_ok-end_object.ensures.ok)))))
