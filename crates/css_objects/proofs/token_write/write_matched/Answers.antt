use Rattle.cdp_json.proofs.WrittenTokens.{object_written, then_field, no_field}
use Rattle.css_objects.specs.Rules.{match_kind, inherited_kind, matched_row, matched_fields}
use Rattle.css_objects.proofs.WrittenParts.{then_list}
use Rattle.css_objects.proofs.token_write.write_matched.Goals as goal

pub returns-clause-ok : goal.returns-clause-ok
returns-clause-ok c =
    object_written c.args.out.now.tokens (matched_row.writes (matched_fields c.args.matched.now)) c.in_ok-begin_object.ensures.ok
    (then_list inherited_kind c.as_slice.ensures c.in_ok-key.ensures.ok c.in_ok-write_inherited_list.ensures.ok
    (then_field c.in_ok-write_inline_if_any.ensures.ok
    (then_list match_kind c.as_slice-2.ensures c.in_ok-key-2.ensures.ok c.in_ok-write_match_list.ensures.ok
    (no_field c.in_ok-end_object.ensures.ok))))
