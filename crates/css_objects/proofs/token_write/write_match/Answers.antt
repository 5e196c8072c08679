use Rattle.cdp_json.specs.Kinds.{whole}
use Rattle.cdp_json.proofs.WrittenTokens.{object_written, then_key, no_field}
use Rattle.css_objects.specs.Rules.{match_row, match_fields}
use Rattle.css_objects.proofs.WrittenParts.{then_list}
use Rattle.css_objects.proofs.token_write.write_match.Goals as goal

pub returns-clause-ok : goal.returns-clause-ok
returns-clause-ok c =
    object_written c.args.out.now.tokens (match_row.writes (match_fields c.args.found.now)) c.in_ok-begin_object.ensures.ok
    (then_list whole c.as_slice.ensures c.in_ok-key.ensures.ok c.in_ok-write_places.ensures.ok
    (then_key c.in_ok-key-2.ensures.ok c.in_ok-write_rule.ensures.ok
    (no_field c.in_ok-end_object.ensures.ok)))
