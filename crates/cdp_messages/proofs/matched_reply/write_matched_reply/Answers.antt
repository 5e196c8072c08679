use Rattle.cdp_json.proofs.WrittenTokens.{object_written, then_field, then_key, no_field}
use Rattle.css_objects.specs.Rules.{matched_kind}
use Rattle.cdp_messages.specs.Replies.{reply_row}
use Rattle.cdp_messages.proofs.matched_reply.write_matched_reply.Goals as goal

pub returns-clause-ok : goal.returns-clause-ok
returns-clause-ok c =
    object_written c.args.out.now.tokens (reply_row.writes (c.args.id, (matched_kind.spell c.args.matched.now, tt)))
    c.in_ok-begin_object.ensures.ok
    (then_field c.in_ok-write_whole_field.ensures.ok
    (then_key c.in_ok-key.ensures.ok c.in_ok-write_matched.ensures.ok
    (no_field c.in_ok-end_object.ensures.ok)))
