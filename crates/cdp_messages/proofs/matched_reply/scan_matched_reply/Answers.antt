use Rattle.cdp_json.proofs.TakenTokens.{object_taken, field_taken, key_taken, none_taken}
use Rattle.css_objects.specs.Rules.{matched_kind}
use Rattle.cdp_messages.specs.Replies.{reply, reply_row, message_data}
use Rattle.cdp_messages.proofs.MatchedScans.{nothing_behind}
use Rattle.cdp_messages.proofs.matched_reply.scan_matched_reply.Goals as goal

pub returns-clause-read : goal.returns-clause-read
returns-clause-read c =
    nothing_behind (message_data (reply c.in_ok-id.id (matched_kind.spell c.in_ok-matched.matched))) c.in_ok-take_end.ensures
    (object_taken (reply_row.writes (c.in_ok-id.id, (matched_kind.spell c.in_ok-matched.matched, tt))) c.in_ok-take_begin_object.ensures
    (field_taken c.in_ok-id.ensures.read
    (key_taken c.in_ok-take_key.ensures c.in_ok-matched.ensures.read
    (none_taken c.in_ok-take_end_object.ensures))))
