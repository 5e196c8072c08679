use Rattle.std.proofs.Common.{length, sym, ap, ◌∙◌}
use Rattle.css_objects.specs.Rules.{matched_kind}
use Rattle.dom_objects.proofs.TokenLists.{frame_is, frame_utf8}
use Rattle.cdp_messages.specs.Replies.{reply, message_data}
use Rattle.cdp_messages.proofs.matched_reply.append_matched.Goals as goal

pub end_frame-requires : goal.end_frame-requires
end_frame-requires c = c.begin_frame-writer.ensures.start
    ∙ ap length (sym (c.write_matched_reply-written.ensures.before ∙ c.begin_frame-writer.ensures.before))

pub returns-clause-ok : goal.returns-clause-ok
returns-clause-ok c =
    frame_is c.write_matched_reply-written.result c.end_frame.result c.args.out.now.items c.write_matched_reply-written.new.out.before
    c.end_frame.new.out.items c.begin_frame-writer.result.0.tokens c.write_matched_reply-written.new.out.tokens
    (message_data (reply c.args.id (matched_kind.spell c.args.matched.now))) c.begin_frame-writer.ensures.tokens
    c.write_matched_reply-written.ensures.ok c.end_frame.ensures.whole
    (c.write_matched_reply-written.ensures.before ∙ c.begin_frame-writer.ensures.before)
    c.end_frame.ensures.ok

pub returns-clause-utf8 : goal.returns-clause-utf8
returns-clause-utf8 c =
    frame_utf8 c.write_matched_reply-written.result c.end_frame.result c.begin_frame-writer.result.0.tokens
    c.write_matched_reply-written.new.out.tokens
    (message_data (reply c.args.id (matched_kind.spell c.args.matched.now))) c.begin_frame-writer.ensures.tokens
    c.write_matched_reply-written.ensures.ok c.end_frame.ensures.whole c.end_frame.ensures.utf8
