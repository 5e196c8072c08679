use Rattle.std.proofs.Common.{◌∙◌}
use Rattle.dom_objects.specs.NodeData.{tree_data}
use Rattle.cdp_messages.specs.NodeWrites.{message_with}
use Rattle.dom_objects.proofs.TokenLists.{frame_sent, sent_utf8}
use Rattle.cdp_messages.proofs.tree_messages.append_tree.Goals as goal

pub returns-clause-ok : goal.returns-clause-ok
returns-clause-ok c =
    frame_sent c.write_tree_message-written.result c.finish.result c.args.out.now.items c.write_tree_message-written.new.out.before
    c.finish.new.out.items c.new-writer.result.tokens c.write_tree_message-written.new.out.tokens
    (message_with c.args.message (tree_data c.args.tree.now)) c.new-writer.ensures.tokens c.write_tree_message-written.ensures.ok
    (c.write_tree_message-written.ensures.before ∙ c.new-writer.ensures.before)
    (c.finish.ensures.ok (message_with c.args.message (tree_data c.args.tree.now)))

pub returns-clause-utf8 : goal.returns-clause-utf8
returns-clause-utf8 c =
    sent_utf8 c.write_tree_message-written.result c.finish.result c.new-writer.result.tokens c.write_tree_message-written.new.out.tokens
    (message_with c.args.message (tree_data c.args.tree.now)) c.new-writer.ensures.tokens
    c.write_tree_message-written.ensures.ok (c.finish.ensures.utf8 (message_with c.args.message (tree_data c.args.tree.now)))
