use Rattle.std.proofs.Common.{refl, ◌∙◌}
use Rattle.dom_objects.specs.Told.{told_branch}
use Rattle.dom_objects.specs.NodeData.{tree_data}
use Rattle.cdp_messages.specs.declared.node_message.NodeMessage.TheVariants as message
use Rattle.cdp_messages.specs.NodeWrites.{message_with}
use Rattle.client_views.specs.Moves.{inserts, change}
use Rattle.dom_agent.specs.Edits.{unopened}
use Rattle.dom_agent.proofs.FrameLemmas.{move_written}
use Rattle.dom_agent.proofs.told.tell_inserted.Goals as goal

pub returns : goal.returns
returns c =
    let d = message_with (message.Inserted c.args.parent c.args.previous)
    (tree_data (told_branch c.args.parent (unopened c.args.id c.args.node.now))) in
    move_written c.write_inserted-written.result c.finish.result c.args.out.now.items c.write_inserted-written.new.out.before
    c.finish.new.out.items c.new-writer.result.tokens c.write_inserted-written.new.out.tokens d
    (change c.args.parent (inserts c.args.previous
    (unopened c.args.id c.args.node.now))) refl c.new-writer.ensures.tokens c.write_inserted-written.ensures.ok
    (c.write_inserted-written.ensures.before ∙ c.new-writer.ensures.before) (c.finish.ensures.ok d)
