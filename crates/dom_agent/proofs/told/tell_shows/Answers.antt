use Rattle.std.proofs.Common.{refl, ◌∙◌}
use Rattle.node_binding.specs.Cuts.{cut}
use Rattle.node_binding.specs.Bindings.{opened_in, id_in}
use Rattle.cdp_messages.specs.declared.node_message.NodeMessage.TheVariants as message
use Rattle.cdp_messages.specs.NodeWrites.{message_with}
use Rattle.client_views.specs.Moves.{shows, change}
use Rattle.dom_agent.proofs.WritingLemmas.{nodes_data}
use Rattle.dom_agent.proofs.FrameLemmas.{move_written}
use Rattle.dom_agent.proofs.told.tell_shows.Goals as goal

pub returns : goal.returns
returns c =
    let d = message_with (message.Children c.args.parent)
    (nodes_data c.args.parent (cut (opened_in c.args.binding.now) (id_in c.args.binding.now) c.args.walk.now)) in
    move_written c.write_shows-written.result c.finish.result c.args.out.now.items c.write_shows-written.new.out.before
    c.finish.new.out.items c.new-writer.result.tokens c.write_shows-written.new.out.tokens d
    (change c.args.parent (shows (cut (opened_in c.args.binding.now)
    (id_in c.args.binding.now) c.args.walk.now))) refl c.new-writer.ensures.tokens c.write_shows-written.ensures.ok
    (c.write_shows-written.ensures.before ∙ c.new-writer.ensures.before) (c.finish.ensures.ok d)
