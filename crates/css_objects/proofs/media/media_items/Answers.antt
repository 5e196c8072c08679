use Rattle.std.proofs.Common.{sym, ◌∙◌}
use Rattle.css_objects.specs.Media.{media_kind}
use Rattle.css_objects.proofs.ReadLists.{list_turn}
use Rattle.css_objects.proofs.media.media_items.Goals as goal

pub loop-item-preserved : goal.loop-item-preserved
loop-item-preserved c =
    list_turn media_kind.reads c.loop-item.list.items c.push.new.self.items c.in-Some.media c.args.items.now
    c.loop-item.item-index c.item-item.result c.loop-item-test.true c.item-item.is
    c.in_ok-push.ensures.items (sym c.in-Some.is ∙ c.in_ok-media.ensures) c.loop-item.invariant
