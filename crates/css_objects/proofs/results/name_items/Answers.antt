use Rattle.std.proofs.Common.{sym, ◌∙◌}
use Rattle.cdp_json.specs.Kinds.{text}
use Rattle.css_objects.proofs.ReadLists.{list_turn}
use Rattle.css_objects.proofs.results.name_items.Goals as goal

pub loop-item-preserved : goal.loop-item-preserved
loop-item-preserved c =
    list_turn text.reads c.loop-item.names.items c.push.new.self.items c.in-Some.name c.args.items.now c.loop-item.item-index
    c.item-item.result c.loop-item-test.true c.item-item.is
    c.in_ok-push.ensures.items (sym c.in-Some.is ∙ c.in_ok-name.ensures) c.loop-item.invariant
