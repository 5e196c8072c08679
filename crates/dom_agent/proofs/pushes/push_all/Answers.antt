use Rattle.std.proofs.Common.{refl, get_or, drop, ap, arith}
use Rattle.shown_pages.specs.ShownPages.{shown_page}
use Rattle.node_binding.specs.Bindings.{BindingValue}
use Rattle.dom_agent.proofs.GrowLemmas.{pushes-grow}
use Rattle.dom_agent.proofs.PushLemmas.{left_turn}
use Rattle.dom_agent.proofs.pushes.push_all.Goals as goal

pub loop-serial-preserved : goal.loop-serial-preserved
loop-serial-preserved c =
    left_turn (shown_page c.args.mode c.args.page.now).tree c.args.serials.now c.loop-serial.serial-index
    (get_or c.args.serials.now c.loop-serial.serial-index 0) _ _ _ _ _ _ _ _ _ _ c.loop-serial-test.true refl c.in_ok-id.ensures.known
    c.in_ok-id.ensures.sent c.in_ok-id.ensures.id c.in_ok-push.ensures.items c.loop-serial.invariant

pub push_if_there-requires : goal.push_if_there-requires
push_if_there-requires c =
    let grows = pushes-grow (shown_page c.args.mode c.args.page.now).tree
    (drop c.loop-serial.serial-index c.args.serials.now) c.loop-serial.binding in
    omega (arith, grows, ap (λ (b : BindingValue). b.next) c.loop-serial.invariant.state, c.requires)
