-- The slot of the serial.
use Rattle.std.proofs.Common.{ap, sym, ◌∙◌}
use Rattle.std.specs.Option.{option_copied}
use Rattle.page_tree.specs.Pages.{PageValue, node_at}
use Rattle.page_tree.proofs.PlaceLemmas.{reads-there}
use Rattle.page_tree.proofs.HangLemmas.{hangs-slot}
use Rattle.page_tree.proofs.pages.Page.node.Goals as goal

pub unreachable-requires : goal.unreachable-requires
unreachable-requires c = reads-there c.self.inside.arena c.self.inside.root c.self.inside.next c.self.invariant c.args.self.now.tree
    (ap (λ (p : PageValue). p.tree) c.self.view_is) c.args.serial c.requires (sym c.find.ensures ∙ ap (λ o. option_copied o) c.in-None.is)

pub invariant_of-result : goal.invariant_of-result
invariant_of-result c = (hangs-slot c.self.inside.arena c.self.inside.root c.self.inside.next c.self.invariant c.args.serial
    c.in-Some.slot.now (sym c.find.ensures ∙ ap (λ o. option_copied o) c.in-Some.is)).1

pub returns : goal.returns
returns c =
    (hangs-slot c.self.inside.arena c.self.inside.root c.self.inside.next c.self.invariant c.args.serial c.in-Some.slot.now
    (sym c.find.ensures ∙ ap (λ o. option_copied o) c.in-Some.is)).0
    ∙ ap (λ (p : PageValue). node_at c.args.serial p.tree) c.self.view_is
