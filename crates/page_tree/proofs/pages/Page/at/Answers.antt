-- A live node has a slot.
use Rattle.std.proofs.Common.{ap, sym, ◌∙◌}
use Rattle.std.specs.Option.{option_copied}
use Rattle.page_tree.specs.Pages.{PageValue}
use Rattle.page_tree.proofs.PlaceLemmas.{reads-there, reads-node}
use Rattle.page_tree.proofs.pages.Page.at.Goals as goal

pub unreachable-requires : goal.unreachable-requires
unreachable-requires c = reads-there c.self.inside.arena c.self.inside.root c.self.inside.next c.self.invariant c.args.self.now.tree
    (ap (λ (p : PageValue). p.tree) c.self.view_is) c.args.serial c.requires (sym c.find.ensures ∙ ap (λ o. option_copied o) c.in-None.is)

pub returns : goal.returns
returns c =
    let node = reads-node c.self.inside.arena c.self.inside.root c.self.inside.next c.self.invariant c.args.self.now.tree
    (ap (λ (p : PageValue). p.tree) c.self.view_is) c.args.serial c.in-Some.slot.now
    (sym c.find.ensures ∙ ap (λ o. option_copied o) c.in-Some.is) in
    record { row = node.0; children = node.1 }
