-- The place of the serial among the keys.
use Rattle.std.proofs.Common.{nat_lt, ap, sym, ◌∙◌}
use Rattle.std.specs.Option.{option_copied}
use Rattle.page_tree.specs.Pages.{PageValue}
use Rattle.page_tree.proofs.PlaceLemmas.{reads-there}
use Rattle.page_tree.proofs.FaultLemmas.{reads-among}
use Rattle.page_tree.proofs.pages.Page.has_child.Goals as goal

pub unreachable-requires : goal.unreachable-requires
unreachable-requires c = reads-there c.self.inside.arena c.self.inside.root c.self.inside.next c.self.invariant c.args.self.now.tree
    (ap (λ (p : PageValue). p.tree) c.self.view_is) c.args.parent c.requires (sym c.find.ensures ∙ ap (λ o. option_copied o) c.in-None.is)

pub returns : goal.returns
returns c =
    (λ i. nat_lt (c.place.ensures i) (c.len.ensures i))
    ∙ reads-among c.self.inside.arena c.self.inside.root c.self.inside.next c.self.invariant c.args.self.now.tree
    (ap (λ (p : PageValue). p.tree) c.self.view_is) c.args.parent c.in-Some.slot.now
    (sym c.find.ensures ∙ ap (λ o. option_copied o) c.in-Some.is) c.args.serial
