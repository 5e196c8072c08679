-- A live node has a slot.
use Rattle.std.proofs.Common.{ap, sym, ◌∙◌}
use Rattle.std.specs.Option.{option_copied}
use Rattle.page_tree.specs.Pages.{PageValue}
use Rattle.page_tree.proofs.PlaceLemmas.{reads-there}
use Rattle.page_tree.proofs.pages.Page.node_ref.Goals as goal

pub unreachable-requires : goal.unreachable-requires
unreachable-requires c = reads-there c.self.inside.arena c.self.inside.root c.self.inside.next c.self.invariant c.args.self.now.tree
    (ap (λ (p : PageValue). p.tree) c.self.view_is) c.args.serial c.requires (sym c.find.ensures ∙ ap (λ o. option_copied o) c.in-None.is)
