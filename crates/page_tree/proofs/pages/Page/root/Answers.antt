-- The slot of the root.
use Rattle.std.proofs.Common.{ap, sym, ◌∙◌}
use Rattle.std.specs.Option.{option_copied}
use Rattle.page_tree.specs.Pages.{PageValue}
use Rattle.page_tree.proofs.HangLemmas.{hangs-root}
use Rattle.page_tree.proofs.pages.Page.root.Goals as goal

pub invariant_of-result : goal.invariant_of-result
invariant_of-result c = (hangs-root c.self.inside.arena c.self.inside.root c.self.inside.next c.self.invariant c.in-Some.slot.now
    (sym c.get.ensures ∙ ap (λ o. option_copied o) c.in-Some.is)).1

pub returns : goal.returns
returns c =
    (hangs-root c.self.inside.arena c.self.inside.root c.self.inside.next c.self.invariant c.in-Some.slot.now
    (sym c.get.ensures ∙ ap (λ o. option_copied o) c.in-Some.is)).0
    ∙ ap (λ (p : PageValue). p.tree) c.self.view_is
