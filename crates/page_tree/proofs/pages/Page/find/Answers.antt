-- What the slot of a serial says.
use Rattle.std.proofs.Common.{ap, subst, sym, Option}
use Rattle.page_tree.specs.Pages.{PageValue, find_in}
use Rattle.page_tree.specs.Arenas.{Looks}
use Rattle.page_tree.specs.declared.slots.Slot.{Slot}
use Rattle.page_tree.proofs.PlaceLemmas.{reads-looks}
use Rattle.page_tree.proofs.pages.Page.find.Goals as goal

pub returns : goal.returns
returns c = subst (λ (o : Option Slot). Looks o (find_in c.args.serial c.args.self.now.tree)) (sym c.find.ensures)
    (reads-looks c.self.inside.arena c.self.inside.root c.self.inside.next c.self.invariant c.args.self.now.tree
    (ap (λ (p : PageValue). p.tree) c.self.view_is) c.args.serial)
