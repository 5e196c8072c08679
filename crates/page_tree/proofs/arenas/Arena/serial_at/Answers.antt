-- The slot under the key at the place, or none.
use Rattle.std.proofs.Common.{Option, sym, ap, ◌∙◌}
use Rattle.std.specs.Option.{option_copied, option_map_or}
use Rattle.page_tree.specs.declared.slots.Slot.{Slot}
use Rattle.page_tree.proofs.ArenaSteps.{first_at}
use Rattle.page_tree.proofs.arenas.Arena.serial_at.Goals as goal

pub returns-in-Some : goal.returns-in-Some
returns-in-Some c = sym (first_at c.args.self.now c.args.keys.now c.args.i c.at.result c.at.ensures ∙ ap
    (λ (o : Option Slot). option_map_or (λ (s : Slot). s.serial) o 0) (sym c.get.ensures ∙ ap (λ o. option_copied o) c.in-Some.is))

pub returns-in-None : goal.returns-in-None
returns-in-None c = sym (first_at c.args.self.now c.args.keys.now c.args.i c.at.result c.at.ensures ∙ ap
    (λ (o : Option Slot). option_map_or (λ (s : Slot). s.serial) o 0) (sym c.get.ensures ∙ ap (λ o. option_copied o) c.in-None.is))
