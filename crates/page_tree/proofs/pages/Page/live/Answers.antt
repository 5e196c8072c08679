-- A node is live where it has a slot.
use Rattle.std.proofs.Common.{◌≡◌, Option, Bor, Some, None, is_some, refl, ◌∙◌}
use Rattle.std.specs.Option.{option_copied}
use Rattle.page_tree.specs.declared.slots.Slot.{Slot}
use Rattle.page_tree.specs.Pages.{find_in}
use Rattle.page_tree.proofs.PlaceLemmas.{looks-live}
use Rattle.page_tree.proofs.pages.Page.live.Goals as goal

copied : (o : Option (Bor Slot)) → is_some o ≡ is_some (option_copied o)
copied None = refl
copied (Some x) = refl

pub returns : goal.returns
returns c = c.is_some.ensures ∙ copied c.find.result ∙ looks-live (option_copied c.find.result)
    (find_in c.args.serial c.args.self.now.tree) c.find.ensures
