-- The slot of the parent is told before the others go.
use Rattle.std.proofs.Common.{refl}
use Rattle.page_tree.specs.Arenas.{slots_in}
use Rattle.page_tree.proofs.ArenaSteps.{filed_turned, some_slot}
use Rattle.page_tree.proofs.arenas.Arena.detach.Goals as goal

pub remove_all-requires : goal.remove_all-requires
remove_all-requires c =
    let (slot, at) = some_slot (slots_in c.args.self.now c.args.key) c.requires.above in
    filed_turned c.args.self.now c.cut_child.new.self c.args.key slot _ at refl c.cut_child.ensures.slots c.cut_child.ensures.keys
    c.requires.filed
