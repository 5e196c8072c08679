-- One slot less, and its serial.
use Rattle.std.proofs.Common.{rules, ◌≡◌, ◌≢◌, ℕ, sym, ◌∙◌, None, Some}
use Rattle.node_tree.proofs.ArenaLemmas.{files-remove}
use Rattle.page_tree.specs.Arenas.{page_slots, slots_in, keys_in}
use Rattle.page_tree.specs.declared.arenas.Arena.{Arena}
use Rattle.page_tree.proofs.arenas.Arena.remove.Goals as goal

pub returns-in-Some-clause-filed : goal.returns-in-Some-clause-filed
returns-in-Some-clause-filed c =
    let left : Arena = record { slots = c.try_remove.new.self; keys = c.remove.new.self } in
    let there : keys_in c.args.self.now c.args.serial ≡ Some c.in-Some.key = sym c.remove.ensures.value ∙ c.in-Some.is in
    let gone : keys_in left c.args.serial ≡ None = search in
    let others : (y : ℕ) → y ≢ c.args.serial → keys_in left y ≡ keys_in c.args.self.now y = search rules in
    files-remove page_slots (slots_in c.args.self.now) (slots_in left) (keys_in c.args.self.now) (keys_in left) c.args.serial c.in-Some.key
    c.requires there c.try_remove.ensures.updates.changed c.try_remove.ensures.updates.others gone others
