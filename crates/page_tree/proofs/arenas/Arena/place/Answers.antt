-- The place of the serial's key, or behind all keys where it has none.
use Rattle.std.proofs.Common.{sym, ◌∙◌}
use Rattle.page_tree.proofs.ArenaSteps.{place_keyed, place_absent}
use Rattle.page_tree.proofs.arenas.Arena.place.Goals as goal

pub returns-in-Some : goal.returns-in-Some
returns-in-Some c = c.place.ensures ∙ place_keyed c.args.self.now c.args.serial c.in-Some.key c.args.keys.now c.requires
    (sym c.key.ensures ∙ c.in-Some.is)

pub returns-in-None : goal.returns-in-None
returns-in-None c = c.len.ensures ∙ place_absent c.args.self.now c.args.serial c.args.keys.now c.requires (sym c.key.ensures ∙ c.in-None.is)
