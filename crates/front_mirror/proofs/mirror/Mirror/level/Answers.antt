-- A known node has a slot, and stands on a level.
use Rattle.std.proofs.Common.{sym, ap, ◌∙◌}
use Rattle.std.specs.Option.{option_copied}
use Rattle.front_mirror.proofs.ReadLemmas.{slot_known, level_is, level_fits}
use Rattle.front_mirror.proofs.mirror.Mirror.level.Goals as goal

pub unreachable-requires : goal.unreachable-requires
unreachable-requires c = slot_known c.self.inside.table c.self.inside.roots c.args.self.now c.self.invariant.kept c.self.view_is c.args.id
    (option_copied c.get.result) c.requires.known c.get.ensures (ap (λ o. option_copied o) c.in_default.is)

pub returns-clause-level : goal.returns-clause-level
returns-clause-level c = level_is c.self.inside.table c.self.inside.roots c.args.self.now c.self.invariant.kept c.self.view_is c.args.id
    c.in-Some.slot.now c.climb.result (sym c.get.ensures ∙ ap (λ o. option_copied o) c.in-Some.is) c.climb.ensures.rise

pub returns-clause-low : goal.returns-clause-low
returns-clause-low c = level_fits c.self.inside.table c.self.inside.roots c.args.self.now c.self.invariant.kept c.self.view_is c.args.id
    c.in-Some.slot.now c.climb.result (sym c.get.ensures ∙ ap (λ o. option_copied o) c.in-Some.is) c.climb.ensures.rise
