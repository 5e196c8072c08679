-- One serial more is taken out, or all are.
use Rattle.std.proofs.Common.{List, ℕ, refl, subst}
use Rattle.std.proofs.lemmas.List.{drop_all}
use Rattle.page_tree.specs.Arenas.{slots_in}
use Rattle.page_tree.proofs.ArenaSteps.{SoFar, SoFar-turn, SoFar-end}
use Rattle.page_tree.proofs.arenas.Arena.remove_all.Goals as goal

pub loop-serial-preserved : goal.loop-serial-preserved
loop-serial-preserved c = (
  c.remove.ensures.filed,
  SoFar-turn (slots_in c.args.self.now) (slots_in c.loop-serial.self)
      (slots_in c.remove.new.self) c.args.serials.now c.loop-serial.serial-index _ c.loop-serial-test.true refl c.loop-serial.invariant.1
      c.remove.ensures.shrunk,
)

pub returns-clause-shrunk : goal.returns-clause-shrunk
returns-clause-shrunk c =
    let done = drop_all c.loop-serial.serial-index c.args.serials.now c.loop-serial-test.false in
    SoFar-end (slots_in c.args.self.now) (slots_in c.loop-serial.self) c.args.serials.now
    (subst (λ (r : List ℕ). SoFar (slots_in c.args.self.now)
    (slots_in c.loop-serial.self) c.args.serials.now r) done c.loop-serial.invariant.1)
