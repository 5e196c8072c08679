-- What is left of the slots has no number of the serials so far.
use Rattle.std.proofs.Common.{drop}
use Rattle.page_tree.specs.Arenas.{slots_in, Filed}
use Rattle.page_tree.proofs.ArenaSteps.{SoFar}
use Rattle.page_tree.proofs.arenas.Arena.remove_all.Given as goal

abbrev pub invariant-loop-serial : goal.invariant-loop-serial
invariant-loop-serial l = Filed l.self × SoFar (slots_in l.initial.self) (slots_in l.self) l.serials (drop l.serial-index l.serials)
