-- A place within a shelf is a spot.
use Rattle.node_tree.specs.Shelves.{all_of, number_of}
use Rattle.node_tree.proofs.ShelfLemmas.{within_spot}
use Rattle.node_tree.proofs.shelves.Shelves.spot.Goals as goal

pub returns-then-i-self-clause-spot : goal.returns-then-i-self-clause-spot
returns-then-i-self-clause-spot c =
    within_spot (all_of c.args.self.now) (number_of c.within.result.0) c.within.result.1 c.within.ensures.within
