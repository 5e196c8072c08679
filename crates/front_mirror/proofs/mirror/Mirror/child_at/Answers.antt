-- The child at the place of its id.
use Rattle.front_mirror.specs.Shown.{known_at}
use Rattle.front_mirror.proofs.ReadLemmas.{child_place, child_is}
use Rattle.front_mirror.proofs.mirror.Mirror.child_at.Goals as goal

pub at-requires-2 : goal.at-requires-2
at-requires-2 c = child_place c.at.result.now.children
    (known_at c.args.id c.args.self.now).children c.args.i c.at.ensures.children c.requires.place

pub returns : goal.returns
returns c = child_is c.at.result.now.children
    (known_at c.args.id c.args.self.now).children c.args.i c.at-2.result c.at.ensures.children c.at-2.ensures
