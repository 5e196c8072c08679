-- One id for each child.
use Rattle.front_mirror.specs.Shown.{known_at}
use Rattle.front_mirror.proofs.ReadLemmas.{child_count}
use Rattle.front_mirror.proofs.mirror.Mirror.children_len.Goals as goal

pub returns : goal.returns
returns c = child_count c.at.result.now.children
    (known_at c.args.id c.args.self.now).children c.len.result c.at.ensures.children c.len.ensures
