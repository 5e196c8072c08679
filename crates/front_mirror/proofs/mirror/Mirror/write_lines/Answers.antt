-- The lines of all trees.
use Rattle.front_mirror.proofs.ReadLemmas.{lines_of}
use Rattle.front_mirror.proofs.mirror.Mirror.write_lines.Goals as goal

pub returns : goal.returns
returns c =
    lines_of c.self.inside.table c.self.inside.roots c.args.self.now c.write_all.result c.args.out.now.items c.write_all.new.out.items
    c.self.view_is c.write_all.ensures
