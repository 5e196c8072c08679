-- The end of the first shelf, or of the last of the later ones.
use Rattle.std.proofs.Common.{◌-◌, refl, arith}
use Rattle.node_tree.proofs.ShelfLemmas.{read_at}
use Rattle.node_tree.proofs.shelves.Shelves.end.Goals as goal

pub returns-then-count-eq0-clause-spot : goal.returns-then-count-eq0-clause-spot
returns-then-count-eq0-clause-spot c = record { shelf = c.args.self.now.first; is = refl; fits = omega (arith, c.args.self.now.first.ok) }

pub returns-clause-spot : goal.returns-clause-spot
returns-clause-spot c =
    let later = c.args.self.now.later in
    let s = c.index.result.now in
    record {
      shelf = s;
      is = read_at later.items (c.len-count.result - 1) s (omega (arith, later.ok)) c.index.ensures;
      fits = omega (arith, s.ok);
    }
