-- The pair that is read in the shelf.
use Rattle.std.proofs.Common.{slice_get, sym, ap, ◌∙◌}
use Rattle.node_tree.specs.Shelves.{all_of, number_of, pairs_in}
use Rattle.node_tree.proofs.ShelfLemmas.{read_at, within_low, pair_in}
use Rattle.node_tree.proofs.shelves.Shelves.at.Goals as goal

pub returns : goal.returns
returns c =
    let all = all_of c.args.self.now in
    let k = number_of c.within-k.result.0 in
    let j = c.within-k.result.1 in
    let m = c.shelf-shelf.result.now in
    let p = c.index.result.now in
    let low = within_low all k j m c.shelf-shelf.ensures c.within-k.ensures.within in
    ap (slice_get (pairs_in c.args.self.now)) (sym c.within-k.ensures.place)
    ∙ pair_in all k m c.shelf-shelf.ensures j p (read_at m.items j p low c.index.ensures)
