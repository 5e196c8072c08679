-- The halves of the shelf.
use Rattle.std.proofs.Common.{List, ◌++◌, ap}
use Rattle.node_tree.specs.Labels.{Pair}
use Rattle.node_tree.proofs.ShelfLemmas.{cut_pairs, cut_filled}
use Rattle.node_tree.proofs.shelves.Shelves.cut_later.Goals as goal

pub returns-clause-pairs : goal.returns-clause-pairs
returns-clause-pairs c =
    ap (λ (l : List Pair). c.args.self.now.first.items ++ l)
    (cut_pairs c.args.self.now.later.items c.reserve.new.self.items c.insert.new.self.items c.args.k c.index_mut.result.now
    c.upper_half.new.shelf c.in_ok-upper.upper (c.in_ok-reserve.ensures {u = tt}).items c.requires.shelf c.index_mut.ensures.value
    (c.in-Ok.ensures {u = tt}).items
    (c.in_ok-upper.ensures {u = tt}).halves)

pub returns-clause-filled : goal.returns-clause-filled
returns-clause-filled c =
    cut_filled c.args.self.now.later.items c.reserve.new.self.items c.insert.new.self.items c.args.k c.index_mut.result.now
    c.upper_half.new.shelf c.in_ok-upper.upper (c.in_ok-reserve.ensures {u = tt}).items c.requires.shelf c.index_mut.ensures.value
    (c.in-Ok.ensures {u = tt}).items c.requires.filled
    (c.in_ok-upper.ensures {u = tt}).lower (c.in_ok-upper.ensures {u = tt}).upper
