-- The pair comes into a later shelf, or not.
use Rattle.std.proofs.Common.{◌≡◌, slice_set, ◌∷◌}
use Rattle.node_tree.specs.Shelves.{pairs_of, pairs_in}
use Rattle.node_tree.proofs.ShelfLemmas.{on_err, later_put, later_longer, later_same, later_kept}
use Rattle.node_tree.proofs.shelves.Shelves.put.Goals as goal

pub returns-in_err-insert-in-Some-clause-err : goal.returns-in_err-insert-in-Some-clause-err
returns-in_err-insert-in-Some-clause-err c =
    on_err c.from_residual-in_err-insert-in-Some.result
    (pairs_of (c.args.self.now.first ∷ slice_set c.args.self.now.later.items c.in-Some.k c.insert-in-Some.new.self)
    ≡ pairs_in c.args.self.now)
    (later_same c.args.self.now.first c.args.self.now.later.items c.args.k c.in-Some.k c.args.j c.in-Some.is c.index_mut.result.now
    c.index_mut.ensures.value c.insert-in-Some.new.self c.requires.spot
    (c.in_err-insert-in-Some.ensures {u = tt}).items)

pub returns-in_err-insert-in-Some-clause-filled : goal.returns-in_err-insert-in-Some-clause-filled
returns-in_err-insert-in-Some-clause-filled c =
    later_kept c.args.self.now.first c.args.self.now.later.items c.args.k c.in-Some.k c.args.j c.in-Some.is c.index_mut.result.now
    c.index_mut.ensures.value c.insert-in-Some.new.self c.requires.spot
    (c.in_err-insert-in-Some.ensures {u = tt}).items c.requires.filled

pub returns-in_ok-insert-in-Some-clause-ok : goal.returns-in_ok-insert-in-Some-clause-ok
returns-in_ok-insert-in-Some-clause-ok c =
    later_put c.args.self.now.first c.args.self.now.later.items c.args.k c.in-Some.k c.args.j c.in-Some.is c.index_mut.result.now
    c.index_mut.ensures.value c.insert-in-Some.new.self c.args.pair c.requires.spot
    (c.in_ok-insert-in-Some.ensures {u = tt}).items

pub returns-in_ok-insert-in-Some-clause-filled : goal.returns-in_ok-insert-in-Some-clause-filled
returns-in_ok-insert-in-Some-clause-filled c =
    later_longer c.args.self.now.first c.args.self.now.later.items c.args.k c.in-Some.k c.args.j c.in-Some.is c.index_mut.result.now
    c.index_mut.ensures.value c.insert-in-Some.new.self c.args.pair c.requires.spot
    (c.in_ok-insert-in-Some.ensures {u = tt}).items c.requires.filled
