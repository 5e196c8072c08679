-- The pair leaves its shelf.
use Rattle.std.proofs.Common.{suc, List, ◌++◌, ap, ◌∙◌, arith}
use Rattle.node_tree.specs.Labels.{Pair}
use Rattle.node_tree.specs.Shelves.{all_of}
use Rattle.node_tree.proofs.ShelfLemmas.{read_at, within_shelf, within_low, pair_in, taken_out}
use Rattle.node_tree.proofs.shelves.Shelves.take_later.Goals as goal

pub returns-clause-pair : goal.returns-clause-pair
returns-clause-pair c =
    let all = all_of c.args.self.now in
    let k = suc c.args.k in
    let m = c.index_mut.result.now in
    let inside = within_shelf all k c.args.j c.requires.within in
    let at = read_at c.args.self.now.later.items c.args.k m (omega (arith, inside)) c.index_mut.ensures.value in
    let low = within_low all k c.args.j m at c.requires.within in
    pair_in all k m at c.args.j c.remove-pair.result
    (read_at m.items c.args.j c.remove-pair.result low c.remove-pair.ensures.value)

pub returns-clause-rest : goal.returns-clause-rest
returns-clause-rest c =
    let all = all_of c.args.self.now in
    let k = suc c.args.k in
    let m = c.index_mut.result.now in
    let inside = within_shelf all k c.args.j c.requires.within in
    let at = read_at c.args.self.now.later.items c.args.k m (omega (arith, inside)) c.index_mut.ensures.value in
    let low = within_low all k c.args.j m at c.requires.within in
    ap (λ (l : List Pair). c.args.self.now.first.items ++ l) c.drop_empty.ensures.pairs
    ∙ taken_out all k m c.remove-pair.new.self at c.args.j low c.remove-pair.ensures.items
