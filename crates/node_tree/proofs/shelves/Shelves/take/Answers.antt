-- One pair less.
use Rattle.std.proofs.Common.{suc, List, length, subst, ap, arith}
use Rattle.node_tree.specs.Labels.{Pair}
use Rattle.node_tree.specs.Shelves.{all_of, number_of, place_of, pairs_in, IsWithin}
use Rattle.node_tree.proofs.ShelfLemmas.{within_place, length_removed}
use Rattle.node_tree.proofs.shelves.Shelves.take.Goals as goal

pub overflow_sub-self : goal.overflow_sub-self
overflow_sub-self c =
    let place = within_place (all_of c.args.self.now) (number_of c.args.k) c.args.j c.requires.within in
    omega (arith, place, c.requires.kept.count)

pub returns-in-Some-clause-kept : goal.returns-in-Some-clause-kept
returns-in-Some-clause-kept c =
    let all = all_of c.args.self.now in
    let k = suc c.in-Some.k in
    let within = subst (λ n. IsWithin all n c.args.j) (ap number_of c.in-Some.is) c.requires.within in
    let rest = ap (λ (l : List Pair). length l) c.take_later.ensures.rest in
    let less = length_removed (pairs_in c.args.self.now) (place_of all k c.args.j) (within_place all k c.args.j within) in
    record {
      count = omega (arith, rest, less, c.requires.kept.count, c.take_later.ensures.len);
      filled = c.take_later.ensures.filled;
    }
