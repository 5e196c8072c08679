-- The place lies in this shelf, or behind it, and so in one of them.
use Rattle.std.proofs.Common.{◌≡◌, suc, ◌+◌, List, length, ap, refl, arith}
use Rattle.std.proofs.lemmas.List.{take_all}
use Rattle.node_tree.specs.Shelves.{Shelf, all_of, start_of, pairs_of}
use Rattle.node_tree.proofs.ShelfLemmas.{read_at, start_next}
use Rattle.node_tree.proofs.shelves.Shelves.within.Goals as goal

pub loop-k-init : goal.loop-k-init
loop-k-init c =
    let all = all_of c.args.self.now in
    let next = start_next all 0 c.args.self.now.first refl in
    omega (arith, next, c.args.self.now.first.ok)

pub loop-k-preserved : goal.loop-k-preserved
loop-k-preserved c =
    let all = all_of c.args.self.now in
    let s = c.index.result.now in
    let k = c.loop-k.k in
    let at = read_at c.args.self.now.later.items k s (omega arith) c.index.ensures in
    let next = start_next all (suc k) s at in
    let n : k + 1 ≡ suc k = omega arith in
    let more = ap (λ i. start_of all (suc i)) n in
    omega (arith, more, next, c.loop-k.invariant, s.ok)

pub unreachable-requires : goal.unreachable-requires
unreachable-requires c =
    let all = all_of c.args.self.now in
    let whole = ap (λ (l : List Shelf). length (pairs_of l)) (take_all (suc c.loop-k.k) all (omega arith)) in
    omega (arith, whole, c.loop-k.invariant, c.requires)

pub returns-then-i-len-clause-within : goal.returns-then-i-len-clause-within
returns-then-i-len-clause-within c =
    record { shelf = c.args.self.now.first; is = refl; low = omega (arith, c.args.self.now.first.ok) }

pub returns-then-left-len-clause-within : goal.returns-then-left-len-clause-within
returns-then-left-len-clause-within c =
    let s = c.index.result.now in
    record {
      shelf = s;
      is = read_at c.args.self.now.later.items c.loop-k.k s (omega arith) c.index.ensures;
      low = omega (arith, s.ok);
    }
