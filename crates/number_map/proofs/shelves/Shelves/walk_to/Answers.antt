-- The place lies in this shelf, or behind it, and so in one of them.
use Rattle.std.proofs.Common.{◌-◌, List, length, ap, arith}
use Rattle.std.proofs.lemmas.List.{take_all}
use Rattle.number_map.specs.declared.shelves.Shelf.{Shelf}
use Rattle.number_map.specs.Shelves.{numbers_in}
use Rattle.number_map.proofs.ShelfLemmas.{read_at, within-at, length-next}
use Rattle.number_map.proofs.shelves.Shelves.walk_to.Goals as goal

pub overflow_sub-j : goal.overflow_sub-j
overflow_sub-j c =
    let ss = c.args.self.now.items.items in
    let s = c.index-shelf.result.now in
    let at = read_at ss c.loop-k.k s (omega arith) c.index-shelf.ensures in
    let start = c.requires.counted.starts c.loop-k.k s at in
    omega (arith, start, c.loop-k.invariant)

pub returns-then-j-len : goal.returns-then-j-len
returns-then-j-len c =
    let ss = c.args.self.now.items.items in
    let s = c.index-shelf.result.now in
    let at = read_at ss c.loop-k.k s (omega arith) c.index-shelf.ensures in
    let start = c.requires.counted.starts c.loop-k.k s at in
    within-at ss c.loop-k.k s c.args.place (c.args.place - s.start) at start (omega (arith, start, c.loop-k.invariant))
    (omega (arith, s.numbers.ok))

pub loop-k-preserved : goal.loop-k-preserved
loop-k-preserved c =
    let ss = c.args.self.now.items.items in
    let s = c.index-shelf.result.now in
    let at = read_at ss c.loop-k.k s (omega arith) c.index-shelf.ensures in
    let start = c.requires.counted.starts c.loop-k.k s at in
    let next = length-next ss c.loop-k.k s at in
    omega (arith, start, next, c.loop-k.invariant, s.numbers.ok)

pub unreachable-requires : goal.unreachable-requires
unreachable-requires c =
    let ss = c.args.self.now.items.items in
    let all = ap (λ (l : List Shelf). length (numbers_in l)) (take_all c.loop-k.k ss (omega arith)) in
    omega (arith, all, c.loop-k.invariant, c.requires.inside)
