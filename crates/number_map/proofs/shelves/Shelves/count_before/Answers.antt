-- By the shelf before.
use Rattle.std.proofs.Common.{◌≡◌, ◌+◌, ◌-◌, length, take, ap, arith}
use Rattle.number_map.specs.Shelves.{numbers_in}
use Rattle.number_map.proofs.ShelfLemmas.{read_at, length-around, length-next}
use Rattle.number_map.proofs.shelves.Shelves.count_before.Goals as goal

pub overflow_add-result : goal.overflow_add-result
overflow_add-result c =
    let ss = c.args.self.now.items.items in
    let s = c.index-shelf.result.now in
    let at = read_at ss (c.args.k - 1) s (omega arith) c.index-shelf.ensures in
    let start = c.requires.front (c.args.k - 1) (omega arith) s at in
    let parts = length-around ss (c.args.k - 1) s at in
    omega (arith, start, parts, c.requires.counted, s.numbers.ok)

pub returns : goal.returns
returns c =
    let ss = c.args.self.now.items.items in
    let s = c.index-shelf.result.now in
    let at = read_at ss (c.args.k - 1) s (omega arith) c.index-shelf.ensures in
    let start = c.requires.front (c.args.k - 1) (omega arith) s at in
    let next = length-next ss (c.args.k - 1) s at in
    let e : c.args.k - 1 + 1 ≡ c.args.k = omega arith in
    let same = ap (λ i. length (numbers_in (take i ss))) e in
    omega (arith, start, next, same, s.numbers.ok)
