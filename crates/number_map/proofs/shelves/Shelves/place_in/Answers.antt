-- The number is found in the shelf.
use Rattle.std.proofs.Common.{◌+◌, ap, ◌∙◌, arith}
use Rattle.number_map.specs.Places.{number_place}
use Rattle.number_map.proofs.ShelfLemmas.{read_at, found-in, length-around}
use Rattle.number_map.proofs.shelves.Shelves.place_in.Goals as goal

pub overflow_add-result : goal.overflow_add-result
overflow_add-result c =
    let ss = c.args.self.now.items.items in
    let s = c.index-shelf.result.now in
    let at = read_at ss c.loop-k.k s (omega arith) c.index-shelf.ensures in
    let start = c.requires.starts c.loop-k.k s at in
    let parts = length-around ss c.loop-k.k s at in
    omega (arith, start, parts, c.requires.all, s.numbers.ok)

pub returns-then-j-len : goal.returns-then-j-len
returns-then-j-len c =
    let ss = c.args.self.now.items.items in
    let s = c.index-shelf.result.now in
    let at = read_at ss c.loop-k.k s (omega arith) c.index-shelf.ensures in
    let start = c.requires.starts c.loop-k.k s at in
    found-in ss c.loop-k.k s at c.args.number c.scan-j.result (s.start + c.scan-j.result) (omega (arith, start))
    (c.scan-j.ensures ∙ ap (number_place c.args.number) c.as_slice.ensures.value)
    (omega (arith, s.numbers.ok))
