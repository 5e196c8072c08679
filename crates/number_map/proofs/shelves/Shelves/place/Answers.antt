-- The number is found in this shelf, or looked for behind it.
use Rattle.std.proofs.Common.{List, length, ap, ◌∙◌, arith}
use Rattle.std.proofs.lemmas.List.{take_all, drop_all}
use Rattle.number_map.specs.declared.shelves.Shelf.{Shelf}
use Rattle.number_map.specs.Places.{number_place}
use Rattle.number_map.specs.Shelves.{numbers_in}
use Rattle.number_map.proofs.ShelfLemmas.{read_at, first-in, first-turn, length-around}
use Rattle.number_map.proofs.shelves.Shelves.place.Goals as goal

pub overflow_add-result : goal.overflow_add-result
overflow_add-result c =
    let ss = c.args.self.now.items.items in
    let s = c.index-shelf.result.now in
    let at = read_at ss c.loop-k.k s (omega arith) c.index-shelf.ensures in
    let start = c.requires.starts c.loop-k.k s at in
    let parts = length-around ss c.loop-k.k s at in
    omega (arith, start, parts, c.requires.all, s.numbers.ok)

pub returns-then-j-len : goal.returns-then-j-len
returns-then-j-len c =
    let ss = c.args.self.now.items.items in
    let s = c.index-shelf.result.now in
    let at = read_at ss c.loop-k.k s (omega arith) c.index-shelf.ensures in
    let start = c.requires.starts c.loop-k.k s at in
    let is = first-in ss c.loop-k.k s at c.args.number c.scan-j.result (number_place c.args.number (numbers_in ss)) c.loop-k.invariant
    (c.scan-j.ensures ∙ ap (number_place c.args.number) c.as_slice.ensures.value) (omega (arith, s.numbers.ok)) in
    omega (arith, start, is)

pub loop-k-preserved : goal.loop-k-preserved
loop-k-preserved c =
    let ss = c.args.self.now.items.items in
    let s = c.index-shelf.result.now in
    let at = read_at ss c.loop-k.k s (omega arith) c.index-shelf.ensures in
    first-turn ss c.loop-k.k s at c.args.number c.scan-j.result (number_place c.args.number (numbers_in ss)) c.loop-k.invariant
    (c.scan-j.ensures ∙ ap (number_place c.args.number) c.as_slice.ensures.value) (omega (arith, s.numbers.ok))

pub returns : goal.returns
returns c =
    let ss = c.args.self.now.items.items in
    let all = ap (λ (l : List Shelf). length (numbers_in l)) (take_all c.loop-k.k ss (omega arith)) in
    let none = ap (λ (l : List Shelf). number_place c.args.number (numbers_in l)) (drop_all c.loop-k.k ss (omega arith)) in
    omega (arith, all, none, c.loop-k.invariant, c.requires.all)
