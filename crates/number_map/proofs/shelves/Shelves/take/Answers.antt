-- The number leaves its shelf.
use Rattle.std.proofs.Common.{ℕ, List, length, ap, ◌∙◌, arith}
use Rattle.number_map.specs.declared.shelves.Shelf.{Shelf}
use Rattle.number_map.specs.Shelves.{numbers_in}
use Rattle.number_map.proofs.PlaceLemmas.{number_taken}
use Rattle.number_map.proofs.ShelfLemmas.{spot-at, within-low, number-in, taken-out, take_set, length_removed, starts-front}
use Rattle.number_map.proofs.shelves.Shelves.take.Goals as goal

pub restart-requires-clause-front : goal.restart-requires-clause-front
restart-requires-clause-front c =
    let ss = c.args.self.now.items.items in
    let k = c.shelf_at-k.result.0 in
    let m = c.index_mut.result.now in
    let t : Shelf = record { serial = m.serial; start = m.start; numbers = c.remove-number.new.self } in
    starts-front ss c.drop_empty.new.self.items.items k (c.drop_empty.ensures.front ∙ take_set ss k k t (omega arith))
    c.requires.counted.starts

pub restart-requires-clause-counted : goal.restart-requires-clause-counted
restart-requires-clause-counted c =
    let ss = c.args.self.now.items.items in
    let k = c.shelf_at-k.result.0 in
    let j = c.shelf_at-k.result.1 in
    let m = c.index_mut.result.now in
    let t : Shelf = record { serial = m.serial; start = m.start; numbers = c.remove-number.new.self } in
    let w = c.shelf_at-k.ensures in
    let left = ap (λ (l : List ℕ). length l) (c.drop_empty.ensures.numbers
    ∙ taken-out ss k j c.args.place m t (spot-at ss c.args.place k j m c.index_mut.ensures.value w.spot)
    (within-low ss c.args.place k j m c.index_mut.ensures.value w) w.spot.before c.remove-number.ensures.items) in
    let less = length_removed (numbers_in ss) c.args.place c.requires.inside in
    omega (arith, left, less, c.requires.counted.all, c.drop_empty.ensures.len)

pub returns-clause-was : goal.returns-clause-was
returns-clause-was c =
    let ss = c.args.self.now.items.items in
    let k = c.shelf_at-k.result.0 in
    let j = c.shelf_at-k.result.1 in
    let m = c.index_mut.result.now in
    let w = c.shelf_at-k.ensures in
    number-in ss k m (spot-at ss c.args.place k j m c.index_mut.ensures.value w.spot) j c.remove-number.result c.args.place w.spot.before
    (number_taken m.numbers.items j c.remove-number.result (within-low ss c.args.place k j m c.index_mut.ensures.value w)
    c.remove-number.ensures.value)

pub returns-clause-left : goal.returns-clause-left
returns-clause-left c =
    let ss = c.args.self.now.items.items in
    let k = c.shelf_at-k.result.0 in
    let j = c.shelf_at-k.result.1 in
    let m = c.index_mut.result.now in
    let t : Shelf = record { serial = m.serial; start = m.start; numbers = c.remove-number.new.self } in
    let w = c.shelf_at-k.ensures in
    c.restart.ensures.same ∙ c.drop_empty.ensures.numbers
    ∙ taken-out ss k j c.args.place m t (spot-at ss c.args.place k j m c.index_mut.ensures.value w.spot)
    (within-low ss c.args.place k j m c.index_mut.ensures.value w) w.spot.before c.remove-number.ensures.items
