-- The number that is read in the shelf.
use Rattle.number_map.proofs.ShelfLemmas.{read_at, spot-at, within-low, number-in}
use Rattle.number_map.proofs.shelves.Shelves.at.Goals as goal

pub returns : goal.returns
returns c =
    let ss = c.args.self.now.items.items in
    let k = c.shelf_at-k.result.0 in
    let j = c.shelf_at-k.result.1 in
    let m = c.index.result.now in
    let w = c.shelf_at-k.ensures in
    let x = c.index-2.result.now in
    number-in ss k m (spot-at ss c.args.place k j m c.index.ensures w.spot) j x c.args.place w.spot.before
    (read_at m.numbers.items j x (within-low ss c.args.place k j m c.index.ensures w) c.index-2.ensures)
