-- The place lies in the shelf.
use Rattle.std.proofs.Common.{◌-◌, arith}
use Rattle.number_map.proofs.ShelfLemmas.{read_at, within-at}
use Rattle.number_map.proofs.shelves.Shelves.within.Goals as goal

pub returns-then-j-len : goal.returns-then-j-len
returns-then-j-len c =
    let ss = c.args.self.now.items.items in
    let s = c.index-shelf.result.now in
    let at = read_at ss c.args.k s (omega arith) c.index-shelf.ensures in
    within-at ss c.args.k s c.args.place (c.args.place - s.start) at (c.requires c.args.k s at) (omega arith) (omega (arith, s.numbers.ok))
