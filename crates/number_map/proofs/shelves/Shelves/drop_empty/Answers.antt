-- A shelf without numbers goes.
use Rattle.std.proofs.Common.{List, length, take, ap, ◌∙◌, arith}
use Rattle.std.proofs.lemmas.List.{nil_from_length}
use Rattle.number_map.specs.declared.shelves.Shelf.{Shelf}
use Rattle.number_map.specs.Shelves.{numbers_in}
use Rattle.number_map.proofs.ShelfLemmas.{read_at, empty-out, take_removed, length_removed}
use Rattle.number_map.proofs.shelves.Shelves.drop_empty.Goals as goal

pub returns-clause-numbers : goal.returns-clause-numbers
returns-clause-numbers c =
    let ss = c.args.self.now.items.items in
    let s = c.index.result.now in
    ap (λ (l : List Shelf). numbers_in l) c.remove.ensures.items
    ∙ empty-out ss c.args.k s (read_at ss c.args.k s c.requires c.index.ensures)
    (nil_from_length s.numbers.items (omega (arith, s.numbers.ok)))

pub returns-clause-front : goal.returns-clause-front
returns-clause-front c =
    ap (λ (l : List Shelf). take c.args.k l) c.remove.ensures.items ∙ take_removed c.args.self.now.items.items c.args.k

pub returns-clause-known : goal.returns-clause-known
returns-clause-known c =
    let e = ap (λ (l : List Shelf). length l) c.remove.ensures.items in
    let h = length_removed c.args.self.now.items.items c.args.k c.requires in
    omega (arith, c.requires, e, h)
