-- The end of the last shelf.
use Rattle.std.proofs.Common.{ℕ, suc, ◌-◌, List, length, ap, arith}
use Rattle.std.proofs.lemmas.List.{drop_all}
use Rattle.number_map.specs.declared.shelves.Shelf.{Shelf}
use Rattle.number_map.specs.Shelves.{numbers_in}
use Rattle.number_map.proofs.ShelfLemmas.{read_at, length-around}
use Rattle.number_map.proofs.shelves.Shelves.spot.Goals as goal

pub returns-clause-spot : goal.returns-clause-spot
returns-clause-spot c =
    let ss = c.begin.new.self.items.items in
    let k = c.len-k.result - 1 in
    let s = c.index.result.now in
    let some = c.in_ok-begin.ensures.some in
    let at = read_at ss k s (omega (arith, some)) c.index.ensures in
    let parts = length-around ss k s at in
    let none = ap (λ (l : List Shelf). length (numbers_in l)) (drop_all (suc k) ss (omega (arith, some))) in
    let all = ap (λ (l : List ℕ). length l) c.in_ok-begin.ensures.same in
    record {
      shelf = s;
      is = at;
      fits = omega (arith, s.numbers.ok);
      before = omega (arith, parts, none, all, c.requires.inside, c.requires.counted.all, s.numbers.ok);
    }
