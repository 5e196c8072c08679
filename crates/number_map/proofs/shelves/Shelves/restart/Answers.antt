-- One shelf more starts where it is to.
use Rattle.std.proofs.Common.{ℕ, ◌<◌, List, length, slice_set, ap, refl, sym, ◌∙◌, arith}
use Rattle.number_map.specs.declared.shelves.Shelf.{Shelf}
use Rattle.number_map.specs.Shelves.{numbers_in}
use Rattle.number_map.proofs.ShelfLemmas.{read_at, length-around, length-next, set_at, take_set, length_set, set-same, starts-turn, starts-all}
use Rattle.number_map.proofs.shelves.Shelves.restart.Goals as goal

pub overflow_add-before : goal.overflow_add-before
overflow_add-before c =
    let ss = c.loop-k.self.items.items in
    let s = c.index_mut-shelf.result.now in
    let at = read_at ss c.loop-k.k s (omega arith) c.index_mut-shelf.ensures.value in
    let parts = length-around ss c.loop-k.k s at in
    let same = ap (λ (l : List ℕ). length l) c.loop-k.invariant.same in
    omega (arith, parts, same, c.loop-k.invariant.before, c.requires.counted, s.numbers.ok)

pub loop-k-preserved : goal.loop-k-preserved
loop-k-preserved c =
    let ss = c.loop-k.self.items.items in
    let k = c.loop-k.k in
    let s = c.index_mut-shelf.result.now in
    let low : k < length ss = omega arith in
    let at = read_at ss k s low c.index_mut-shelf.ensures.value in
    let t : Shelf = record { serial = s.serial; start = c.loop-k.before; numbers = s.numbers } in
    let next = length-next (slice_set ss k t) k t (set_at ss k t low) in
    let front = ap (λ (l : List Shelf). length (numbers_in l)) (take_set ss k k t (omega arith)) in
    record {
      same = set-same ss k s t at refl ∙ c.loop-k.invariant.same;
      len = c.loop-k.invariant.len;
      count = length_set ss k t ∙ c.loop-k.invariant.count;
      before = omega (arith, next, front, c.loop-k.invariant.before, s.numbers.ok);
      starts = starts-turn ss k t low c.loop-k.invariant.before c.loop-k.invariant.starts;
    }

pub returns : goal.returns
returns c =
    let ss = c.loop-k.self.items.items in
    let all = ap (λ (l : List ℕ). length l) c.loop-k.invariant.same in
    record {
      same = c.loop-k.invariant.same;
      counted = record {
        all = c.loop-k.invariant.len ∙ c.requires.counted ∙ sym all;
        starts = starts-all ss c.loop-k.k (omega arith) c.loop-k.invariant.starts;
      };
    }
