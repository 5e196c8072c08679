-- The number comes into its shelf, which may be cut.
use Rattle.std.proofs.Common.{◌≡◌, ℕ, List, length, slice_set, ap, sym, refl, ◌∙◌, arith}
use Rattle.std.specs.List.{insert}
use Rattle.number_map.specs.declared.shelves.Shelf.{Shelf}
use Rattle.number_map.specs.Shelves.{numbers_in}
use Rattle.number_map.proofs.RowLemmas.{on_err}
use Rattle.number_map.proofs.ShelfLemmas.{at_low, spot-at, spot-fits, put-in, set-same, take_set, length_set, length_inserted}
use Rattle.number_map.proofs.ShelfLemmas.{starts-front, starts-same}
use Rattle.number_map.proofs.shelves.Shelves.insert.Goals as goal

pub returns-in_err-insert-clause-kept : goal.returns-in_err-insert-clause-kept
returns-in_err-insert-clause-kept c =
    let ss = c.spot.new.self.items.items in
    let k = c.in_ok-spot.spot.0 in
    let m = c.index_mut.result.now in
    let t : Shelf = record { serial = m.serial; start = m.start; numbers = c.insert.new.self } in
    let at = spot-at ss c.args.place k c.in_ok-spot.spot.1 m c.index_mut.ensures.value c.in_ok-spot.ensures.spot in
    on_err c.from_residual-in_err-insert.result (numbers_in (slice_set ss k t) ≡ numbers_in c.args.self.now.items.items)
    (set-same ss k m t at c.in_err-insert.ensures.items ∙ c.in_ok-spot.ensures.same)

pub returns-in_err-insert-clause-counted : goal.returns-in_err-insert-clause-counted
returns-in_err-insert-clause-counted c =
    let ss = c.spot.new.self.items.items in
    let k = c.in_ok-spot.spot.0 in
    let m = c.index_mut.result.now in
    let t : Shelf = record { serial = m.serial; start = m.start; numbers = c.insert.new.self } in
    let at = spot-at ss c.args.place k c.in_ok-spot.spot.1 m c.index_mut.ensures.value c.in_ok-spot.ensures.spot in
    record {
      all = c.in_ok-spot.ensures.counted.all
          ∙ ap (λ (l : List ℕ). length l) (sym (set-same ss k m t at c.in_err-insert.ensures.items));
      starts = starts-same ss k m t at c.in_err-insert.ensures.items refl c.in_ok-spot.ensures.counted.starts;
    }

pub cut-requires : goal.cut-requires
cut-requires c =
    let ss = c.spot.new.self.items.items in
    let k = c.in_ok-spot.spot.0 in
    let m = c.index_mut.result.now in
    let t : Shelf = record { serial = m.serial; start = m.start; numbers = c.insert.new.self } in
    let p = c.in_ok-spot.ensures.spot in
    omega (arith, length_set ss k t, at_low ss k p.shelf p.is)

pub restart-requires-clause-front : goal.restart-requires-clause-front
restart-requires-clause-front c =
    let ss = c.spot.new.self.items.items in
    let k = c.in_ok-spot.spot.0 in
    let m = c.index_mut.result.now in
    let t : Shelf = record { serial = m.serial; start = m.start; numbers = c.insert.new.self } in
    starts-front ss c.cut.new.self.items.items k (c.cut.ensures.front ∙ take_set ss k k t (omega arith))
    c.in_ok-spot.ensures.counted.starts

pub restart-requires-clause-counted : goal.restart-requires-clause-counted
restart-requires-clause-counted c =
    let ss = c.spot.new.self.items.items in
    let k = c.in_ok-spot.spot.0 in
    let j = c.in_ok-spot.spot.1 in
    let m = c.index_mut.result.now in
    let t : Shelf = record { serial = m.serial; start = m.start; numbers = c.insert.new.self } in
    let p = c.in_ok-spot.ensures.spot in
    let all = ap (λ (l : List ℕ). length l) (c.cut.ensures.numbers
    ∙ put-in ss k j c.args.place c.args.number m t (spot-at ss c.args.place k j m c.index_mut.ensures.value p)
    (spot-fits ss c.args.place k j m c.index_mut.ensures.value p) p.before c.in_ok-insert.ensures.items) in
    let same = ap (λ (l : List ℕ). length l) c.in_ok-spot.ensures.same in
    let more = length_inserted (numbers_in ss) c.args.place c.args.number (omega (arith, same, c.requires.inside)) in
    omega (arith, all, same, more, c.requires.counted.all, c.cut.ensures.len)

pub returns-clause-put : goal.returns-clause-put
returns-clause-put c =
    let ss = c.spot.new.self.items.items in
    let k = c.in_ok-spot.spot.0 in
    let j = c.in_ok-spot.spot.1 in
    let m = c.index_mut.result.now in
    let t : Shelf = record { serial = m.serial; start = m.start; numbers = c.insert.new.self } in
    let p = c.in_ok-spot.ensures.spot in
    c.restart.ensures.same ∙ c.cut.ensures.numbers
    ∙ put-in ss k j c.args.place c.args.number m t (spot-at ss c.args.place k j m c.index_mut.ensures.value p)
    (spot-fits ss c.args.place k j m c.index_mut.ensures.value p) p.before c.in_ok-insert.ensures.items
    ∙ ap (λ (l : List ℕ). insert l c.args.place c.args.number) c.in_ok-spot.ensures.same
