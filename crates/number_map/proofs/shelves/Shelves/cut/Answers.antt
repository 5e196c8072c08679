-- The halves of the shelf.
use Rattle.std.proofs.Common.{◌≡◌, ℕ, ◌+◌, ◌/◌, List, ◌++◌, length, drop, slice_get, slice_set, Some, ap, sym, ◌∙◌, arith, take-append-drop}
use Rattle.number_map.specs.declared.shelves.Shelf.{Shelf}
use Rattle.number_map.specs.Shelves.{numbers_in}
use Rattle.number_map.proofs.ShelfLemmas.{read_at, one_at, inserted_before, length_inserted, cut-in}
use Rattle.number_map.proofs.shelves.Shelves.cut.Goals as goal

pub returns-clause-numbers : goal.returns-clause-numbers
returns-clause-numbers c =
    let ss = c.args.self.now.items.items in
    let k = c.args.k in
    let half = c.len-len.result / 2 in
    let m = c.index_mut.result.now in
    let low : Shelf = record { serial = m.serial; start = m.start; numbers = c.truncate.new.self } in
    let high : Shelf = record { serial = c.saturating_add-self.result; start = 0; numbers = c.in_ok-upper.upper } in
    let put = c.in_ok-insert.ensures.items in
    let more = ap (λ (l : List Shelf). length l) put in
    let long = length_inserted ss (k + 1) high (omega (arith, c.requires)) in
    let at : slice_get ss k ≡ Some m =
    sym (inserted_before ss (k + 1) k high (omega arith) (omega (arith, c.requires)))
    ∙ ap (λ (l : List Shelf). slice_get l k) (sym put)
    ∙ read_at c.insert.new.self.items k m (omega (arith, c.requires, more, long)) c.index_mut.ensures.value
    in
    let same = one_at ss k c.index-2.result.now m (read_at ss k c.index-2.result.now c.requires c.index-2.ensures) at in
    let upper : c.in_ok-upper.upper.items ≡ drop half m.numbers.items =
    c.in_ok-upper.ensures ∙ c.numbers_from.ensures
    ∙ ap (λ (l : List ℕ). drop half l) (c.as_slice.ensures.value ∙ ap (λ (s : Shelf). s.numbers.items) same)
    in
    ap (λ (l : List Shelf). numbers_in (slice_set l k low)) put
    ∙ cut-in ss k m low high at ((λ i. c.truncate.ensures.items i ++ upper i) ∙ take-append-drop half m.numbers.items)
