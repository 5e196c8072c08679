-- The ids before the place, those that came, and those behind them.
use Rattle.std.proofs.Common.{◌≡◌, ℕ, ◌+◌, List, ◌++◌, take, drop, sym, ap, ◌∙◌}
use Rattle.front_mirror.specs.declared.orders.Shelf.{Shelf}
use Rattle.front_mirror.specs.Orders.{ids_in}
use Rattle.front_mirror.proofs.ShelfLemmas.{parts, joined, spliced_within}
use Rattle.front_mirror.proofs.orders.Shelves.splice.Goals as goal

pub returns : goal.returns
returns c =
    let start = c.shelf_at-start.result.0 in
    let front = c.shelf_at-start.result.1 in
    let ss = c.args.self.now.items.items in
    let old = c.in_ok-old.old.items in
    let left = c.take_out.new.self.items.items in
    let mid = c.extend_from_slice-3.new.self.items in
    let same = c.number_at-number.ensures in
    let first : c.ids_before.result.now ≡ take front old =
    c.ids_before.ensures ∙ ap (λ (l : List ℕ). take front l) c.deref-2.ensures.value
    in
    let last : c.ids_behind.result.now ≡ drop (front + c.args.gone) old =
    c.ids_behind.ensures ∙ ap (λ (l : List ℕ). drop (front + c.args.gone) l) c.deref-3.ensures.value
    in
    spliced_within front c.args.gone c.args.place (ids_in (take start ss)) old (ids_in (drop start left)) c.args.new.now mid (ids_in ss)
    (ids_in c.put_in.new.self.items.items) c.in_ok-old.ensures.enough c.shelf_at-start.ensures.before
    (sym (parts start ss) ∙ ap (λ (l : List ℕ). ids_in (take start ss) ++ l)
    (sym (c.in_ok-old.ensures.rest ∙ ap (λ (l : List Shelf). ids_in (drop start l)) same)))
    (c.in_ok-extend_from_slice-3.ensures.items
    ∙ ap (λ (l : List ℕ). l ++ c.ids_behind.result.now)
    (c.in_ok-extend_from_slice-2.ensures.items ∙ ap (λ (l : List ℕ). l ++ c.args.new.now)
    (c.in_ok-extend_from_slice.ensures.items ∙ ap (λ (l : List ℕ). l ++ c.ids_before.result.now) c.new-ids.ensures.items))
    ∙ (λ i. (first i ++ c.args.new.now) ++ last i))
    (joined start c.put_in.new.self.items.items ss (mid ++ ids_in (drop start left))
    (c.in_ok-put_in.ensures.front ∙ c.in_ok-old.ensures.front ∙ ap (λ (l : List Shelf). take start l) same)
    c.in_ok-put_in.ensures.rest)
