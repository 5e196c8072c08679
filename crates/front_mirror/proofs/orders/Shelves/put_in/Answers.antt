-- One shelf more is cut off.
use Rattle.std.proofs.Common.{ℕ, ◌-◌, List, ◌++◌, take, drop, ap, ◌∙◌}
use Rattle.front_mirror.specs.declared.orders.Shelf.{Shelf}
use Rattle.front_mirror.specs.Orders.{ids_in}
use Rattle.front_mirror.proofs.ShelfLemmas.{cut-rest}
use Rattle.front_mirror.proofs.orders.Shelves.put_in.Goals as goal

pub loop-ids-preserved : goal.loop-ids-preserved
loop-ids-preserved c =
    let start = c.args.start in
    let cut = c.len-cut.result - 128 in
    record {
      known = c.in_ok-put_shelf.ensures.known;
      front = c.in_ok-put_shelf.ensures.front ∙ ap (λ (l : List Shelf). take start l) c.next_number-other.ensures
          ∙ c.loop-ids.invariant.front;
      rest = cut-rest c.loop-ids.ids.items c.ids_behind-more.result.now c.truncate.new.self.items
          (ids_in (drop start c.next_number-other.new.self.items.items)) (ids_in (drop start c.put_shelf.new.self.items.items))
          (c.args.ids.items ++ ids_in (drop start c.args.self.now.items.items)) cut
          (c.ids_behind-more.ensures ∙ ap (λ (l : List ℕ). drop cut l) c.deref.ensures.value) c.truncate.ensures.items
          c.in_ok-put_shelf.ensures.rest
          (ap (λ (l : List Shelf). c.loop-ids.ids.items ++ ids_in (drop start l)) c.next_number-other.ensures
          ∙ c.loop-ids.invariant.rest);
    }
