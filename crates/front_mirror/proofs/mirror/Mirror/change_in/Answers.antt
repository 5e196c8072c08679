-- The edit, made in the table.
use Rattle.std.proofs.Common.{ℕ, ◌+◌, ◌≤◌, List, length, IsSome, sym, ap, subst, ◌∙◌}
use Rattle.front_mirror.specs.declared.table.Table.{Table}
use Rattle.std.specs.FinMap as map
use Rattle.node_tree.specs.Nodes.{Nodes}
use Rattle.node_tree.specs.Seen.{Seen, seen_id}
use Rattle.front_mirror.specs.Edits.{edit_change, with_changed}
use Rattle.front_mirror.specs.Sizes.{HasLowIds, IsCounted}
use Rattle.client_views.specs.Views.{IsMirror, keys}
use Rattle.front_mirror.proofs.EditLemmas.{low_of_edit}
use Rattle.front_mirror.specs.Tables.{table_slots, table_ids, tree_in}
use Rattle.front_mirror.proofs.EditCounts.{low_again, kept_again, tree_again, counted_again, clear_again}
use Rattle.front_mirror.proofs.EditTableLemmas.{edit_there, edit_suits, edit_lands}
use Rattle.front_mirror.proofs.KeptOrders.{nothing_counted, order_spliced}
use Rattle.front_mirror.proofs.mirror.Mirror.change_in.Goals as goal

pub change-requires-clause-there : goal.change-requires-clause-there
change-requires-clause-there c =
    subst (λ (t : Table). IsSome (table_slots t c.args.id)) (sym c.replace-table.ensures.value)
    (edit_there c.self.inside.table c.self.inside.roots c.args.self.now c.args.id c.args.edit c.self.invariant.kept c.self.view_is
    c.requires.fits c.requires.clear)

pub change-requires-clause-suits : goal.change-requires-clause-suits
change-requires-clause-suits c =
    λ slot at.
    edit_suits c.self.inside.table c.self.inside.roots c.args.self.now c.args.id c.args.edit c.self.invariant.kept c.self.view_is
    c.requires.fits c.requires.clear slot
    (ap (λ (t : Table). table_slots t c.args.id) (sym c.replace-table.ensures.value) ∙ at)

-- after want of memory it is empty
pub invariant_of-self : goal.invariant_of-self
invariant_of-self c =
    nothing_counted c.replace-table.new.dest c.replace-roots.new.dest c.replace-counts.new.dest c.replace-order.new.dest
    (λ k. ap (λ (t : Table). table_slots t k) c.replace-table.ensures.after ∙ c.new.ensures.slots k)
    (λ x. ap (λ (t : Table). table_ids t x) c.replace-table.ensures.after ∙ c.new.ensures.ids x)
    (c.replace-roots.ensures.after ∙ c.new-2.ensures) (c.replace-order.ensures.after ∙ c.new-4.ensures)

pub invariant_of-self-in_err-splice : goal.invariant_of-self-in_err-splice
invariant_of-self-in_err-splice c =
    nothing_counted c.replace-table.new.dest c.replace-roots.new.dest c.replace-counts.new.dest c.replace-order.new.dest
    (λ k. ap (λ (t : Table). table_slots t k) c.replace-table.ensures.after ∙ c.new.ensures.slots k)
    (λ x. ap (λ (t : Table). table_ids t x) c.replace-table.ensures.after ∙ c.new.ensures.ids x)
    (c.replace-roots.ensures.after ∙ c.new-2.ensures) (c.replace-order.ensures.after ∙ c.new-4.ensures)

pub invariant_of-self-in_err-change : goal.invariant_of-self-in_err-change
invariant_of-self-in_err-change c =
    nothing_counted c.replace-table.new.dest c.replace-roots.new.dest c.replace-counts.new.dest c.replace-order.new.dest
    (λ k. ap (λ (t : Table). table_slots t k) c.replace-table.ensures.after ∙ c.new.ensures.slots k)
    (λ x. ap (λ (t : Table). table_ids t x) c.replace-table.ensures.after ∙ c.new.ensures.ids x)
    (c.replace-roots.ensures.after ∙ c.new-2.ensures) (c.replace-order.ensures.after ∙ c.new-4.ensures)

-- the list is of the tree
pub splice-requires : goal.splice-requires
splice-requires c =
    subst (λ (l : List ℕ). c.args.turn.now.place + c.args.turn.now.gone ≤ length l)
    (sym (c.replace-order.ensures.value ∙ c.self.invariant.ordered ∙ ap (λ (n : Nodes Seen). keys seen_id n) c.self.view_is))
    c.requires.turn.fits

-- the table and the map are of one tree
pub recount-requires : goal.recount-requires
recount-requires c = record {
  kept = kept_again c.self.inside.table c.replace-table.result c.self.inside.roots c.replace-roots.result c.self.invariant.kept
      c.replace-table.ensures.value c.replace-roots.ensures.value;
  fits = c.requires.fits;
  clear = clear_again c.args.self.now (tree_in c.replace-table.result c.replace-roots.result) c.args.id c.args.edit
      (tree_again c.self.inside.table c.replace-table.result c.self.inside.roots c.replace-roots.result c.replace-table.ensures.value
      c.replace-roots.ensures.value ∙ c.self.view_is)
      c.requires.clear;
  counted = counted_again c.self.inside.counts c.replace-counts.result (tree_in c.self.inside.table c.self.inside.roots)
      (tree_in c.replace-table.result c.replace-roots.result) c.self.invariant.counted c.replace-counts.ensures.value
      (tree_again c.self.inside.table c.replace-table.result c.self.inside.roots c.replace-roots.result c.replace-table.ensures.value
      c.replace-roots.ensures.value);
  low = low_again (tree_in c.self.inside.table c.self.inside.roots) (tree_in c.replace-table.result c.replace-roots.result)
      c.self.invariant.low
      (tree_again c.self.inside.table c.replace-table.result c.self.inside.roots c.replace-roots.result c.replace-table.ensures.value
      c.replace-roots.ensures.value);
}

pub invariant_of-self-2 : goal.invariant_of-self-2
invariant_of-self-2 c =
    let l = (edit_lands c.self.inside.table c.self.inside.roots c.args.self.now c.args.id c.args.edit c.self.invariant.kept c.self.view_is
    c.requires.fits c.requires.clear c.replace-table.result c.replace-roots.result c.replace-table.ensures.value
    c.replace-roots.ensures.value
    c.change.new.self (c.in_ok-change.ensures {u = tt})) in
    let t = tree_again c.self.inside.table c.replace-table.result c.self.inside.roots c.replace-roots.result c.replace-table.ensures.value
    c.replace-roots.ensures.value
    in
    record {
      kept = l.1;
      counted = subst (λ (n : Nodes Seen). IsCounted seen_id (map.get c.recount.new.counts) n)
          (ap (λ (n : Nodes Seen). with_changed c.args.id (edit_change c.args.edit) n) (t ∙ c.self.view_is) ∙ sym l.0)
          (c.in_ok-recount.ensures {u = tt});
      low = low_again (with_changed c.args.id (edit_change c.args.edit) c.args.self.now) (tree_in c.change.new.self c.replace-roots.result)
          (low_of_edit c.args.self.now c.args.id c.args.edit (subst IsMirror c.self.view_is c.self.invariant.kept.mirror) c.requires.fits
          c.requires.clear (subst HasLowIds c.self.view_is c.self.invariant.low))
          l.0;
      ordered = order_spliced c.args.turn.now c.args.self.now (with_changed c.args.id (edit_change c.args.edit) c.args.self.now)
          (tree_in c.change.new.self c.replace-roots.result) c.deref.result.now c.replace-order.result c.splice.new.self
          c.requires.turn
          (c.replace-order.ensures.value ∙ c.self.invariant.ordered ∙ ap (λ (n : Nodes Seen). keys seen_id n) c.self.view_is)
          c.deref.ensures.value (c.in_ok-splice.ensures {u = tt}) l.0;
    }

pub returns : goal.returns
returns c =
    (edit_lands c.self.inside.table c.self.inside.roots c.args.self.now c.args.id c.args.edit c.self.invariant.kept c.self.view_is
    c.requires.fits c.requires.clear c.replace-table.result c.replace-roots.result c.replace-table.ensures.value
    c.replace-roots.ensures.value
    c.change.new.self (c.in_ok-change.ensures {u = tt})).0
