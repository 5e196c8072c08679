-- The ids of one node more, and of all of them.
use Rattle.std.proofs.Common.{◌≡◌, ◌-◌, ◌++◌, ℕ, suc, refl, ap, ◌∙◌, arith}
use Rattle.node_tree.specs.Nodes.{Nodes}
use Rattle.node_tree.specs.Seen.{Seen, seen_id}
use Rattle.client_views.specs.Views.{keys}
use Rattle.front_mirror.specs.Tables.{table_trees}
use Rattle.front_mirror.proofs.WalkLemmas.{said_turn, said_end, keys-beside}
use Rattle.front_mirror.proofs.table.Table.+listing.Goals as goal

pub list_all-loop-i-preserved : goal.list_all-loop-i-preserved
list_all-loop-i-preserved t c = record {
  some = c.loop-i.invariant.some;
  listed = said_turn (λ (n : Nodes Seen). keys seen_id n) refl keys-beside c.args.self.now
      (c.args.levels - 1) c.args.roots.now c.loop-i.i c.at.result c.loop-i.ids.items c.list_one.new.ids.items _ c.at.ensures
      c.in_ok-list_one.ensures
      c.loop-i.invariant.listed;
}

pub list_all-returns : goal.list_all-returns
list_all-returns t c =
    let is : suc (c.args.levels - 1) ≡ c.args.levels = let h = c.loop-i.invariant.some in omega arith in
    said_end (λ (n : Nodes Seen). keys seen_id n) refl keys-beside c.args.self.now
    (c.args.levels - 1) c.args.roots.now c.loop-i.i c.loop-i.ids.items _
    (omega (arith, c.len-i-end.ensures, c.loop-i-test.false)) c.loop-i.invariant.listed
    ∙ ap (λ (l : ℕ). c.args.ids.now.items ++ keys seen_id (table_trees c.args.self.now l c.args.roots.now)) is
