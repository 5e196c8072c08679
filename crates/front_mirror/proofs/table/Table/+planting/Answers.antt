-- A node comes in with what is below it, and one tree more.
use Rattle.std.proofs.Common.{◌+◌, ◌*◌, ◌<◌, ℕ, ap, subst, arith}
use Rattle.node_tree.specs.Nodes.{Nodes, Branch, nodes_of, node_count, branch_count}
use Rattle.dom_objects.specs.Told.{Told, seen_nodes}
use Rattle.front_mirror.specs.Shown.{shown_of}
use Rattle.front_mirror.specs.Tables.{table_slots}
use Rattle.front_mirror.proofs.TableLemmas.{plant_slots, on_ok}
use Rattle.front_mirror.proofs.table.Table.+planting.Goals as goal

pub plant-plant_all-requires : goal.plant-plant_all-requires
plant-plant_all-requires t c =
    let below = ap (λ (n : Nodes Told). node_count n) c.in_ok-slot.ensures.trees in
    let small : 2 * node_count (nodes_of c.in_ok-slot.trees.items) + 1 < 2 * branch_count c.args.tree = omega (arith, below) in
    (subst (λ (m : ℕ). 2 * node_count (nodes_of c.in_ok-slot.trees.items) + 1 < m) c.decreases small, tt)

pub plant-returns-clause-slots : goal.plant-returns-clause-slots
plant-returns-clause-slots t c =
    on_ok c.plant_all.result _ _
    (λ e. plant_slots c.args.above c.args.tree.row.seen (seen_nodes c.args.tree.children) (shown_of c.in_ok-slot.trees.items)
    (table_slots c.args.self.now) (table_slots c.put.new.self) (table_slots c.plant_all.new.self) c.in_ok-slot.slot c.tree.inside.id
    c.in_ok-slot.ensures.slot c.in_ok-put.ensures.slots (ap (λ (b : Branch Told). b.row.seen.id) c.tree.view_is)
    (ap (λ (n : Nodes Told). seen_nodes n) c.in_ok-slot.ensures.trees) e)
    c.plant_all.ensures.slots
