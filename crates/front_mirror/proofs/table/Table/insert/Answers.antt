use Rattle.std.proofs.Common.{subst}
use Rattle.node_tree.specs.Nodes.{Branch}
use Rattle.dom_objects.specs.Told.{Told}
use Rattle.front_mirror.specs.Tables.{TableTurned, with_child_id}
use Rattle.front_mirror.proofs.table.Table.insert.Goals as goal

pub returns : goal.returns
returns c =
    let old = c.args.self.now in
    let new = c.insert_child.new.self in
    record {
      mid = new;
      turned =
          subst (λ (n : Branch Told). TableTurned old new c.args.id (with_child_id c.args.previous n.row.seen.id))
          c.node.view_is c.in_ok-insert_child.ensures.slots;
      ids_are = c.in_ok-insert_child.ensures.ids;
      slots_are = c.in_ok-plant.ensures.slots;
      listing = c.in_ok-plant.ensures.ids;
    }
