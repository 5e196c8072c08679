-- A row of a node by reference, and what it tells.
use Rattle.std.specs.Prelude.{false}
use Rattle.node_tree.specs.Labels.{holds}
use Rattle.dom_objects.specs.declared.node_row.NodeRow.{NodeRow}
use Rattle.dom_objects.specs.Told.{Told, hold_of}

-- a row as it is where no children are shown
abbrev pub unshown : Told → Told
unshown r = record {
  parent = r.parent;
  count = r.count;
  seen = record { id = r.seen.id; serial = r.seen.serial; label = r.seen.label; hold = hold_of false (holds r.seen.label.kind) r.count };
}

-- what a row of references tells where no children are shown; head and tail of a node do not turn on its children
abbrev pub told_by : NodeRow → Told
told_by r = record {
  parent = r.parent;
  count = r.count;
  seen = record {
    id = r.id;
    serial = r.serial;
    label = record { kind = r.kind; name = r.name.now; value = r.value.now; attributes = r.attributes.now };
    hold = hold_of false (holds r.kind) r.count;
  };
}
