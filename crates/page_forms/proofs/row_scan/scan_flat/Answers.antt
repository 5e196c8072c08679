use Rattle.node_tree.specs.Nodes.{nodes_of}
use Rattle.page_forms.proofs.RowsBelow.{flat_spelt}
use Rattle.page_forms.proofs.row_scan.scan_flat.Goals as goal

pub returns : goal.returns
returns c =
    flat_spelt c.in_ok-up.up c.scan_below.new.ahead.up c.args.reader.now c.begin_row.new.reader c.scan_below.new.reader
    c.scan_below.new.ahead.last (nodes_of c.in_ok-nodes.nodes.items) c.in_ok-up.ensures c.in_ok-nodes.ensures.spelt c.in-None.is
