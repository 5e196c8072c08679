use Rattle.std.proofs.Common.{sym, subst}
use Rattle.node_tree.specs.Nodes.{nodes_of}
use Rattle.media_rules.specs.declared.medium.Medium.{Medium}
use Rattle.page_forms.specs.Spelt.{ReadsAs}
use Rattle.page_forms.specs.PageForms.{page_form}
use Rattle.page_forms.proofs.SpeltObjects.{page_spelt}
use Rattle.page_forms.proofs.page_scan.scan_page.Goals as goal

pub returns-clause-spelt : goal.returns-clause-spelt
returns-clause-spelt c =
    subst (λ (m : Medium). ReadsAs page_form c.args.reader.now
    (record { nodes = nodes_of c.in_ok-nodes.nodes.items; medium = m; sheets = c.in_ok-sheets.sheets.items }) c.sheets_ahead.new.reader)
    (sym c.usual_medium-medium.ensures)
    (page_spelt c.args.reader.now c.take_begin_object.new.reader c.scan_first_field.new.reader c.sheets_ahead.new.reader
    (nodes_of c.in_ok-nodes.nodes.items) c.in_ok-sheets.sheets.items
    c.in_ok-take_begin_object.ensures c.in_ok-nodes.ensures c.in_ok-sheets.ensures)
