-- A row, and what stands below it, is read as the grammar has it, token by token.
use Rattle.std.proofs.Common.{rules, ◌≡◌}
use Rattle.node_tree.specs.declared.Kind.TheVariants.{Element}
use Rattle.page_forms.specs.RowForms.{place}
use Rattle.page_forms.proofs.RowsBelow.{leaf_is, leaf_below, element_below, piled_turn}
use Rattle.page_forms.proofs.row_scan.+scan_row.Goals as goal

pub scan_row-returns-in_ok-copied-clause-spelt : goal.scan_row-returns-in_ok-copied-clause-spelt
scan_row-returns-in_ok-copied-clause-spelt t c =
    let is : c.in_ok-kind.kind ≡ Element = search rules in
    element_below c.args.ahead.now.up c.args.up c.args.ahead.now.last c.in_ok-name.name.now c.in_ok-text.text.now c.in_ok-kind.kind
    _ c.in_ok-attributes.attributes c.args.reader.now c.take_any_key.new.reader c.take_text.new.reader c.attributes_alone.new.reader
    (place c.pass_row.new.ahead c.pass_row.new.reader) (place c.scan_children.new.ahead c.scan_children.new.reader)
    c.requires.0 c.requires.1 c.in_ok-name.ensures c.in_ok-text.ensures c.in_ok-kind.ensures is c.in_ok-attributes.ensures
    (search rules) c.in_ok-pass_row.ensures.begun c.in_ok-pass_row.ensures.last c.in_ok-children.ensures.spelt

pub scan_row-returns-in_ok-pass_row-2-clause-spelt : goal.scan_row-returns-in_ok-pass_row-2-clause-spelt
scan_row-returns-in_ok-pass_row-2-clause-spelt t c =
    let other : c.in_ok-kind.kind ≡ Element → ⊥ = search rules in
    leaf_below c.args.ahead.now.up c.args.up c.args.ahead.now.last c.in_ok-name.name.now c.in_ok-text.text.now c.in_ok-kind.kind
    c.in_ok-form.form c.args.reader.now c.take_any_key.new.reader c.take_text.new.reader c.take_end_object.new.reader
    (place c.pass_row-else-kind-eq1.new.ahead c.pass_row-else-kind-eq1.new.reader)
    c.requires.0 c.requires.1 c.in_ok-name.ensures c.in_ok-text.ensures c.in_ok-take_end_object.ensures c.in_ok-kind.ensures
    (leaf_is c.in_ok-kind.kind c.in_ok-text.text.now c.in_ok-name.name.now _ c.in_ok-form.form c.in_ok-kind.ensures other
    c.in_ok-form.ensures) c.in_ok-pass_row-2.ensures.begun c.in_ok-pass_row-2.ensures.last

pub scan_below-rows-preserved : goal.scan_below-rows-preserved
scan_below-rows-preserved t c =
    piled_turn c.args.up c.len-from.result c.args.pile.now.items c.rows.pile.items c.push.new.self.items c.in_ok-node.node
    (place c.args.ahead.now c.args.reader.now) (place c.rows.ahead c.rows.reader) (place c.scan_row.new.ahead c.scan_row.new.reader)
    c.rows.invariant c.in_ok-node.ensures.spelt (search rules)
