-- Nodes and lists of nodes are read as the grammar has them, token by token.
use Rattle.std.proofs.Common.{rules, ◌≡◌, ◌+◌, ◌-◌, ◌<◌, ◌∷◌, ap, subst, arith}
use Rattle.json.specs.Token.{end_object}
use Rattle.node_tree.specs.Nodes.{nodes_of}
use Rattle.node_tree.specs.declared.Kind.TheVariants.{Element}
use Rattle.page_forms.specs.Spelt.{ReadsAs}
use Rattle.page_forms.specs.NodeForms.{next_token, node_form, child_field}
use Rattle.page_forms.proofs.SpeltLists.{nodes_turn, nodes_end, value_shorter}
use Rattle.page_forms.proofs.SpeltObjects.{field_there, element_made, element_node, leaf_spelt}
use Rattle.page_forms.proofs.node_scan.+scan_node.Goals as goal

pub children_at-returns-in_ok-take_end_object-in-Children : goal.children_at-returns-in_ok-take_end_object-in-Children
children_at-returns-in_ok-take_end_object-in-Children t c =
    field_there (child_field c.args.levels)
    (next_token c.args.next) c.args.reader.now c.take_begin_array.new.reader c.scan_nodes.new.reader
    (end_object ∷ c.take_end_object.new.reader)
    (nodes_of c.in_ok-children-in-Children.children.items)
    (ap next_token c.in-Children.is) c.in_ok-take_begin_array-in-Children.ensures c.in_ok-children-in-Children.ensures
    c.in_ok-take_end_object-in-Children.ensures

pub scan_element-returns : goal.scan_element-returns
scan_element-returns t c = λ top.
    element_made c.args.levels top c.args.name.now c.in_ok-copied.field-0 c.empty.result c.args.reader.now
    (next_token c.in_ok-first.first ∷ c.take_next.new.reader)
    (next_token c.in_ok-attributes.next ∷ c.attributes_at.new.reader) c.children_at.new.reader c.in_ok-attributes.attributes
    (nodes_of c.in_ok-children.children.items) c.in_ok-copied.ensures c.empty.ensures
    c.in_ok-first.ensures c.in_ok-attributes.ensures c.in_ok-children.ensures

pub scan_node-returns-in_ok-form : goal.scan_node-returns-in_ok-form
scan_node-returns-in_ok-form t c =
    let less : c.args.levels - 1 + 1 ≡ c.args.levels = omega (arith, c.if-levels-eq0.false) in
    let is : c.in_ok-kind.kind ≡ Element = search rules in
    element_node c.args.levels (c.args.levels - 1) c.args.top c.in_ok-name.name.now c.in_ok-text.text.now c.in_ok-kind.kind
    c.in_ok-form.form less c.in_ok-take_begin_object.ensures c.in_ok-name.ensures
    c.in_ok-text.ensures c.in_ok-kind.ensures is (c.in_ok-form.ensures {u = tt} c.args.top)

pub scan_node-returns-in_ok-form-2 : goal.scan_node-returns-in_ok-form-2
scan_node-returns-in_ok-form-2 t c =
    let some : 0 < c.args.levels = omega (arith, c.if-levels-eq0.false) in
    leaf_spelt c.args.levels c.args.top c.in_ok-name.name.now c.in_ok-text.text.now c.in_ok-form-2.form some
    c.in_ok-take_begin_object.ensures c.in_ok-name.ensures c.in_ok-text.ensures
    c.in_ok-take_end_object.ensures (c.in_ok-form-2.ensures {u = tt} c.in_ok-name.name.now c.in_ok-kind.ensures)

pub scan_nodes-nodes-smaller : goal.scan_nodes-nodes-smaller
scan_nodes-nodes-smaller t c =
    value_shorter (node_form c.args.levels c.args.top) c.nodes.reader c.scan_node.new.reader c.in_ok-node.node
    (subst (λ ts. ReadsAs (node_form c.args.levels c.args.top) ts c.in_ok-node.node c.scan_node.new.reader) c.nodes-test.ensures.1
    c.in_ok-node.ensures)

pub scan_nodes-nodes-preserved : goal.scan_nodes-nodes-preserved
scan_nodes-nodes-preserved t c =
    nodes_turn c.args.levels c.args.top c.args.reader.now c.nodes.reader c.scan_node.new.reader c.nodes.nodes.items c.push.new.self.items
    c.in_ok-node.node c.nodes.invariant
    (subst (λ ts. ReadsAs (node_form c.args.levels c.args.top) ts c.in_ok-node.node c.scan_node.new.reader) c.nodes-test.ensures.1
    c.in_ok-node.ensures) c.in_ok-push.ensures.items

pub scan_nodes-returns : goal.scan_nodes-returns
scan_nodes-returns t c = nodes_end c.args.levels c.args.top c.args.reader.now c.nodes.reader c.take_end_array.new.self c.nodes.nodes.items
    c.nodes.invariant c.nodes-test.ensures
