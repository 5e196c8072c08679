-- Nodes and lists of nodes are read as the grammar has them, down the value.
use Rattle.std.proofs.Common.{◌∙◌, ◌<◌, ◌*◌, suc, Vec, Global, Some, None, option_map, refl, sym, ap, rules, arith}
use Rattle.serde_json.specs.Data.{depth, items_depth}
use Rattle.serde_json.specs.View.{view, items_view}
use Rattle.serde_json.specs.declared.value.Value.{Value}
use Rattle.node_tree.specs.Nodes.{Branch, nodes_of}
use Rattle.node_tree.specs.Labels.{Label}
use Rattle.page_tree.specs.declared.forms.NodeForm.{NodeForm}
use Rattle.page_tree.proofs.LoadLemmas.{form_made, children_in-depth, item-depth, read_turn, read_end}
use Rattle.page_tree.proofs.loads.+forms.Goals as goal

pub read_all-read_one-requires : goal.read_all-read_one-requires
read_all-read_one-requires t c =
    let same = ap (λ (v : Value). depth (view v)) c.v-item.is in
    let low = item-depth c.args.values.now c.loop-v.v-index c.v-item.result c.loop-v-test.true in
    let less : 2 * depth (view c.v-item.result) < suc (2 * items_depth (items_view c.args.values.now)) = omega arith in
    (search rules, tt)

pub read_all-loop-v-preserved : goal.read_all-loop-v-preserved
read_all-loop-v-preserved t c =
    let is_form = sym c.in-Some.is ∙ c.in_ok-form.ensures {u = tt} in
    let turn = read_turn c.args.top c.args.values.now c.loop-v.v-index c.v-item.result c.loop-v.forms.items c.in-Some.form _
    c.loop-v-test.true c.v-item.is is_form c.loop-v.invariant in
    rw (c.in_ok-push.ensures {u = tt}).items (turn)

pub read_all-returns : goal.read_all-returns
read_all-returns t c = read_end c.args.top c.args.values.now c.loop-v.v-index c.loop-v.forms.items _ c.loop-v-test.false c.loop-v.invariant

pub read_one-returns-in_default-children_of : goal.read_one-returns-in_default-children_of
read_one-returns-in_default-children_of t c =
    let is_label = sym c.in-Some.is ∙ c.in_ok-label.ensures {u = tt} in
    form_made c.args.top (view c.args.v.now) c.in-Some.label None None is_label c.in_default-children_of.ensures refl

pub read_one-read_all-requires : goal.read_one-read_all-requires
read_one-read_all-requires t c =
    let low = children_in-depth (view c.args.v.now) (items_view c.in-Some-children_of.values.now)
    (sym (c.in-Some-children_of.ensures {u = tt})) in
    let less : suc (2 * items_depth (items_view c.in-Some-children_of.values.now)) < 2 * depth (view c.args.v.now) = omega arith in
    (search rules, tt)

pub read_one-returns-in_default-2 : goal.read_one-returns-in_default-2
read_one-returns-in_default-2 t c =
    let is_label = sym c.in-Some.is ∙ c.in_ok-label.ensures {u = tt} in
    let are_read = ap (option_map (λ (v : Vec NodeForm Global). nodes_of v.items))
    (sym c.in_default-2.is) ∙ c.in_ok-children.ensures {u = tt} in
    form_made c.args.top (view c.args.v.now) c.in-Some.label (Some (items_view c.in-Some-children_of.values.now)) None is_label
    (c.in-Some-children_of.ensures {u = tt}) are_read

pub read_one-returns : goal.read_one-returns
read_one-returns t c =
    let is_label = sym c.in-Some.is ∙ c.in_ok-label.ensures {u = tt} in
    let are_read = ap (option_map (λ (v : Vec NodeForm Global). nodes_of v.items))
    (sym c.in-Some-2.is) ∙ c.in_ok-children.ensures {u = tt} in
    ap (λ (l : Label). let b : Branch Label = record { row = l; children = nodes_of c.in-Some-2.children.items } in Some b) c.label.view_is
    ∙ form_made c.args.top (view c.args.v.now) c.in-Some.label (Some (items_view c.in-Some-children_of.values.now))
    (Some (nodes_of c.in-Some-2.children.items)) is_label (c.in-Some-children_of.ensures {u = tt}) are_read
