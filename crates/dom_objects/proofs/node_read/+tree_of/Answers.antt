use Rattle.std.proofs.Common.{rules, ◌≡◌, true, option_map, ap, sym, ◌∙◌, arith, Bor, List, Vec, Global}
use Rattle.serde_json.specs.View.{view, items_view}
use Rattle.serde_json.specs.declared.value.Value.{Value}
use Rattle.node_tree.specs.Nodes.{Branch, nodes_of}
use Rattle.dom_objects.specs.Told.{Told}
use Rattle.dom_objects.specs.NodeData.{tree_told, trees_of}
use Rattle.dom_objects.specs.Raw.{object_in}
use Rattle.dom_objects.proofs.TreesRead.{tree_of-childless, trees_turn, trees_end, read_shown, read_hidden, item_depth, shallower}
use Rattle.dom_objects.proofs.TreesRead.{Gives-error}
use Rattle.dom_objects.proofs.node_read.+tree_of.Goals as goal

pub tree_of-trees_of-requires : goal.tree_of-trees_of-requires
tree_of-trees_of-requires t c = (
  omega (
    arith,
    shallower (view c.args.value.now) (object_in c.in-Ok.raw) (items_view c.in-Some.values.now) c.in-Ok.ensures
        (ap (option_map (λ (xs : Bor (List Value)). items_view xs.now)) c.in-Some.is),
    c.decreases,
  ),
  tt,
)

pub tree_of-returns-in_ok-tree-in-Ok-trees_of : goal.tree_of-returns-in_ok-tree-in-Ok-trees_of
tree_of-returns-in_ok-tree-in-Ok-trees_of t c =
    let yes : c.tells.result ≡ true = search rules in
    read_shown c.args.manner c.args.top (view c.args.value.now) (object_in c.in-Ok.raw)
    (items_view c.in-Some.values.now) c.in-Ok-trees_of.trees c.in_ok-tree-in-Ok-trees_of.tree c.in-Ok.ensures
    (sym c.tells.ensures ∙ yes)
    (ap (option_map (λ (xs : Bor (List Value)). items_view xs.now)) c.in-Some.is) c.in-Ok-trees_of.ensures
    c.in_ok-tree-in-Ok-trees_of.ensures

pub tree_of-returns-in-Err-trees_of : goal.tree_of-returns-in-Err-trees_of
tree_of-returns-in-Err-trees_of t c =
    let yes : c.tells.result ≡ true = search rules in
    Gives-error {X = Vec (Branch Told) Global} (λ trees. nodes_of trees.items) (λ tree. tree) c.in-Err-trees_of.error
    (trees_of c.args.manner (items_view c.in-Some.values.now)) (tree_told c.args.manner c.args.top (view c.args.value.now))
    (tree_of-childless c.args.manner c.args.top (view c.args.value.now) (object_in c.in-Ok.raw)
    (items_view c.in-Some.values.now) c.in-Ok.ensures (sym c.tells.ensures ∙ yes)
    (ap (option_map (λ (xs : Bor (List Value)). items_view xs.now)) c.in-Some.is))
    c.in-Err-trees_of.ensures

pub tree_of-returns-in_ok-tree-in-None : goal.tree_of-returns-in_ok-tree-in-None
tree_of-returns-in_ok-tree-in-None t c =
    let yes : c.tells.result ≡ true = search rules in
    read_hidden c.args.manner c.args.top (view c.args.value.now) (object_in c.in-Ok.raw) c.in_ok-tree-in-None.tree c.in-Ok.ensures
    (sym c.tells.ensures ∙ yes)
    (ap (option_map (λ (xs : Bor (List Value)). items_view xs.now)) c.in-None.is) c.in_ok-tree-in-None.ensures

pub trees_of-tree_of-requires : goal.trees_of-tree_of-requires
trees_of-tree_of-requires t c = (
  omega (
    arith,
    item_depth c.args.values.now c.loop-value.value-index c.value-item.result c.loop-value-test.true c.value-item.is,
    c.decreases,
  ),
  tt,
)

pub trees_of-loop-value-preserved : goal.trees_of-loop-value-preserved
trees_of-loop-value-preserved t c =
    trees_turn c.args.manner c.loop-value.trees.items c.push.new.self.items c.in_ok-tree.tree c.args.values.now c.loop-value.value-index
    c.value-item.result c.loop-value-test.true c.value-item.is
    c.in_ok-push.ensures.items c.in_ok-tree.ensures c.loop-value.invariant

pub trees_of-returns : goal.trees_of-returns
trees_of-returns t c = trees_end c.args.manner c.loop-value.trees.items c.args.values.now c.loop-value.value-index c.loop-value-test.false
    c.loop-value.invariant
