use Rattle.std.proofs.Common.{◌≤◌, List, sym, ap, ◌∙◌, subst, arith}
use Rattle.node_tree.specs.Nodes.{Branch, nodes_of, height}
use Rattle.dom_objects.specs.Told.{Told}
use Rattle.dom_objects.specs.NodeData.{tree_data, fits_nodes}
use Rattle.dom_objects.specs.Raw.{items_shown}
use Rattle.dom_objects.proofs.TokenLists.{branch_tokens}
use Rattle.dom_objects.proofs.ScannedTokens.{none_yet, branches_step, branches_over, branch_shorter, behind_read, scanned}
use Rattle.dom_objects.proofs.ScannedNodes.{fit_more, low_more}
use Rattle.dom_objects.proofs.scan.+scan_node.Goals as goal

pub scan_node-returns-clause-read : goal.scan_node-returns-clause-read
scan_node-returns-clause-read t c =
    scanned c.parts_of-parts.result
    (items_shown c.in_ok-children.children) c.in_ok-attributes.attributes c.in_ok-serial.serial c.in_ok-ahead.ahead.0 c.in_ok-ahead.ahead.1
    c.behind_of-behind.result
    (tree_data c.in_ok-tree.tree) _ c.parts_of-parts.ensures c.in_ok-tree.ensures.written c.in_ok-take_begin_object.ensures
    c.in_ok-attributes.ensures c.in_ok-serial.ensures c.in_ok-ahead.ensures
    c.in_ok-children.ensures.read
    (behind_read c.in_ok-names.names c.in_ok-value.value c.as_str.result.now c.in_ok-parent.parent c.behind_of-behind.result _
    c.as_str.ensures c.behind_of-behind.ensures c.in_ok-names.ensures c.in_ok-value.ensures c.in_ok-parent.ensures)

pub scan_nodes-trees-init : goal.scan_nodes-trees-init
scan_nodes-trees-init t c = record {
  read = none_yet branch_tokens c.args.reader.now _ c.in_ok-trees.trees.items c.in_ok-trees.ensures.items c.in_ok-take_begin_array.ensures;
  fits = ap (λ (l : List (Branch Told)). fits_nodes (nodes_of l)) c.in_ok-trees.ensures.items;
  shallow = subst (λ (l : List (Branch Told)). height (nodes_of l) ≤ c.args.levels) (sym c.in_ok-trees.ensures.items) (omega arith);
}

pub scan_nodes-trees-preserved : goal.scan_nodes-trees-preserved
scan_nodes-trees-preserved t c = record {
  read = branches_step c.args.reader.now _ _ c.trees.trees.items c.push.new.self.items c.in_ok-tree.tree c.trees.invariant.read
      (sym c.trees-test.ensures ∙ c.in_ok-tree.ensures.read) c.in_ok-push.ensures.items;
  fits = fit_more c.trees.trees.items c.push.new.self.items c.in_ok-tree.tree c.in_ok-push.ensures.items c.trees.invariant.fits
      c.in_ok-tree.ensures.fits;
  shallow = low_more c.args.levels c.trees.trees.items c.push.new.self.items c.in_ok-tree.tree c.in_ok-push.ensures.items
      c.trees.invariant.shallow c.in_ok-tree.ensures.shallow;
}

pub scan_nodes-trees-smaller : goal.scan_nodes-trees-smaller
scan_nodes-trees-smaller t c = branch_shorter _ _ c.in_ok-tree.tree (sym c.trees-test.ensures ∙ c.in_ok-tree.ensures.read)

pub scan_nodes-returns-clause-read : goal.scan_nodes-returns-clause-read
scan_nodes-returns-clause-read t c = branches_over c.args.reader.now _ _ c.trees.trees.items c.trees.invariant.read c.trees-test.ensures
