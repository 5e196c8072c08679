use Rattle.std.proofs.Common.{◌++◌, [], ◌∷◌, refl}
use Rattle.json.specs.Token.{begin_array}
use Rattle.dom_objects.proofs.TokenLists.{branches_end}
use Rattle.dom_objects.proofs.tree_write.+write_node.Goals as goal

pub write_nodes-returns-clause-ok : goal.write_nodes-returns-clause-ok
write_nodes-returns-clause-ok t c =
    branches_end c.args.out.now.tokens
    (c.args.out.now.tokens ++ begin_array
    ∷ []) c.loop-tree.out.tokens c.end_nodes.new.self.tokens c.deref-tree-items.result.now c.args.trees.now.items c.loop-tree.tree-index
    c.loop-tree-test.false c.deref-tree-items.ensures.value refl c.loop-tree.invariant.tokens c.in_ok-end_nodes.ensures.ok
