use Rattle.std.proofs.Common.{◌≡◌, [], ◌∷◌, ◌++◌, take}
use Rattle.std.specs.Prelude.{flat_map}
use Rattle.json.specs.Token.{begin_array}
use Rattle.dom_objects.proofs.TokenLists.{branch_tokens}
use Rattle.dom_objects.proofs.tree_write.+write_node.Given as goal

abbrev pub invariant-write_nodes-loop-tree : goal.invariant-write_nodes-loop-tree
invariant-write_nodes-loop-tree l = record {
  tokens : l.out.tokens ≡ (l.fn.out.tokens ++ begin_array ∷ []) ++ flat_map branch_tokens (take l.tree-index l.tree-items);
  before : l.out.before ≡ l.fn.out.before;
}
