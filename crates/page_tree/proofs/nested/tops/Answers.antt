use Rattle.std.proofs.Common.{sym, ◌∙◌}
use Rattle.node_tree.specs.Nodes.{nodes_of}
use Rattle.page_tree.proofs.RowLemmas.{tops-some, tops-none}
use Rattle.page_tree.proofs.nested.tops.Goals as goal

pub returns-then-not-is_empty : goal.returns-then-not-is_empty
returns-then-not-is_empty c = tops-none c.args.stack.now c.kids.new.self (c.in_ok-trees.ensures {u = tt}).others
    (sym c.is_empty.ensures ∙ c.if-not-is_empty.true)

pub returns : goal.returns
returns c = tops-some c.args.stack.now (nodes_of c.in_ok-trees.trees.items) c.kids.new.self (c.in_ok-trees.ensures {u = tt}).kids
    (c.in_ok-trees.ensures {u = tt}).others (sym c.is_empty.ensures ∙ c.if-not-is_empty.false)
