use Rattle.std.proofs.Common.{◌≡◌, map, option_map, IfOk, subst, arith}
use Rattle.node_tree.specs.Nodes.{nodes_of}
use Rattle.page_tree.specs.Flat.{top_trees}
use Rattle.page_tree.proofs.RowLemmas.{nest-turn, nest-end, none_long}
use Rattle.page_tree.proofs.nested.nest.Goals as goal

pub loop-row-preserved : goal.loop-row-preserved
loop-row-preserved c =
    nest-turn c.loop-row.rows.items c.pop.new.self.items c.in-Some.row c.loop-row.stack c.put_under.new.stack _ c.len.result
    c.in-Some.ensures.items (c.in_ok-put_under.ensures {u = tt}) (omega (arith, c.len.ensures, c.pop.new.self.ok)) c.loop-row.invariant

pub returns : goal.returns
returns c =
    subst (λ ps. IfOk c.tops.result (λ o. option_map (λ v. nodes_of v.items) o ≡ top_trees ps))
    (nest-end c.loop-row.rows.items c.args.rows.items c.loop-row.stack
    (none_long c.loop-row.rows.items (omega (arith, c.in_default.ensures.cases.0, c.loop-row.rows.ok))) c.loop-row.invariant)
    c.tops.ensures
