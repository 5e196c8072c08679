use Rattle.std.proofs.Common.{sym, ◌∙◌}
use Rattle.node_tree.specs.Nodes.{nodes_of}
use Rattle.page_tree.proofs.RowLemmas.{kid-pushed, kid-next, kids-ended, kid-none}
use Rattle.page_tree.proofs.nested.Stack.kids.Goals as goal

pub loop-form-preserved : goal.loop-form-preserved
loop-form-preserved c = record {
  kids = kid-pushed c.args.i c.loop-form.kids.items _ c.in-Some.form c.loop-form.self c.take.new.self _ c.in_ok-push.ensures.items
      c.in-Some.ensures c.loop-form.invariant.kids;
  others = sym (kid-next c.args.i c.in-Some.form c.loop-form.self c.take.new.self c.in-Some.ensures).1 ∙ c.loop-form.invariant.others;
}

pub returns-clause-kids : goal.returns-clause-kids
returns-clause-kids c =
    kids-ended c.args.i (nodes_of c.loop-form.kids.items) c.loop-form.self _ (c.in_default.ensures {u = tt}).0 c.loop-form.invariant.kids
