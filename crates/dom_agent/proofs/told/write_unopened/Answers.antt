use Rattle.dom_objects.specs.NodeRows.{told_by}
use Rattle.dom_agent.proofs.WritingLemmas.{unopened_written}
use Rattle.dom_agent.proofs.told.write_unopened.Goals as goal

pub returns-clause-ok : goal.returns-clause-ok
returns-clause-ok c = unopened_written c.args.parent c.args.id c.args.node.now
    (told_by c.node_row-row.result) c.args.out.now.tokens c.node_row-row.ensures c.in_ok-head.ensures.ok c.in_ok-tail.ensures.ok
