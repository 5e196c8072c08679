use Rattle.dom_objects.specs.NodeRows.{told_by}
use Rattle.dom_objects.proofs.TokenLists.{head_written}
use Rattle.dom_objects.proofs.node_write.write_head.Goals as goal

pub returns-clause-ok : goal.returns-clause-ok
returns-clause-ok c =
    head_written c.args.out.now.tokens
    (told_by c.args.row.now) c.in_ok-begin_object.ensures.ok c.in_ok-attributes_field.ensures.ok c.in_ok-write_whole_field.ensures.ok
    c.in_ok-count_field.ensures.ok
