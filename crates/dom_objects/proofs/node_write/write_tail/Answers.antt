use Rattle.std.proofs.Common.{refl}
use Rattle.dom_objects.specs.NodeRows.{told_by}
use Rattle.dom_objects.proofs.TokenLists.{tail_written}
use Rattle.dom_objects.proofs.node_write.write_tail.Goals as goal

pub returns-clause-ok : goal.returns-clause-ok
returns-clause-ok c =
    tail_written c.args.out.now.tokens
    (told_by c.args.row.now) c.local_name.ensures refl c.type_number.ensures refl c.in_ok-write_text_field.ensures.ok
    c.in_ok-write_whole_field.ensures.ok c.in_ok-name_field.ensures.ok
    c.in_ok-write_whole_field-2.ensures.ok c.in_ok-write_text_field-2.ensures.ok c.in_ok-parent_field.ensures.ok
    c.in_ok-end_object.ensures.ok
