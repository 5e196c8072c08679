use Rattle.std.proofs.Common.{sym, ap, ◌∙◌}
use Rattle.dom_objects.proofs.AttributeLists.{read_on, odd}
use Rattle.dom_objects.proofs.node_read.attributes_of.Goals as goal

pub returns-else-is_empty : goal.returns-else-is_empty
returns-else-is_empty c = sym c.loop-rest.invariant ∙ ap (read_on c.loop-rest.pairs)
    (odd c.loop-rest.rest.now c.in_default.len_below (sym c.is_empty.ensures ∙ c.if-is_empty.false))
