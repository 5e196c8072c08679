-- The first of the row is the last of the siblings before the node.
use Rattle.select_match.proofs.StepLemmas.{last-alone, last-faces}
use Rattle.select_match.proofs.stepped.pass_row.Goals as goal

pub of_row-requires : goal.of_row-requires
of_row-requires c = last-alone c.args.node.now c.args.before.items c.deref.result.now c.in-Some.first.now c.requires.before
    c.deref.ensures.value c.in-Some.ensures.value
