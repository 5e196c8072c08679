-- One put in behind the last is last.
use Rattle.std.proofs.Common.{◌∙◌}
use Rattle.number_map.proofs.ShelfLemmas.{insert-last}
use Rattle.number_map.proofs.lists.NumberList.push.Goals as goal

pub returns-clause-ok : goal.returns-clause-ok
returns-clause-ok c =
    c.in_ok-insert.ensures.ok ∙ insert-last c.args.self.now c.len-len.result c.args.number c.len-len.ensures
