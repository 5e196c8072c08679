use Rattle.std.proofs.Common.{sym, ◌∙◌}
use Rattle.number_map.proofs.RowLemmas.{row-below}
use Rattle.number_map.proofs.rows.Row.put.Goals as goal

pub returns-then-key-self-clause-far : goal.returns-then-key-self-clause-far
returns-then-key-self-clause-far c e = sym (c.begin.ensures c.args.key) ∙ row-below _ _ _ c.if-key-self.true
