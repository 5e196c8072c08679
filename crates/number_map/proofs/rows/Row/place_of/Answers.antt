use Rattle.std.proofs.Common.{◌≤◌, ◌+◌, length, arith}
use Rattle.number_map.proofs.RowLemmas.{row-below, row-behind}
use Rattle.number_map.proofs.rows.Row.place_of.Goals as goal

pub returns-then-key-self-clause-none : goal.returns-then-key-self-clause-none
returns-then-key-self-clause-none c = row-below _ _ _ c.if-key-self.true

pub returns-then-place-len-clause-none : goal.returns-then-place-len-clause-none
returns-then-place-len-clause-none c =
    let long : c.args.self.now.first + length c.args.self.now.numbers.items ≤ c.args.key =
    omega (arith, c.if-place-len.true, c.if-key-self.false, c.args.self.now.numbers.ok, c.len.ensures) in
    row-behind c.args.self.now.first c.args.self.now.numbers.items c.args.key long
