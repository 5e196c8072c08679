-- The node is unopened no longer, and what is below it was counted.
use Rattle.std.proofs.Common.{arith}
use Rattle.panels.specs.Numbers.{numbers_in}
use Rattle.panels.proofs.CountLemmas.{numbers_opened}
use Rattle.panels.proofs.numbers.Tally.open.Goals as goal

pub returns : goal.returns
returns c = λ before t was yes.
    numbers_opened c.args.node before c.args.mirror.now t.was t.is t.turns (numbers_in c.args.self.now)
    (numbers_in c.count_children.new.tally) c.in-Some.unopened was (omega (arith, c.in-Some.ensures))
    (c.in_ok-count_children.ensures {u = tt})
