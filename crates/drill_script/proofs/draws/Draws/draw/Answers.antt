use Rattle.std.proofs.Common.{◌*◌, ◌/◌, ◌%◌, ap}
use Rattle.drill_script.specs.Draws.{next_number, drawn}
use Rattle.drill_script.proofs.DrawLemmas.{mod-within}
use Rattle.drill_script.proofs.draws.Draws.draw.Goals as goal

pub returns-clause-drawn : goal.returns-clause-drawn
unfolding next_number drawn
returns-clause-drawn c =
    ap (λ k. k / 8589934592 % c.args.limit) (mod-within (c.args.self.now.at * 6364136223846793005) 1442695040888963407 18446744073709551616)

pub returns-clause-at : goal.returns-clause-at
unfolding next_number
returns-clause-at c = mod-within (c.args.self.now.at * 6364136223846793005) 1442695040888963407 18446744073709551616
