-- So much was told of the front end that is meant.
use Rattle.std.proofs.Common.{◌∙◌, sym, ap}
use Rattle.pair_replay.specs.PairStarts.{with_told_held}
use Rattle.pair_replay.proofs.SameEnds.{seated-same}
use Rattle.pair_replay.proofs.two_fronts.TwoFronts.tell.Goals as goal

pub returns-then-second : goal.returns-then-second
returns-then-second g c =
    seated-same (record c.args.self.now { second_told = c.args.told }) _
    ∙ ap (λ second. with_told_held second c.args.told c.args.self.now) (sym c.if-second.true)

pub returns-else-second : goal.returns-else-second
returns-else-second g c =
    seated-same (record c.args.self.now { first_told = c.args.told }) _
    ∙ ap (λ second. with_told_held second c.args.told c.args.self.now) (sym c.if-second.false)
