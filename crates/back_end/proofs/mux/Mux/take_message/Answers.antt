-- A mux that stands for some pair does so after a frame.
use Rattle.std.proofs.Math.Logic.{∥∥₁_map}
use Rattle.back_end.specs.Pairs.{Pair, pair_step}
use Rattle.back_end.specs.PairSeats.{PairStandsFor}
use Rattle.back_end.proofs.mux.Mux.take_message.Goals as goal

pub returns-clause-seated : goal.returns-clause-seated
returns-clause-seated c = λ alive.
    ∥∥₁_map (c.requires.seated c.if-self.false)
    (λ (x : ((p : Pair) × PairStandsFor c.args.self.now c.args.side.now p)).
    ((pair_step c.args.own c.args.bytes.now x.0).state, (c.in_ok-serve.ensures {u = tt}).stands x.0 x.1))

pub serve-requires-clause-seated : goal.serve-requires-clause-seated
serve-requires-clause-seated c = c.requires.seated c.if-self.false
