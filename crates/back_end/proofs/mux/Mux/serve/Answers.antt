-- A frame that loads a page asks something, so it is the root's.
use Rattle.std.proofs.Common.{◌≡◌, ◌++◌, subst}
use Rattle.std.specs.Result.{OnOk}
use Rattle.session_runs.specs.World.{Stepped}
use Rattle.back_end.specs.Pairs.{Pair}
use Rattle.back_end.specs.PairSeats.{PairStandsFor}
use Rattle.back_end.proofs.CommandRoutes.{load-routed}
use Rattle.back_end.proofs.mux.Mux.serve.Goals as goal

pub returns-in-Some-clause-stands : goal.returns-in-Some-clause-stands
returns-in-Some-clause-stands c = λ p stands.
    subst (λ (done : Stepped Pair). OnOk c.serve_root.result (PairStandsFor c.serve_root.new.self c.serve_root.new.side done.state))
    (load-routed c.args.own c.args.bytes.now p _ c.in-Some.ensures.known c.in-Some.ensures.asks.asks)
    (c.serve_root.ensures.stands p stands)

pub returns-in-Some-clause-sent : goal.returns-in-Some-clause-sent
returns-in-Some-clause-sent c = λ p stands.
    subst (λ (done : Stepped Pair). OnOk c.serve_root.result (c.serve_root.new.out.items ≡ c.args.out.now.items ++ done.sent))
    (load-routed c.args.own c.args.bytes.now p _ c.in-Some.ensures.known c.in-Some.ensures.asks.asks)
    (c.serve_root.ensures.sent p stands)
