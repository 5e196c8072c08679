-- Without memory for a buffer nothing was read.
use Rattle.inspect_replay.specs.Served.{first_of}
use Rattle.inspect_replay.proofs.ServeEnds.{nothing-begun, nothing-rose}
use Rattle.inspect_replay.proofs.ReadLemmas.{no-reads}
use Rattle.inspect_replay.proofs.serve.serve_source.Goals as goal

pub returns-in_err-service-clause-served : goal.returns-in_err-service-clause-served
returns-in_err-service-clause-served g c = nothing-begun (first_of c.args.clients) c.from_residual.result
    (g.S.Source.left c.args.src.now) (g.K.Sink.taken c.args.out.now) c.from_residual.ensures.1

pub returns-in_err-buf-clause-served : goal.returns-in_err-buf-clause-served
returns-in_err-buf-clause-served g c = nothing-begun (first_of c.args.clients) c.from_residual-in_err-buf.result
    (g.S.Source.left c.args.src.now) (g.K.Sink.taken c.args.out.now) c.from_residual-in_err-buf.ensures.1

pub returns-in_err-buf-clause-cause : goal.returns-in_err-buf-clause-cause
returns-in_err-buf-clause-cause g c = nothing-rose c.from_residual-in_err-buf.result (g.S.Source.faults c.args.src.now)
    (g.K.Sink.faults c.args.out.now) c.from_residual-in_err-buf.ensures.1

pub returns-in_err-service-clause-in_turn : goal.returns-in_err-service-clause-in_turn
returns-in_err-service-clause-in_turn g c = no-reads (first_of c.args.clients) _ _ _ _

pub returns-in_err-buf-clause-in_turn : goal.returns-in_err-buf-clause-in_turn
returns-in_err-buf-clause-in_turn g c = no-reads (first_of c.args.clients) _ _ _ _

pub returns-clause-served : goal.returns-clause-served
returns-clause-served g c = c.serve_within.ensures.served (first_of c.args.clients) c.in_ok-service.ensures.first

pub returns-clause-in_turn : goal.returns-clause-in_turn
returns-clause-in_turn g c = c.serve_within.ensures.in_turn (first_of c.args.clients) c.in_ok-service.ensures.first

pub returns-in_err-service-clause-cause : goal.returns-in_err-service-clause-cause
returns-in_err-service-clause-cause g c = nothing-rose c.from_residual.result (g.S.Source.faults c.args.src.now)
    (g.K.Sink.faults c.args.out.now) c.from_residual.ensures.1

pub returns-clause-cause : goal.returns-clause-cause
returns-clause-cause g c = c.serve_within.ensures.cause
