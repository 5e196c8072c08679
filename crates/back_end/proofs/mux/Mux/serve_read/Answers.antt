-- What a frame asks is asked by the root, and the step on the frame is that on what it asks.
use Rattle.std.proofs.Common.{◌≡◌, ◌++◌, subst}
use Rattle.std.specs.Result.{OnOk}
use Rattle.session_runs.specs.World.{Stepped}
use Rattle.back_end.specs.Pairs.{Pair}
use Rattle.back_end.specs.PairSeats.{PairStandsFor}
use Rattle.back_end.proofs.OwnTexts.{AskedTexts, frame-texts}
use Rattle.back_end.proofs.CommandRoutes.{command-step}
use Rattle.back_end.proofs.mux.Mux.serve_read.Goals as goal

pub serve_command-requires-clause-texts : goal.serve_command-requires-clause-texts
serve_command-requires-clause-texts c = subst AskedTexts c.in-Ok.ensures.asked (frame-texts c.args.own c.args.bytes.now)

pub returns-in-Ok-clause-stands : goal.returns-in-Ok-clause-stands
returns-in-Ok-clause-stands c = λ p stands.
    subst
    (λ (done : Stepped Pair). OnOk c.serve_command.result (PairStandsFor c.serve_command.new.self c.serve_command.new.side done.state))
    (command-step c.args.own c.args.bytes.now p c.in-Ok.request c.in-Ok.ensures.asked) (c.serve_command.ensures.stands p stands)

pub returns-in-Ok-clause-sent : goal.returns-in-Ok-clause-sent
returns-in-Ok-clause-sent c = λ p stands.
    subst (λ (done : Stepped Pair). OnOk c.serve_command.result (c.serve_command.new.out.items ≡ c.args.out.now.items ++ done.sent))
    (command-step c.args.own c.args.bytes.now p c.in-Ok.request c.in-Ok.ensures.asked) (c.serve_command.ensures.sent p stands)
