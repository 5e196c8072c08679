-- The frames that became whole are answered.
use Rattle.inspect_replay.specs.Serving.{serve_moment}
use Rattle.inspect_replay.proofs.ServeLemmas.{has-taken, piece-ends, piece-lost}
use Rattle.inspect_replay.proofs.service.Service.take.Goals as goal

pub returns-in-Ok-clause-takes : goal.returns-in-Ok-clause-takes
returns-in-Ok-clause-takes g c = λ so_far serves.
    piece-ends c.answer_whole.result so_far (serve_moment c.args.self.now (g.K.Sink.taken c.args.out.now))
    (serve_moment c.answer_whole.new.self (g.K.Sink.taken c.answer_whole.new.out))
    c.args.piece.now c.take.new.self serves
    (has-taken so_far (serve_moment c.args.self.now (g.K.Sink.taken c.args.out.now)) c.args.piece.now c.take.new.self serves
    (c.in-Ok.ensures {u = c.in-Ok.field-0}).ok)
    c.answer_whole.ensures.none c.answer_whole.ensures.answers

pub returns-in-Err-clause-takes : goal.returns-in-Err-clause-takes
returns-in-Err-clause-takes g c = λ so_far serves. piece-lost so_far
    (serve_moment c.args.self.now (g.K.Sink.taken c.args.out.now)) c.args.piece.now serves
