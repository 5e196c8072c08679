-- Each frame that is answered is one more of those that were whole.
use Rattle.std.proofs.Common.{◌∷◌, refl, sym, ap, ◌∙◌}
use Rattle.pipe_frames.specs.Frames.{Frames}
use Rattle.inspect_replay.specs.Serving.{serve_moment}
use Rattle.inspect_replay.proofs.ServeLemmas.{one-answered, one-halted, all-answered}
use Rattle.inspect_replay.proofs.service.Service.answer_whole.Goals as goal

pub returns-in-Err-clause-answers : goal.returns-in-Err-clause-answers
returns-in-Err-clause-answers g c = λ now stands.
    one-halted c.in-Err.stop (serve_moment c.loop-frame.self (g.K.Sink.taken c.loop-frame.out))
    (g.K.Sink.taken c.answer.new.out) now c.args.self.now.splitter.whole (g.K.Sink.taken c.args.out.now)
    c.deref.result.now c.next.new.self.whole (c.loop-frame.invariant.answers now stands)
    (c.in-Some.ensures.first ∙ ap (λ f. f ∷ c.next.new.self.whole) (sym c.deref.ensures.value)) c.in-Err.ensures.answers

pub loop-frame-preserved : goal.loop-frame-preserved
loop-frame-preserved g c = record {
  rest = ap (λ (f : Frames). f.rest) c.answer.ensures.same ∙ c.in-Some.ensures.rest ∙ c.loop-frame.invariant.rest;
  same = (c.in-Ok.ensures {u = c.in-Ok.field-0}).cause.others.1 ∙ c.loop-frame.invariant.same;
  answers = λ now stands.
      one-answered (serve_moment c.loop-frame.self (g.K.Sink.taken c.loop-frame.out))
      (serve_moment c.answer.new.self (g.K.Sink.taken c.answer.new.out)) now c.args.self.now.splitter.whole
      (g.K.Sink.taken c.args.out.now) c.deref.result.now c.next.new.self.whole (c.loop-frame.invariant.answers now stands)
      (c.in-Some.ensures.first ∙ ap (λ f. f ∷ c.next.new.self.whole) (sym c.deref.ensures.value))
      (ap (λ (f : Frames). f.whole) c.answer.ensures.same) (c.in-Ok.ensures {u = c.in-Ok.field-0}).answers;
}

pub returns-clause-answers : goal.returns-clause-answers
returns-clause-answers g c = λ now stands.
    let last = c.in_default.ensures {u = tt} in
    all-answered (serve_moment c.loop-frame.self (g.K.Sink.taken c.loop-frame.out))
    (serve_moment c.loop-frame.self (g.K.Sink.taken c.loop-frame.out)) now c.args.self.now.splitter.whole
    (g.K.Sink.taken c.args.out.now) (c.loop-frame.invariant.answers now stands) (last.none.0 refl) refl refl refl
