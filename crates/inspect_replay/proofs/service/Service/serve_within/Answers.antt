-- Each piece that came was answered, up to as many bytes as an input may have.
use Rattle.std.proofs.Common.{◌≤◌, ◌+◌, ◌^◌, ◌∙◌, length, arith, refl}
use Rattle.std.proofs.lemmas.List.{length-take}
use Rattle.inspect_replay.specs.Serving.{serve_moment}
use Rattle.inspect_replay.proofs.ServeLemmas.{serves-nothing}
use Rattle.inspect_replay.proofs.ServeEnds.{nothing-came, more-came, loop-ended, loop-full, loop-stopped}
use Rattle.inspect_replay.proofs.ServeEnds.{turns-ended, turns-stopped, turns-full}
use Rattle.inspect_replay.proofs.service.Service.serve_within.Goals as goal

pub loop-came-init : goal.loop-came-init
loop-came-init g c = record {
  so_far = λ first is. nothing-came first (g.S.Source.calls c.args.src.now) (g.S.Source.left c.args.src.now)
      (serve_moment c.args.self.now (g.K.Sink.taken c.args.out.now))
      (serves-nothing first c.args.self.now (g.K.Sink.taken c.args.out.now) is);
  source_same = refl;
  sink_same = refl;
}

pub returns-in-Ok-eq0-clause-served : goal.returns-in-Ok-eq0-clause-served
returns-in-Ok-eq0-clause-served g c = λ first is.
    let so_far = c.loop-came.invariant.so_far first is in
    let piece = c.in-Ok-eq0.ensures.served _ so_far.serves in
    let room : c.loop-came.came + length c.serve_piece.new.buf ≤ 2 ^ 26 = grind (arith, length-take) in
    loop-ended first _ _ _ _ _ _ _
    (more-came first (g.S.Source.calls c.args.src.now) (g.S.Source.calls c.loop-came.src) (g.S.Source.calls c.serve_piece.new.src)
    (g.S.Source.left c.args.src.now) (g.S.Source.left c.loop-came.src) (g.S.Source.left c.serve_piece.new.src)
    (g.K.Sink.taken c.args.out.now)
    (serve_moment c.loop-came.self (g.K.Sink.taken c.loop-came.out))
    (serve_moment c.serve_piece.new.self (g.K.Sink.taken c.serve_piece.new.out))
    c.loop-came.came c.in-Ok-eq0.field-0 (length c.serve_piece.new.buf) so_far piece room c.serve_piece.ensures.counted)
    (piece.ends c.in-Ok-eq0.field-0-test)

pub overflow_add-came : goal.overflow_add-came
overflow_add-came g c =
    let small : c.in-Ok.count ≤ length c.serve_piece.new.buf = c.in-Ok.ensures.bound in
    let room : c.loop-came.came + length c.serve_piece.new.buf ≤ 2 ^ 26 = grind (arith, length-take) in
    omega (arith, small, room)

pub loop-came-preserved : goal.loop-came-preserved
loop-came-preserved g c =
    let room : c.loop-came.came + length c.serve_piece.new.buf ≤ 2 ^ 26 = grind (arith, length-take) in
    record {
      so_far = λ first is. more-came first (g.S.Source.calls c.args.src.now) (g.S.Source.calls c.loop-came.src)
          (g.S.Source.calls c.serve_piece.new.src)
          (g.S.Source.left c.args.src.now) (g.S.Source.left c.loop-came.src) (g.S.Source.left c.serve_piece.new.src)
          (g.K.Sink.taken c.args.out.now)
          (serve_moment c.loop-came.self (g.K.Sink.taken c.loop-came.out))
          (serve_moment c.serve_piece.new.self (g.K.Sink.taken c.serve_piece.new.out))
          c.loop-came.came c.in-Ok.count (length c.serve_piece.new.buf) (c.loop-came.invariant.so_far first is)
          (c.in-Ok.ensures.served _ (c.loop-came.invariant.so_far first is).serves) room c.serve_piece.ensures.counted;
      source_same = c.in-Ok.ensures.cause.others.0 ∙ c.loop-came.invariant.source_same;
      sink_same = c.in-Ok.ensures.cause.others.1 ∙ c.loop-came.invariant.sink_same;
    }

pub returns-in-Err-clause-served : goal.returns-in-Err-clause-served
returns-in-Err-clause-served g c = λ first is.
    let so_far = c.loop-came.invariant.so_far first is in
    let room : c.loop-came.came + length c.serve_piece.new.buf ≤ 2 ^ 26 = grind (arith, length-take) in
    loop-stopped first (g.S.Source.calls c.args.src.now) (g.S.Source.calls c.loop-came.src) (g.S.Source.left c.args.src.now)
    (g.S.Source.left c.loop-came.src) (g.S.Source.left c.serve_piece.new.src)
    (g.K.Sink.taken c.args.out.now)
    (serve_moment c.loop-came.self (g.K.Sink.taken c.loop-came.out))
    (serve_moment c.serve_piece.new.self (g.K.Sink.taken c.serve_piece.new.out))
    c.loop-came.came (length c.serve_piece.new.buf) c.in-Err.stop so_far (c.in-Err.ensures.served _ so_far.serves) room

pub returns-clause-served : goal.returns-clause-served
returns-clause-served g c = λ first is.
    let full : 2 ^ 26 ≤ c.loop-came.came = omega (arith, c.loop-came-test.false) in
    loop-full first (g.S.Source.calls c.args.src.now) (g.S.Source.calls c.loop-came.src) (g.S.Source.left c.args.src.now)
    (g.S.Source.left c.loop-came.src) (g.S.Source.left c.end_of_input.new.src)
    (g.K.Sink.taken c.args.out.now)
    (serve_moment c.loop-came.self
    (g.K.Sink.taken c.loop-came.out)) c.loop-came.came c.end_of_input.result (c.loop-came.invariant.so_far first is) full
    c.end_of_input.ensures.met

pub returns-in-Ok-eq0-clause-in_turn : goal.returns-in-Ok-eq0-clause-in_turn
returns-in-Ok-eq0-clause-in_turn g c = λ first is.
    let so_far = c.loop-came.invariant.so_far first is in
    let piece = c.in-Ok-eq0.ensures.served _ so_far.serves in
    let room : c.loop-came.came + length c.serve_piece.new.buf ≤ 2 ^ 26 = grind (arith, length-take) in
    turns-ended first _ _ _ _ _ (serve_moment c.serve_piece.new.self (g.K.Sink.taken c.serve_piece.new.out)) _
    (more-came first (g.S.Source.calls c.args.src.now) (g.S.Source.calls c.loop-came.src) (g.S.Source.calls c.serve_piece.new.src)
    (g.S.Source.left c.args.src.now) (g.S.Source.left c.loop-came.src) (g.S.Source.left c.serve_piece.new.src)
    (g.K.Sink.taken c.args.out.now)
    (serve_moment c.loop-came.self (g.K.Sink.taken c.loop-came.out))
    (serve_moment c.serve_piece.new.self (g.K.Sink.taken c.serve_piece.new.out))
    c.loop-came.came c.in-Ok-eq0.field-0 (length c.serve_piece.new.buf) so_far piece room c.serve_piece.ensures.counted)

pub returns-in-Err-clause-in_turn : goal.returns-in-Err-clause-in_turn
returns-in-Err-clause-in_turn g c = λ first is.
    let so_far = c.loop-came.invariant.so_far first is in
    turns-stopped first (g.S.Source.calls c.args.src.now) (g.S.Source.calls c.loop-came.src) (g.S.Source.calls c.serve_piece.new.src)
    (g.S.Source.left c.args.src.now) (g.S.Source.left c.loop-came.src) (g.S.Source.left c.serve_piece.new.src)
    (g.K.Sink.taken c.args.out.now)
    (serve_moment c.loop-came.self (g.K.Sink.taken c.loop-came.out))
    (serve_moment c.serve_piece.new.self (g.K.Sink.taken c.serve_piece.new.out))
    c.loop-came.came (length c.serve_piece.new.buf) c.in-Err.stop so_far (c.in-Err.ensures.served _ so_far.serves)
    c.serve_piece.ensures.counted

pub returns-clause-in_turn : goal.returns-clause-in_turn
returns-clause-in_turn g c = λ first is.
    turns-full first (g.S.Source.calls c.args.src.now) (g.S.Source.calls c.loop-came.src) (g.S.Source.calls c.end_of_input.new.src)
    (g.S.Source.left c.args.src.now) (g.S.Source.left c.loop-came.src) (g.S.Source.left c.end_of_input.new.src)
    (g.K.Sink.taken c.args.out.now)
    (serve_moment c.loop-came.self
    (g.K.Sink.taken c.loop-came.out)) c.loop-came.came c.end_of_input.result (c.loop-came.invariant.so_far first is)
    c.end_of_input.ensures.met
    c.end_of_input.ensures.counted
