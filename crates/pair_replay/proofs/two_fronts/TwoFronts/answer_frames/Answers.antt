-- Each frame that is answered takes the run on.
use Rattle.std.proofs.Common.{rules, ◌∷◌, refl, sym, ap, ◌∙◌, Err, Ok}
use Rattle.replay_parts.specs.LinkEnds.{LinkEnds}
use Rattle.session_runs.specs.World.{answered}
use Rattle.session_runs.specs.Fold.{RoomThroughout}
use Rattle.session_runs.specs.Pairs.{pair_step}
use Rattle.pair_world.specs.Clients.{pair_reads, client_steps}
use Rattle.pair_world.specs.PairFresh.{PairRoom}
use Rattle.replay_parts.specs.Stops.{two_counts}
use Rattle.pair_replay.proofs.EndLemmas.{answer_turn, answer_stop, answer_end}
use Rattle.pair_replay.proofs.FollowLemmas.{follow_turn, follow_end}
use Rattle.pair_replay.proofs.two_fronts.TwoFronts.answer_frames.Goals as goal

pub returns-in-Err : goal.returns-in-Err
returns-in-Err g c = record {
  honest = search rules;
  cause = search rules;
  follows = λ start up0 down0 f.
      follow_turn {T = Unit {0}} (Err c.in-Err.stop) start up0 down0 (g.L.Link.up c.loop-frame.link) (g.L.Link.down c.loop-frame.link)
      (g.L.Link.up c.answer.new.link) (g.L.Link.down c.answer.new.link)
      c.loop-frame.self c.answer.new.self c.next_frame.new.self c.deref.result.now (c.loop-frame.invariant.3 start up0 down0 f)
      (c.in-Some.ensures.first ∙ ap (λ f. f ∷ c.next_frame.new.self.splitter.whole) (sym c.deref.ensures.value)) c.in-Some.ensures.rest
      c.in-Some.ensures.ends
      c.in-Err.ensures.goes.follows;
  steps = λ mode up0 down0 w run. (
    answer_stop (g.L.Link.honest c.loop-frame.link) (g.L.Link.honest c.answer.new.link) mode up0 down0 (g.L.Link.up c.loop-frame.link)
        (g.L.Link.down c.loop-frame.link) (g.L.Link.up c.answer.new.link) (g.L.Link.down c.answer.new.link)
        (RoomThroughout (pair_step pair_reads client_steps) PairRoom w.state c.args.self.now.ends.splitter.whole)
        (answered (pair_step pair_reads client_steps) c.args.self.now.ends.splitter.whole w) c.loop-frame.self c.answer.new.self
        c.next_frame.new.self c.deref.result.now (c.loop-frame.invariant.2 mode up0 down0 w run)
        (c.in-Some.ensures.first ∙ ap (λ f. f ∷ c.next_frame.new.self.splitter.whole) (sym c.deref.ensures.value)) c.in-Some.ensures.rest
        c.in-Some.ensures.ends
        c.in-Err.stop (two_counts 0 0 (g.L.Link.faults c.loop-frame.link) (g.L.Link.faults c.answer.new.link))
        c.in-Err.ensures.goes.cause.rose c.in-Err.ensures.goes.steps,
    tt,
  );
}

pub loop-frame-preserved : goal.loop-frame-preserved
loop-frame-preserved g c = (
  λ h. c.answer.ensures.goes.honest (c.loop-frame.invariant.0 h),
  (c.in-Ok.ensures {u = c.in-Ok.field-0}).goes.cause.others.2 ∙ c.loop-frame.invariant.1,
  λ mode up0 down0 w run.
      answer_turn (g.L.Link.honest c.loop-frame.link) (g.L.Link.honest c.answer.new.link) mode up0 down0 (g.L.Link.up c.loop-frame.link)
      (g.L.Link.down c.loop-frame.link) (g.L.Link.up c.answer.new.link) (g.L.Link.down c.answer.new.link)
      (RoomThroughout (pair_step pair_reads client_steps) PairRoom w.state c.args.self.now.ends.splitter.whole)
      (answered (pair_step pair_reads client_steps) c.args.self.now.ends.splitter.whole w) c.loop-frame.self c.answer.new.self
      c.next_frame.new.self c.deref.result.now (c.loop-frame.invariant.2 mode up0 down0 w run)
      (c.in-Some.ensures.first ∙ ap (λ f. f ∷ c.next_frame.new.self.splitter.whole) (sym c.deref.ensures.value)) c.in-Some.ensures.rest
      c.in-Some.ensures.ends
      c.in-Ok.field-0 (c.in-Ok.ensures {u = c.in-Ok.field-0}).goes.steps c.answer.ensures.same,
  λ start up0 down0 f.
      (follow_turn (Ok c.in-Ok.field-0) start up0 down0 (g.L.Link.up c.loop-frame.link) (g.L.Link.down c.loop-frame.link)
      (g.L.Link.up c.answer.new.link) (g.L.Link.down c.answer.new.link)
      c.loop-frame.self c.answer.new.self c.next_frame.new.self c.deref.result.now (c.loop-frame.invariant.3 start up0 down0 f)
      (c.in-Some.ensures.first ∙ ap (λ f. f ∷ c.next_frame.new.self.splitter.whole) (sym c.deref.ensures.value)) c.in-Some.ensures.rest
      c.in-Some.ensures.ends
      (c.in-Ok.ensures {u = c.in-Ok.field-0}).goes.follows).0,
)

pub returns : goal.returns
returns g c = record {
  honest = search rules;
  cause = search rules;
  follows = λ start up0 down0 f.
      let last = c.in_default.ensures {u = tt} in
      follow_end start up0 down0 (g.L.Link.up c.loop-frame.link) (g.L.Link.down c.loop-frame.link) c.loop-frame.self c.next_frame.new.self
      (c.loop-frame.invariant.3 start up0 down0 f) last.unchanged
      (ap (λ (x : LinkEnds). x.splitter.whole) last.unchanged ∙ last.none.0 refl);
  steps = λ mode up0 down0 w run.
      let last = c.in_default.ensures {u = tt} in
      answer_end (g.L.Link.honest c.loop-frame.link) mode up0 down0 (g.L.Link.up c.loop-frame.link) (g.L.Link.down c.loop-frame.link)
      (RoomThroughout (pair_step pair_reads client_steps) PairRoom w.state c.args.self.now.ends.splitter.whole)
      (answered (pair_step pair_reads client_steps) c.args.self.now.ends.splitter.whole w) c.loop-frame.self c.next_frame.new.self
      (c.loop-frame.invariant.2 mode up0 down0 w run) last.unchanged
      (ap (λ (x : LinkEnds). x.splitter.whole) last.unchanged ∙ last.none.0 refl);
}

pub loop-frame-init : goal.loop-frame-init
loop-frame-init g c = (
  λ h. h,
  refl,
  λ mode up0 down0 w run. record { world = w; so_far = run; goes = refl; room = λ r. r; needs = λ r. r },
  λ start up0 down0 f. f,
)
