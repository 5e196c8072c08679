-- Each frame that is answered takes the run on.
use Rattle.std.proofs.Common.{rules, ◌∷◌, refl, sym, ap, ◌∙◌, Err, Ok}
use Rattle.replay_parts.specs.LinkEnds.{LinkEnds}
use Rattle.session_runs.specs.World.{answered}
use Rattle.inspect_world.specs.RunStates.{run_step}
use Rattle.inspect_replay.proofs.EndLemmas.{answer_turn, answer_end}
use Rattle.inspect_replay.proofs.FollowLemmas.{follow_turn, follow_end}
use Rattle.inspect_replay.proofs.one_front.OneFront.answer_frames.Goals as goal

pub returns-in-Err : goal.returns-in-Err
returns-in-Err g c = record {
  honest = search rules;
  cause = search rules;
  follows = λ state0 up0 down0 f.
      follow_turn {T = Unit {0}} (Err c.in-Err.stop) state0 up0 down0 (g.L.Link.up c.loop-frame.link) (g.L.Link.down c.loop-frame.link)
      (g.L.Link.up c.answer.new.link) (g.L.Link.down c.answer.new.link)
      c.loop-frame.self c.answer.new.self c.next_frame.new.self c.deref.result.now (c.loop-frame.invariant.3 state0 up0 down0 f)
      (c.in-Some.ensures.first ∙ ap (λ f. f ∷ c.next_frame.new.self.splitter.whole) (sym c.deref.ensures.value)) c.in-Some.ensures.rest
      c.in-Some.ensures.ends
      c.in-Err.ensures.goes.follows;
  steps = λ up0 down0 w run.
      let both = answer_turn {T = Unit {0}} (Err c.in-Err.stop) (g.L.Link.honest c.loop-frame.link)
      (g.L.Link.honest c.answer.new.link) up0 down0 (g.L.Link.up c.loop-frame.link) (g.L.Link.down c.loop-frame.link)
      (g.L.Link.up c.answer.new.link) (g.L.Link.down c.answer.new.link)
      (answered run_step c.args.self.now.ends.splitter.whole w) c.loop-frame.self c.answer.new.self c.next_frame.new.self
      c.deref.result.now (c.loop-frame.invariant.2 up0 down0 w run)
      (c.in-Some.ensures.first ∙ ap (λ f. f ∷ c.next_frame.new.self.splitter.whole) (sym c.deref.ensures.value)) c.in-Some.ensures.rest
      c.in-Some.ensures.ends
      c.in-Err.ensures.goes.steps c.answer.ensures.same in
      (both.0, tt);
}

pub loop-frame-preserved : goal.loop-frame-preserved
loop-frame-preserved g c = (
  λ h. c.answer.ensures.goes.honest (c.loop-frame.invariant.0 h),
  (c.in-Ok.ensures {u = c.in-Ok.field-0}).goes.cause.others.2 ∙ c.loop-frame.invariant.1,
  λ up0 down0 w run.
      let both = answer_turn (Ok c.in-Ok.field-0) _ _ up0 down0 (g.L.Link.up c.loop-frame.link) (g.L.Link.down c.loop-frame.link)
      (g.L.Link.up c.answer.new.link) (g.L.Link.down c.answer.new.link)
      (answered run_step c.args.self.now.ends.splitter.whole w) c.loop-frame.self c.answer.new.self c.next_frame.new.self
      c.deref.result.now (c.loop-frame.invariant.2 up0 down0 w run)
      (c.in-Some.ensures.first ∙ ap (λ f. f ∷ c.next_frame.new.self.splitter.whole) (sym c.deref.ensures.value)) c.in-Some.ensures.rest
      c.in-Some.ensures.ends
      (c.in-Ok.ensures {u = c.in-Ok.field-0}).goes.steps c.answer.ensures.same in
      both.1,
  λ state0 up0 down0 f.
      (follow_turn (Ok c.in-Ok.field-0) state0 up0 down0 (g.L.Link.up c.loop-frame.link) (g.L.Link.down c.loop-frame.link)
      (g.L.Link.up c.answer.new.link) (g.L.Link.down c.answer.new.link)
      c.loop-frame.self c.answer.new.self c.next_frame.new.self c.deref.result.now (c.loop-frame.invariant.3 state0 up0 down0 f)
      (c.in-Some.ensures.first ∙ ap (λ f. f ∷ c.next_frame.new.self.splitter.whole) (sym c.deref.ensures.value)) c.in-Some.ensures.rest
      c.in-Some.ensures.ends
      (c.in-Ok.ensures {u = c.in-Ok.field-0}).goes.follows).0,
)

pub returns : goal.returns
returns g c = record {
  honest = search rules;
  cause = search rules;
  follows = λ state0 up0 down0 f.
      let last = c.in_default.ensures {u = tt} in
      follow_end state0 up0 down0 (g.L.Link.up c.loop-frame.link) (g.L.Link.down c.loop-frame.link) c.loop-frame.self c.next_frame.new.self
      (c.loop-frame.invariant.3 state0 up0 down0 f) last.unchanged
      (ap (λ (x : LinkEnds). x.splitter.whole) last.unchanged ∙ last.none.0 refl);
  steps = λ up0 down0 w run.
      let last = c.in_default.ensures {u = tt} in (
        tt,
        answer_end (g.L.Link.honest c.loop-frame.link) up0 down0 (g.L.Link.up c.loop-frame.link) (g.L.Link.down c.loop-frame.link)
            (answered run_step c.args.self.now.ends.splitter.whole w) c.loop-frame.self c.next_frame.new.self
            (c.loop-frame.invariant.2 up0 down0 w run) last.unchanged
            (ap (λ (x : LinkEnds). x.splitter.whole) last.unchanged ∙ last.none.0 refl),
      );
}

pub loop-frame-init : goal.loop-frame-init
loop-frame-init g c = (
  λ h. h,
  refl,
  λ up0 down0 w run. record { world = w; so_far = run; goes = refl },
  λ state0 up0 down0 f. f,
)
