-- Bytes come up, and the frames that become whole are answered.
use Rattle.std.proofs.Common.{rules, Err}
use Rattle.std.specs.Prelude.{⊤}
use Rattle.replay_parts.specs.Stops.{two_counts}
use Rattle.replay_parts.proofs.FoldLemmas.{untaken-folds}
use Rattle.pair_world.specs.PairLinks.{sent_when_pair_is_full}
use Rattle.pair_replay.specs.PairAnswers.{pair_since}
use Rattle.pair_replay.specs.Running.{pair_ends_of}
use Rattle.pair_replay.proofs.EndLemmas.{took-run, deliver_goes, room-stop}
use Rattle.pair_replay.proofs.FollowLemmas.{took-follows, run-good}
use Rattle.pair_replay.proofs.StopLemmas.{room-there}
use Rattle.pair_replay.proofs.two_fronts.TwoFronts.deliver_up.Goals as goal

pub returns-in-Ok : goal.returns-in-Ok
returns-in-Ok g c = record {
  honest = search rules;
  cause = search rules;
  follows = λ start up0 down0 run.
      c.answer_frames.ensures.follows start up0 down0
      (took-follows start up0 down0 c.args.n _ _ (pair_ends_of c.args.self.now) (c.in-Ok.ensures {u = c.in-Ok.field-0}).took
      c.take_up.ensures.down run.so_far);
  steps = λ mode up0 down0 w may run.
      deliver_goes c.answer_frames.result (g.L.Link.honest c.take_up.new.link) (g.L.Link.honest c.answer_frames.new.link) mode up0 down0
      (g.L.Link.up c.take_up.new.link) (g.L.Link.down c.take_up.new.link) (g.L.Link.up c.answer_frames.new.link)
      (g.L.Link.down c.answer_frames.new.link) w c.args.n (record c.args.self.now { ends = c.take_up.new.self }) c.answer_frames.new.self
      (took-run mode up0 down0 c.args.n _ _ w (pair_ends_of c.args.self.now) (c.in-Ok.ensures {u = c.in-Ok.field-0}).took
      c.take_up.ensures.down c.take_up.ensures.honest run)
      c.answer_frames.ensures.steps;
}

pub returns-in-Err : goal.returns-in-Err
returns-in-Err g c = record {
  honest = search rules;
  cause = search rules;
  follows = λ start up0 down0 run. (
    tt,
    untaken-folds sent_when_pair_is_full c.in-Err.stop (pair_since up0 down0) (g.L.Link.up c.args.link.now) (g.L.Link.down c.args.link.now)
        (g.L.Link.up c.take_up.new.link)
        (g.L.Link.down c.take_up.new.link) c.in-Err.ensures.never c.in-Err.ensures.failed c.take_up.ensures.down
        (run-good start up0 down0 (g.L.Link.up c.args.link.now) (g.L.Link.down c.args.link.now) c.args.self.now run),
  );
  steps = λ mode up0 down0 w may run. (
    room-stop c.in-Err.stop (two_counts 0 0 (g.L.Link.faults c.args.link.now) (g.L.Link.faults c.take_up.new.link)) _
        c.in-Err.ensures.cause.rose (room-there {T = Unit {0}} (Err c.in-Err.stop) ⊤ c.in-Err.ensures.never tt),
    tt,
  );
}
