-- Bytes come up, and the frames that become whole are answered.
use Rattle.std.proofs.Common.{rules}
use Rattle.node_tree.specs.Numbers.{sent_when_full}
use Rattle.replay_parts.proofs.FoldLemmas.{untaken-folds}
use Rattle.inspect_replay.specs.Followed.{fold_since}
use Rattle.inspect_replay.specs.Runs.{ends_of}
use Rattle.inspect_replay.proofs.EndLemmas.{took-run, deliver_goes}
use Rattle.inspect_replay.proofs.FollowLemmas.{took-follows, run-good}
use Rattle.inspect_replay.proofs.one_front.OneFront.deliver_up.Goals as goal

pub returns-in-Ok : goal.returns-in-Ok
returns-in-Ok g c = record {
  honest = search rules;
  cause = search rules;
  follows = λ state0 up0 down0 run.
      c.answer_frames.ensures.follows state0 up0 down0
      (took-follows state0 up0 down0 c.args.n _ _ (ends_of c.args.self.now) (c.in-Ok.ensures {u = c.in-Ok.field-0}).took
      c.take_up.ensures.down
      run.so_far);
  steps = λ up0 down0 w run.
      deliver_goes c.answer_frames.result (g.L.Link.honest c.take_up.new.link) (g.L.Link.honest c.answer_frames.new.link) up0 down0
      (g.L.Link.up c.take_up.new.link) (g.L.Link.down c.take_up.new.link) (g.L.Link.up c.answer_frames.new.link)
      (g.L.Link.down c.answer_frames.new.link) w
      c.args.n (record c.args.self.now { ends = c.take_up.new.self }) c.answer_frames.new.self
      (took-run up0 down0 c.args.n _ _ w (ends_of c.args.self.now) (c.in-Ok.ensures {u = c.in-Ok.field-0}).took c.take_up.ensures.down
      c.take_up.ensures.honest run)
      c.answer_frames.ensures.steps;
}

pub returns-in-Err : goal.returns-in-Err
returns-in-Err g c = record {
  honest = search rules;
  cause = search rules;
  follows = λ state0 up0 down0 run. (
    tt,
    untaken-folds sent_when_full c.in-Err.stop (fold_since up0 down0) (g.L.Link.up c.args.link.now) (g.L.Link.down c.args.link.now)
        (g.L.Link.up c.take_up.new.link) (g.L.Link.down c.take_up.new.link)
        c.in-Err.ensures.never c.in-Err.ensures.failed c.take_up.ensures.down
        (run-good state0 up0 down0 (g.L.Link.up c.args.link.now) (g.L.Link.down c.args.link.now) c.args.self.now run),
  );
  steps = λ up0 down0 w run. (c.in-Err.ensures.never, tt);
}
