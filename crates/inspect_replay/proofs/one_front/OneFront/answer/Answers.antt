-- A frame that is answered takes the run one step on.
use Rattle.std.proofs.Common.{rules, ◌∷◌, [], ◌+◌, ◌++◌, length, refl, ap, ◌∙◌}
use Rattle.session_runs.specs.Stream.{awaited}
use Rattle.session_runs.specs.World.{answered}
use Rattle.inspect_world.specs.RunStates.{run_step}
use Rattle.inspect_world.proofs.Ends.{world-waits}
use Rattle.inspect_world.proofs.LinkLemmas.{follows-wait}
use Rattle.replay_parts.specs.LinkEnds.{LinkEnds}
use Rattle.replay_parts.proofs.SendLemmas.{SentDown}
use Rattle.inspect_replay.specs.Runs.{ends_of}
use Rattle.inspect_replay.proofs.EndLemmas.{answered_in, has-room, told-run}
use Rattle.inspect_replay.proofs.FollowLemmas.{answered-follows, told-follows, follows-good, seat-stops}
use Rattle.inspect_replay.proofs.one_front.OneFront.answer.Goals as goal

pub returns-clause-same : goal.returns-clause-same
returns-clause-same g c = ap (λ (x : LinkEnds). x.splitter) c.send_down.ensures.ends

pub returns-clause-goes : goal.returns-clause-goes
returns-clause-goes g c =
    let told : SentDown c.send_down.result (g.L.Link.up c.args.link.now) (g.L.Link.down c.args.link.now) (g.L.Link.up c.send_down.new.link)
    (g.L.Link.down c.send_down.new.link) c.args.self.now.ends c.send_down.new.self c.deref.result.now = record {
      sent = c.send_down.ensures.down;
      given = c.send_down.ensures.given;
      unsent = c.send_down.ensures.unsent;
      other = c.send_down.ensures.up;
      count = c.send_down.ensures.count;
      ends = c.send_down.ensures.ends;
      never = c.send_down.ensures.never;
    } in
    record {
      honest = search rules;
      cause = search rules;
      follows = λ state0 up0 down0 f.
          told-follows c.send_down.result state0 up0 down0 _ _ _ _ c.args.self.now.ends c.send_down.new.self
          (record (ends_of c.args.self.now) { seat = c.take_message.new.self; side = c.take_message.new.side }) c.deref.result.now told
          (follows-wait state0 up0 down0 _ _ _ (ends_of c.args.self.now) f).1
          (follows-good state0 up0 down0 (g.L.Link.up c.args.link.now) (g.L.Link.down c.args.link.now) _ (ends_of c.args.self.now) f)
          (λ there moved left.
          answered-follows state0 up0 down0 (g.L.Link.up c.args.link.now) (g.L.Link.down c.args.link.now) (g.L.Link.up c.send_down.new.link)
          (g.L.Link.down c.send_down.new.link)
          c.args.frame.now c.args.self.now.ends.splitter.whole c.args.self.now.seat c.take_message.new.self c.args.self.now.side
          c.take_message.new.side (ends_of c.args.self.now) c.new-out.result.items c.take_message.new.out.items c.deref.result.now there
          f (left ∙ ap (λ bs. c.args.self.now.ends.down_there + length bs) c.deref.ensures.value) (c.if-not-has_room.ensures.0 refl)
          c.in_ok-take_message.ensures.stands c.in_ok-take_message.ensures.sent c.new-out.ensures.items
          c.deref.ensures.value c.send_down.ensures.up moved);
      steps = λ up0 down0 w honest in_world. (
        c.send_down.ensures.never,
        told-run c.send_down.result (g.L.Link.honest c.send_down.new.link) up0 down0 (g.L.Link.up c.args.link.now)
            (g.L.Link.down c.args.link.now)
            (g.L.Link.up c.send_down.new.link) (g.L.Link.down c.send_down.new.link) (answered run_step (c.args.frame.now ∷ []) w)
            c.args.self.now.ends c.send_down.new.self
            (record (ends_of c.args.self.now) { seat = c.take_message.new.self; side = c.take_message.new.side }) c.deref.result.now told
            (c.send_down.ensures.honest honest)
            (world-waits up0 down0 _ _ w _ (ends_of c.args.self.now) in_world).1
            (λ there moved left.
            answered_in up0 down0 (g.L.Link.up c.args.link.now) (g.L.Link.down c.args.link.now) (g.L.Link.up c.send_down.new.link)
            (g.L.Link.down c.send_down.new.link) w c.args.frame.now
            (c.args.self.now.ends.splitter.whole ++ awaited w.up) c.args.self.now.seat c.take_message.new.self c.args.self.now.side
            c.take_message.new.side (ends_of c.args.self.now) c.new-out.result.items c.take_message.new.out.items c.deref.result.now there
            in_world c.in_ok-take_message.ensures.stands c.in_ok-take_message.ensures.sent c.new-out.ensures.items
            c.deref.ensures.value c.send_down.ensures.up moved
            (left ∙ ap (λ bs. c.args.self.now.ends.down_there + length bs) c.deref.ensures.value)),
      );
    }

pub returns-then-not-has_room-clause-goes : goal.returns-then-not-has_room-clause-goes
returns-then-not-has_room-clause-goes g c = record {
  honest = search rules;
  cause = search rules;
  follows = λ state0 up0 down0 f. (
    tt,
    seat-stops state0 up0 down0 (g.L.Link.up c.args.link.now) (g.L.Link.down c.args.link.now) _
        (ends_of c.args.self.now) f c.if-not-has_room.ensures.1,
  );
  steps = λ up0 down0 w honest in_world.
      (has-room up0 down0 _ _ w _ (ends_of c.args.self.now) in_world c.if-not-has_room.ensures.1, tt);
}
