-- A session is attached.
use Rattle.std.proofs.Common.{rules, refl}
use Rattle.pair_world.proofs.PairKnown.{ids-left}
use Rattle.replay_parts.proofs.SendLemmas.{SentUp}
use Rattle.pair_replay.proofs.PairLinkLemmas.{follows-wait}
use Rattle.pair_replay.proofs.FollowLemmas.{sent-follows, run-good, front-stops, attached-follows}
use Rattle.pair_replay.proofs.EndLemmas.{attached-goes, has-ids}
use Rattle.pair_replay.specs.Running.{pair_ends_of}
use Rattle.pair_replay.proofs.two_fronts.TwoFronts.attach.Goals as goal

pub returns-clause-goes : goal.returns-clause-goes
returns-clause-goes g c =
    let frame = c.in_ok-frame.frame.items in
    let sent : SentUp c.send_up.result (g.L.Link.up c.args.link.now) (g.L.Link.down c.args.link.now) (g.L.Link.up c.send_up.new.link)
    (g.L.Link.down c.send_up.new.link) c.args.self.now.ends c.send_up.new.self c.deref.result.now = record {
      sent = c.send_up.ensures.up;
      given = c.send_up.ensures.given;
      unsent = c.send_up.ensures.unsent;
      other = c.send_up.ensures.down;
      count = c.send_up.ensures.count;
      ends = c.send_up.ensures.ends;
      never = c.send_up.ensures.never;
    } in
    record {
      honest = search rules;
      cause = search rules;
      follows = λ start up0 down0 run.
          sent-follows c.send_up.result start up0 down0 _ _ _ _ c.args.self.now.ends c.send_up.new.self
          (record (pair_ends_of c.args.self.now) { fronts = c.attach.new.self }) c.deref.result.now sent run.none_whole
          (follows-wait start up0 down0 _ _ _ (pair_ends_of c.args.self.now) run.so_far).0
          (run-good start up0 down0 (g.L.Link.up c.args.link.now) (g.L.Link.down c.args.link.now) c.args.self.now run)
          (λ there up_is given left.
          attached-follows start up0 down0 (g.L.Link.up c.args.link.now) (g.L.Link.down c.args.link.now) (g.L.Link.up c.send_up.new.link)
          c.args.self.now.ends.splitter.whole (pair_ends_of c.args.self.now) frame c.deref.result.now there
          c.attach.new.self run.so_far (c.if-not-has_room.ensures.0 refl) c.in_ok-frame.ensures.frame c.in_ok-frame.ensures.asked
          c.deref.ensures.value up_is given left);
      steps = λ mode up0 down0 w left may run.
          attached-goes c.send_up.result (g.L.Link.honest c.args.link.now) (g.L.Link.honest c.send_up.new.link) up0 down0 (g.L.Link.up
          c.args.link.now)
          (g.L.Link.down c.args.link.now) (g.L.Link.up c.send_up.new.link) (g.L.Link.down c.send_up.new.link) w
          c.args.self.now.ends c.send_up.new.self (pair_ends_of c.args.self.now) c.attach.new.self frame c.deref.result.now sent
          c.send_up.ensures.honest mode
          c.requires.alone left may.0 may.1 run c.in_ok-frame.ensures.frame c.in_ok-frame.ensures.asked c.deref.ensures.value;
    }

pub returns-then-not-has_room-clause-goes : goal.returns-then-not-has_room-clause-goes
returns-then-not-has_room-clause-goes g c = record {
  honest = search rules;
  cause = search rules;
  follows = λ start up0 down0 run. (
    tt,
    front-stops start up0 down0 (g.L.Link.up c.args.link.now)
        (g.L.Link.down c.args.link.now) c.args.self.now run c.if-not-has_room.ensures.1,
  );
  steps = λ mode up0 down0 w left may run. (
    has-ids mode up0 down0 _ _ w _ (pair_ends_of c.args.self.now) run.so_far.in_world (ids-left w.spent 0 left)
        c.if-not-has_room.ensures.1,
    tt,
  );
}
