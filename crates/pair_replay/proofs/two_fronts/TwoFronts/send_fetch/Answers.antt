-- A fetch that is sent takes the run one fetch on.
use Rattle.std.proofs.Common.{rules, refl, arith}
use Rattle.replay_parts.proofs.SendLemmas.{SentUp}
use Rattle.pair_replay.proofs.PairLinkLemmas.{follows-wait}
use Rattle.pair_replay.proofs.FollowLemmas.{sent-follows, run-good, front-stops, fetched-follows}
use Rattle.pair_replay.proofs.EndLemmas.{fetched-goes, has-ids}
use Rattle.pair_replay.specs.Running.{pair_ends_of}
use Rattle.pair_replay.proofs.two_fronts.TwoFronts.send_fetch.Goals as goal

pub returns-clause-goes : goal.returns-clause-goes
returns-clause-goes g c =
    let frame = c.in_ok-frame.frame.items in
    let sent : SentUp c.send_up.result (g.L.Link.up c.args.link.now) (g.L.Link.down c.args.link.now) (g.L.Link.up c.send_up.new.link)
    (g.L.Link.down c.send_up.new.link) c.args.self.now.ends c.send_up.new.self c.deref.result.now = record {
      sent = c.send_up.ensures.up;
      given = c.send_up.ensures.given;
      unsent = c.send_up.ensures.unsent;
      other = c.send_up.ensures.down;
      count = c.send_up.ensures.count;
      ends = c.send_up.ensures.ends;
      never = c.send_up.ensures.never;
    } in
    record {
      honest = search rules;
      cause = search rules;
      follows = λ start up0 down0 run.
          sent-follows c.send_up.result start up0 down0 _ _ _ _ c.args.self.now.ends c.send_up.new.self
          (record (pair_ends_of c.args.self.now) { fronts = c.fetch.new.self }) c.deref.result.now sent run.none_whole
          (follows-wait start up0 down0 _ _ _ (pair_ends_of c.args.self.now) run.so_far).0
          (run-good start up0 down0 (g.L.Link.up c.args.link.now) (g.L.Link.down c.args.link.now) c.args.self.now run)
          (λ there up_is given left.
          fetched-follows start up0 down0 (g.L.Link.up c.args.link.now) (g.L.Link.down c.args.link.now) (g.L.Link.up c.send_up.new.link)
          c.args.self.now.ends.splitter.whole (pair_ends_of c.args.self.now) frame c.deref.result.now there c.args.second c.args.number
          c.fetch.new.self run.so_far c.requires.stands (omega (arith, c.ranges.number)) (c.if-not-has_room.ensures.0 refl)
          c.in_ok-frame.ensures.frame c.in_ok-frame.ensures.asked c.deref.ensures.value up_is given left);
      steps = λ up0 down0 w ids few may run.
          fetched-goes c.send_up.result (g.L.Link.honest c.args.link.now) (g.L.Link.honest c.send_up.new.link) up0 down0 (g.L.Link.up
          c.args.link.now)
          (g.L.Link.down c.args.link.now) (g.L.Link.up c.send_up.new.link) (g.L.Link.down c.send_up.new.link) w
          c.args.self.now.ends c.send_up.new.self (pair_ends_of c.args.self.now) c.fetch.new.self frame c.deref.result.now sent
          c.send_up.ensures.honest c.args.second
          c.args.number c.requires.stands (omega (arith, c.ranges.number)) few run c.in_ok-frame.ensures.frame
          c.in_ok-frame.ensures.asked c.deref.ensures.value;
    }

pub returns-then-not-has_room-clause-goes : goal.returns-then-not-has_room-clause-goes
returns-then-not-has_room-clause-goes g c = record {
  honest = search rules;
  cause = search rules;
  follows = λ start up0 down0 run. (
    tt,
    front-stops start up0 down0 (g.L.Link.up c.args.link.now)
        (g.L.Link.down c.args.link.now) c.args.self.now run c.if-not-has_room.ensures.1,
  );
  steps = λ up0 down0 w ids few may run.
      (has-ids _ up0 down0 _ _ w _ (pair_ends_of c.args.self.now) run.so_far.in_world ids c.if-not-has_room.ensures.1, tt);
}
