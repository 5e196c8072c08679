-- A fetch that is sent takes the run one fetch on.
use Rattle.std.proofs.Common.{rules, ◌<◌, ◌^◌, ◌+◌, length, arith, refl, ap, ◌∙◌}
use Rattle.session_runs.specs.World.{sent_up}
use Rattle.inspect_world.specs.World.{one_fetch}
use Rattle.inspect_world.specs.FreshRuns.{front_fetcher}
use Rattle.inspect_world.proofs.Ends.{world-waits}
use Rattle.inspect_world.proofs.LinkLemmas.{follows-wait}
use Rattle.replay_parts.proofs.SendLemmas.{SentUp}
use Rattle.inspect_replay.specs.Runs.{ends_of}
use Rattle.inspect_replay.proofs.EndLemmas.{fetched_in, has-ids, sent-run}
use Rattle.inspect_replay.proofs.FollowLemmas.{fetched-follows, sent-follows, run-good, front-stops}
use Rattle.inspect_replay.proofs.one_front.OneFront.send_fetch.Goals as goal

pub returns : goal.returns
returns g c =
    let frame = c.in_ok-frame.frame.items in
    let small : c.args.number < 2 ^ 64 = omega (arith, c.ranges.number) in
    let sent : SentUp c.send_up.result (g.L.Link.up c.args.link.now) (g.L.Link.down c.args.link.now) (g.L.Link.up c.send_up.new.link)
    (g.L.Link.down c.send_up.new.link) c.args.self.now.ends c.send_up.new.self c.deref.result.now = record {
      sent = c.send_up.ensures.up;
      given = c.send_up.ensures.given;
      unsent = c.send_up.ensures.unsent;
      other = c.send_up.ensures.down;
      count = c.send_up.ensures.count;
      ends = c.send_up.ensures.ends;
      never = c.send_up.ensures.never;
    } in
    record {
      honest = search rules;
      cause = search rules;
      follows = λ state0 up0 down0 run.
          sent-follows c.send_up.result state0 up0 down0 _ _ _ _ c.args.self.now.ends c.send_up.new.self
          (record (ends_of c.args.self.now) { front = c.fetch.new.self }) c.deref.result.now sent run.none_whole
          (follows-wait state0 up0 down0 _ _ _ (ends_of c.args.self.now) run.so_far).0
          (run-good state0 up0 down0 (g.L.Link.up c.args.link.now) (g.L.Link.down c.args.link.now) c.args.self.now run)
          (λ there moved left.
          fetched-follows state0 up0 down0 (g.L.Link.up c.args.link.now) (g.L.Link.down c.args.link.now) (g.L.Link.up c.send_up.new.link)
          (g.L.Link.down c.args.link.now) (ends_of c.args.self.now) c.args.number c.args.self.now.ends.splitter.whole frame
          c.deref.result.now there
          c.fetch.new.self small (c.if-not-has_room.ensures.0 refl).1 run.so_far
          (left ∙ ap (λ bs. c.args.self.now.ends.up_there + length bs) c.deref.ensures.value)
          c.in_ok-frame.ensures.frame c.in_ok-frame.ensures.asked c.deref.ensures.value moved refl);
      steps = λ up0 down0 w few run. (
        c.send_up.ensures.never,
        sent-run c.send_up.result (g.L.Link.honest c.send_up.new.link) up0 down0 (g.L.Link.up c.args.link.now)
            (g.L.Link.down c.args.link.now)
            (g.L.Link.up c.send_up.new.link) (g.L.Link.down c.send_up.new.link)
            (sent_up (front_fetcher.text w.spent.fetches c.args.number) one_fetch w)
            c.args.self.now.ends c.send_up.new.self (record (ends_of c.args.self.now) { front = c.fetch.new.self }) c.deref.result.now sent
            (c.send_up.ensures.honest run.so_far.is_honest) run.none_whole
            (world-waits up0 down0 _ _ w _ (ends_of c.args.self.now) run.so_far.in_world).0
            (λ there moved left.
            fetched_in up0 down0 (g.L.Link.up c.args.link.now) (g.L.Link.down c.args.link.now) (g.L.Link.up c.send_up.new.link)
            (g.L.Link.down c.send_up.new.link) w (ends_of c.args.self.now) c.args.number
            c.args.self.now.ends.splitter.whole frame c.deref.result.now there c.fetch.new.self small few run.so_far.in_world
            run.none_whole c.in_ok-frame.ensures.frame c.in_ok-frame.ensures.asked c.deref.ensures.value moved c.send_up.ensures.down
            (left ∙ ap (λ bs. c.args.self.now.ends.up_there + length bs) c.deref.ensures.value)),
      );
    }

pub returns-then-not-has_room : goal.returns-then-not-has_room
returns-then-not-has_room g c = record {
  honest = search rules;
  cause = search rules;
  follows = λ state0 up0 down0 run. (
    tt,
    front-stops state0 up0 down0 (g.L.Link.up c.args.link.now)
        (g.L.Link.down c.args.link.now) c.args.self.now run c.if-not-has_room.ensures.1,
  );
  steps = λ up0 down0 w few run.
      (has-ids up0 down0 _ _ w _ (ends_of c.args.self.now) run.so_far.in_world (omega (arith, few)) c.if-not-has_room.ensures.1, tt);
}
