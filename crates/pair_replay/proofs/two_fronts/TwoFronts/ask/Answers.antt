-- An ask that is sent takes the run to where the script takes it.
use Rattle.std.proofs.Common.{rules, refl, ap, ◌∙◌}
use Rattle.multi_replay.specs.States.{after_asked}
use Rattle.pair_world.proofs.PairKnown.{ids-left}
use Rattle.replay_script.specs.Seen.{seen_ask}
use Rattle.inspect_world.specs.Costs.{least_line}
use Rattle.replay_parts.proofs.SendLemmas.{SentUp}
use Rattle.pair_replay.proofs.PairLinkLemmas.{follows-wait}
use Rattle.pair_replay.proofs.FollowLemmas.{sent-follows, run-good, front-stops, asked-follows}
use Rattle.pair_replay.proofs.EndLemmas.{asked-goes, frame-seen, has-ids}
use Rattle.pair_replay.specs.Running.{pair_ends_of}
use Rattle.pair_replay.proofs.two_fronts.TwoFronts.ask.Goals as goal

pub returns : goal.returns
returns g c =
    let frame = c.in_ok-frame.frame.items in
    let sent : SentUp c.send_up.result (g.L.Link.up c.args.link.now) (g.L.Link.down c.args.link.now) (g.L.Link.up c.send_up.new.link)
    (g.L.Link.down c.send_up.new.link) c.args.self.now.ends c.send_up.new.self c.deref.result.now = record {
      sent = c.send_up.ensures.up;
      given = c.send_up.ensures.given;
      unsent = c.send_up.ensures.unsent;
      other = c.send_up.ensures.down;
      count = c.send_up.ensures.count;
      ends = c.send_up.ensures.ends;
      never = c.send_up.ensures.never;
    } in
    record {
      honest = search rules;
      cause = search rules;
      follows = λ start up0 down0 run.
          sent-follows c.send_up.result start up0 down0 _ _ _ _ c.args.self.now.ends c.send_up.new.self
          (record (pair_ends_of c.args.self.now) { fronts = c.ask.new.self }) c.deref.result.now sent run.none_whole
          (follows-wait start up0 down0 _ _ _ (pair_ends_of c.args.self.now) run.so_far).0
          (run-good start up0 down0 (g.L.Link.up c.args.link.now) (g.L.Link.down c.args.link.now) c.args.self.now run)
          (λ there up_is given left.
          asked-follows start up0 down0 (g.L.Link.up c.args.link.now) (g.L.Link.down c.args.link.now) (g.L.Link.up c.send_up.new.link)
          c.args.self.now.ends.splitter.whole (pair_ends_of c.args.self.now) frame c.deref.result.now there c.args.second (seen_ask
          c.args.ask.now)
          c.ask.new.self run.so_far c.requires.stands c.requires.can c.requires.may (c.if-not-has_room.ensures.0 refl)
          (frame-seen c.args.second c.args.self.now.fronts.pair c.args.ask.now frame _ _ c.as_str.ensures c.as_ref.ensures.value
          c.in_ok-frame.ensures.frame)
          (c.in_ok-frame.ensures.asked ∙ ap (after_asked c.args.self.now.fronts c.args.second) c.as_str.ensures)
          c.deref.ensures.value up_is given left);
      steps = λ mode up0 down0 w left may run.
          asked-goes c.send_up.result (g.L.Link.honest c.args.link.now) (g.L.Link.honest c.send_up.new.link) up0 down0 (g.L.Link.up
          c.args.link.now)
          (g.L.Link.down c.args.link.now) (g.L.Link.up c.send_up.new.link) (g.L.Link.down c.send_up.new.link) w
          c.args.self.now.ends c.send_up.new.self (pair_ends_of c.args.self.now) c.ask.new.self frame c.deref.result.now sent
          c.send_up.ensures.honest c.args.second mode
          (seen_ask c.args.ask.now) c.requires.stands c.requires.can c.requires.may left may run
          (frame-seen c.args.second c.args.self.now.fronts.pair c.args.ask.now frame _ _ c.as_str.ensures c.as_ref.ensures.value
          c.in_ok-frame.ensures.frame)
          (c.in_ok-frame.ensures.asked ∙ ap (after_asked c.args.self.now.fronts c.args.second) c.as_str.ensures)
          c.deref.ensures.value;
    }

pub returns-then-not-has_room : goal.returns-then-not-has_room
returns-then-not-has_room g c = record {
  honest = search rules;
  cause = search rules;
  follows = λ start up0 down0 run. (
    tt,
    front-stops start up0 down0 (g.L.Link.up c.args.link.now)
        (g.L.Link.down c.args.link.now) c.args.self.now run c.if-not-has_room.ensures.1,
  );
  steps = λ mode up0 down0 w left may run. (
    has-ids mode up0 down0 _ _ w _ (pair_ends_of c.args.self.now) run.so_far.in_world (ids-left w.spent least_line left)
        c.if-not-has_room.ensures.1,
    tt,
  );
}
