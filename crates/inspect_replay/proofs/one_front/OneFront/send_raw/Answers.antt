-- A frame that names no ask takes the run to where the script takes it.
use Rattle.std.proofs.Common.{rules, refl}
use Rattle.pipe_frames.specs.Frames.{framed}
use Rattle.inspect_world.specs.World.{raw}
use Rattle.inspect_world.proofs.Ends.{world-waits}
use Rattle.inspect_world.proofs.LinkLemmas.{follows-wait}
use Rattle.replay_parts.proofs.SendLemmas.{SentUp}
use Rattle.inspect_replay.specs.Runs.{ends_of}
use Rattle.inspect_replay.proofs.EndLemmas.{raw_in, sent-run}
use Rattle.inspect_replay.proofs.FollowLemmas.{raw-follows, sent-follows, run-good}
use Rattle.inspect_replay.proofs.one_front.OneFront.send_raw.Goals as goal

pub returns : goal.returns
returns g c =
    let sent : SentUp c.send_text.result (g.L.Link.up c.args.link.now) (g.L.Link.down c.args.link.now) (g.L.Link.up c.send_text.new.link)
    (g.L.Link.down c.send_text.new.link) c.args.self.now.ends c.send_text.new.self (framed c.args.text.now) = record {
      sent = c.send_text.ensures.up;
      given = c.send_text.ensures.given;
      unsent = c.send_text.ensures.unsent;
      other = c.send_text.ensures.down;
      count = c.send_text.ensures.count;
      ends = c.send_text.ensures.ends;
      never = c.send_text.ensures.never;
    } in
    record {
      honest = search rules;
      cause = search rules;
      follows = λ state0 up0 down0 run.
          sent-follows c.send_text.result state0 up0 down0 _ _ _ _ c.args.self.now.ends c.send_text.new.self
          (ends_of c.args.self.now) (framed c.args.text.now) sent run.none_whole
          (follows-wait state0 up0 down0 _ _ _ (ends_of c.args.self.now) run.so_far).0
          (run-good state0 up0 down0 (g.L.Link.up c.args.link.now) (g.L.Link.down c.args.link.now) c.args.self.now run)
          (λ there moved left.
          raw-follows state0 up0 down0 (g.L.Link.up c.args.link.now) (g.L.Link.down c.args.link.now) (g.L.Link.up c.send_text.new.link)
          (g.L.Link.down c.args.link.now) (ends_of c.args.self.now) c.args.text.now c.args.self.now.ends.splitter.whole
          (framed c.args.text.now)
          (framed c.args.text.now) there c.requires.text c.requires.bare.no_ask run.so_far left refl refl moved refl);
      steps = λ up0 down0 w room run. (
        c.send_text.ensures.never,
        sent-run c.send_text.result (g.L.Link.honest c.send_text.new.link) up0 down0 (g.L.Link.up c.args.link.now)
            (g.L.Link.down c.args.link.now)
            (g.L.Link.up c.send_text.new.link) (g.L.Link.down c.send_text.new.link) (raw c.args.text.now w) c.args.self.now.ends
            c.send_text.new.self
            (ends_of c.args.self.now) (framed c.args.text.now) sent (c.send_text.ensures.honest run.so_far.is_honest) run.none_whole
            (world-waits up0 down0 _ _ w _ (ends_of c.args.self.now) run.so_far.in_world).0
            (λ there moved left.
            raw_in up0 down0 (g.L.Link.up c.args.link.now) (g.L.Link.down c.args.link.now) (g.L.Link.up c.send_text.new.link)
            (g.L.Link.down c.send_text.new.link) w (ends_of c.args.self.now)
            c.args.text.now c.args.self.now.ends.splitter.whole (framed c.args.text.now) (framed c.args.text.now) there
            c.requires.text c.requires.bare room run.so_far.in_world run.none_whole refl refl moved c.send_text.ensures.down left),
      );
    }
