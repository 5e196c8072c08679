-- A frame that names no ask takes the run to where the script takes it.
use Rattle.std.proofs.Common.{rules, refl}
use Rattle.pipe_frames.specs.Frames.{framed}
use Rattle.replay_parts.proofs.SendLemmas.{SentUp}
use Rattle.pair_replay.specs.Running.{pair_ends_of}
use Rattle.pair_replay.proofs.PairLinkLemmas.{follows-wait}
use Rattle.pair_replay.proofs.FollowLemmas.{sent-follows, run-good, raw-follows}
use Rattle.pair_replay.proofs.EndLemmas.{raw-goes}
use Rattle.pair_replay.proofs.two_fronts.TwoFronts.send_raw.Goals as goal

pub returns : goal.returns
returns g c =
    let sent : SentUp c.send_text.result (g.L.Link.up c.args.link.now) (g.L.Link.down c.args.link.now) (g.L.Link.up c.send_text.new.link)
    (g.L.Link.down c.send_text.new.link) c.args.self.now.ends c.send_text.new.self (framed c.args.text.now) = record {
      sent = c.send_text.ensures.up;
      given = c.send_text.ensures.given;
      unsent = c.send_text.ensures.unsent;
      other = c.send_text.ensures.down;
      count = c.send_text.ensures.count;
      ends = c.send_text.ensures.ends;
      never = c.send_text.ensures.never;
    } in
    record {
      honest = search rules;
      cause = search rules;
      follows = λ start up0 down0 run.
          sent-follows c.send_text.result start up0 down0 _ _ _ _ c.args.self.now.ends c.send_text.new.self
          (pair_ends_of c.args.self.now) (framed c.args.text.now) sent run.none_whole
          (follows-wait start up0 down0 _ _ _ (pair_ends_of c.args.self.now) run.so_far).0
          (run-good start up0 down0 (g.L.Link.up c.args.link.now) (g.L.Link.down c.args.link.now) c.args.self.now run)
          (λ there up_is given left.
          raw-follows start up0 down0 (g.L.Link.up c.args.link.now) (g.L.Link.down c.args.link.now) (g.L.Link.up c.send_text.new.link)
          c.args.self.now.ends.splitter.whole (pair_ends_of c.args.self.now) (framed c.args.text.now) (framed c.args.text.now) there
          c.args.text.now run.so_far c.requires.text c.requires.bare refl refl up_is given left);
      steps = λ mode up0 down0 w left may run.
          raw-goes c.send_text.result (g.L.Link.honest c.args.link.now) (g.L.Link.honest c.send_text.new.link) mode up0 down0
          (g.L.Link.up c.args.link.now) (g.L.Link.down c.args.link.now) (g.L.Link.up c.send_text.new.link)
          (g.L.Link.down c.send_text.new.link) w c.args.self.now.ends c.send_text.new.self (pair_ends_of c.args.self.now) c.args.text.now
          sent c.send_text.ensures.honest c.requires.text c.requires.bare may run;
    }
