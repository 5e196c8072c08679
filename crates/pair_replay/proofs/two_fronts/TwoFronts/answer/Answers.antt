-- A frame that is answered takes the run one step on.
use Rattle.std.proofs.Common.{rules, ◌+◌, length, refl, ap, ◌∙◌}
use Rattle.pair_replay.specs.Running.{pair_ends_of}
use Rattle.replay_parts.specs.LinkEnds.{LinkEnds}
use Rattle.replay_parts.proofs.SendLemmas.{SentDown}
use Rattle.pair_replay.proofs.PairLinkLemmas.{follows-wait}
use Rattle.pair_replay.proofs.FollowLemmas.{told-follows, answered-follows, follows-good, seat-stops}
use Rattle.pair_replay.proofs.EndLemmas.{answered-goes, no-room}
use Rattle.pair_replay.proofs.two_fronts.TwoFronts.answer.Goals as goal

pub returns-clause-same : goal.returns-clause-same
returns-clause-same g c = ap (λ (x : LinkEnds). x.splitter) c.send_down.ensures.ends

pub returns-clause-goes : goal.returns-clause-goes
returns-clause-goes g c =
    let told : SentDown c.send_down.result (g.L.Link.up c.args.link.now) (g.L.Link.down c.args.link.now) (g.L.Link.up c.send_down.new.link)
    (g.L.Link.down c.send_down.new.link) c.args.self.now.ends c.send_down.new.self c.deref.result.now = record {
      sent = c.send_down.ensures.down;
      given = c.send_down.ensures.given;
      unsent = c.send_down.ensures.unsent;
      other = c.send_down.ensures.up;
      count = c.send_down.ensures.count;
      ends = c.send_down.ensures.ends;
      never = c.send_down.ensures.never;
    } in
    record {
      honest = search rules;
      cause = search rules;
      follows = λ start up0 down0 f.
          told-follows c.send_down.result start up0 down0 _ _ _ _ c.args.self.now.ends c.send_down.new.self
          (record (pair_ends_of c.args.self.now) { mux = c.take_message.new.self; side = c.take_message.new.side }) c.deref.result.now told
          (follows-wait start up0 down0 _ _ _ (pair_ends_of c.args.self.now) f).1
          (follows-good start up0 down0 (g.L.Link.up c.args.link.now) (g.L.Link.down c.args.link.now) _ (pair_ends_of c.args.self.now) f)
          (λ there sent_is left.
          answered-follows start up0 down0 (g.L.Link.up c.args.link.now) (g.L.Link.down c.args.link.now)
          (g.L.Link.up c.send_down.new.link) (g.L.Link.down c.send_down.new.link)
          c.args.frame.now c.args.self.now.ends.splitter.whole (pair_ends_of c.args.self.now) c.take_message.new.self
          c.take_message.new.side
          c.new-out.result.items c.take_message.new.out.items c.deref.result.now there
          f (left ∙ ap (λ bs. c.args.self.now.ends.down_there + length bs) c.deref.ensures.value) (c.if-not-has_room.ensures.0 refl)
          c.in_ok-take_message.ensures.stands c.in_ok-take_message.ensures.sent c.new-out.ensures.items
          c.deref.ensures.value c.send_down.ensures.up (sent_is, c.send_down.ensures.given));
      steps = λ mode up0 down0 w honest in_world.
          answered-goes c.send_down.result (g.L.Link.honest c.args.link.now) (g.L.Link.honest c.send_down.new.link) mode up0 down0
          (g.L.Link.up c.args.link.now) (g.L.Link.down c.args.link.now) (g.L.Link.up c.send_down.new.link)
          (g.L.Link.down c.send_down.new.link) w c.args.self.now.ends c.send_down.new.self (pair_ends_of c.args.self.now)
          c.take_message.new.self c.take_message.new.side c.new-out.result.items c.take_message.new.out.items c.deref.result.now told
          c.send_down.ensures.honest
          (c.if-not-has_room.ensures.0 refl) c.new-out.ensures.items c.deref.ensures.value c.args.frame.now
          c.in_ok-take_message.ensures.stands c.in_ok-take_message.ensures.sent honest in_world;
    }

pub returns-then-not-has_room-clause-goes : goal.returns-then-not-has_room-clause-goes
returns-then-not-has_room-clause-goes g c = record {
  honest = search rules;
  cause = search rules;
  follows = λ start up0 down0 f. (
    tt,
    seat-stops start up0 down0 (g.L.Link.up c.args.link.now) (g.L.Link.down c.args.link.now) _
        (pair_ends_of c.args.self.now) f c.if-not-has_room.ensures.1,
  );
  steps = λ mode up0 down0 w honest in_world.
      (no-room mode up0 down0 _ _ w _ (pair_ends_of c.args.self.now) in_world c.if-not-has_room.ensures.1, tt);
}
