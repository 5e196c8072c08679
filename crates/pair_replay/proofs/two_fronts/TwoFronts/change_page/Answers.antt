-- A change of the page takes the run one step of the script on.
use Rattle.std.proofs.Common.{rules, ◌+◌, length, refl, Ok, ap, ◌∙◌}
use Rattle.back_end.specs.Steps.{acts}
use Rattle.pair_world.specs.PairLinks.{one_pair_line_more}
use Rattle.pair_replay.specs.Running.{pair_ends_of}
use Rattle.replay_parts.proofs.SendLemmas.{SentDown, same-whole}
use Rattle.pair_replay.proofs.PairLinkLemmas.{follows-wait}
use Rattle.pair_replay.proofs.FollowLemmas.{told-follows, whole-follows, turned-follows, run-good}
use Rattle.pair_replay.proofs.FollowLemmas.{seat-stops}
use Rattle.pair_replay.proofs.EndLemmas.{turned-goes, no-room}
use Rattle.pair_replay.proofs.two_fronts.TwoFronts.change_page.Goals as goal

pub returns-in-Ok-clause-goes : goal.returns-in-Ok-clause-goes
returns-in-Ok-clause-goes g c =
    let told : SentDown (Ok c.in-Ok.field-0) (g.L.Link.up c.args.link.now) (g.L.Link.down c.args.link.now)
    (g.L.Link.up c.send_down.new.link)
    (g.L.Link.down c.send_down.new.link) c.args.self.now.ends c.send_down.new.self c.deref.result.now = record {
      sent = (c.in-Ok.ensures {u = c.in-Ok.field-0}).down;
      given = c.send_down.ensures.given;
      unsent = tt;
      other = c.send_down.ensures.up;
      count = (c.in-Ok.ensures {u = c.in-Ok.field-0}).count;
      ends = c.send_down.ensures.ends;
      never = tt;
    } in
    record {
      honest = search rules;
      cause = search rules;
      follows = λ start up0 down0 run.
          whole-follows (Ok c.in-Ok.field-0) start up0 down0 (g.L.Link.up c.send_down.new.link) (g.L.Link.down c.send_down.new.link)
          c.send_down.new.self
          (record (pair_ends_of c.args.self.now) { mux = c.script.new.self; side = c.script.new.side }) _
          (same-whole c.args.self.now.ends c.send_down.new.self c.send_down.ensures.ends run.none_whole)
          (told-follows (Ok c.in-Ok.field-0) start up0 down0 _ _ _ _ c.args.self.now.ends c.send_down.new.self
          (record (pair_ends_of c.args.self.now) { mux = c.script.new.self; side = c.script.new.side }) c.deref.result.now told
          (follows-wait (one_pair_line_more start) up0 down0 _ _ _ (pair_ends_of c.args.self.now) run.so_far).1
          (run-good (one_pair_line_more start) up0 down0 (g.L.Link.up c.args.link.now) (g.L.Link.down c.args.link.now) c.args.self.now run)
          (λ there sent_is left.
          turned-follows start up0 down0 (g.L.Link.up c.args.link.now) (g.L.Link.down c.args.link.now)
          (g.L.Link.up c.send_down.new.link) (g.L.Link.down c.send_down.new.link)
          (acts c.args.act) c.args.self.now.ends.splitter.whole (pair_ends_of c.args.self.now) c.script.new.self c.script.new.side
          c.new-out.result.items c.script.new.out.items c.deref.result.now there
          run.so_far (left ∙ ap (λ bs. c.args.self.now.ends.down_there + length bs) c.deref.ensures.value)
          (c.if-not-has_room.ensures.0 refl)
          c.requires c.in_ok-fault.ensures.stands c.in_ok-fault.ensures.sent c.new-out.ensures.items
          c.deref.ensures.value c.send_down.ensures.up (sent_is, c.send_down.ensures.given)));
      steps = λ mode up0 down0 w left may run.
          turned-goes (Ok c.in-Ok.field-0) (g.L.Link.honest c.args.link.now) (g.L.Link.honest c.send_down.new.link) mode up0 down0
          (g.L.Link.up c.args.link.now) (g.L.Link.down c.args.link.now) (g.L.Link.up c.send_down.new.link)
          (g.L.Link.down c.send_down.new.link) w c.args.self.now.ends c.send_down.new.self (pair_ends_of c.args.self.now)
          c.script.new.self c.script.new.side c.new-out.result.items c.script.new.out.items c.deref.result.now told
          c.send_down.ensures.honest
          (c.if-not-has_room.ensures.0 refl) c.new-out.ensures.items c.deref.ensures.value (acts c.args.act) c.requires
          c.in_ok-fault.ensures.stands c.in_ok-fault.ensures.sent run;
    }

pub returns-then-not-has_room-clause-goes : goal.returns-then-not-has_room-clause-goes
returns-then-not-has_room-clause-goes g c = record {
  honest = search rules;
  cause = search rules;
  follows = λ start up0 down0 run. (
    tt,
    seat-stops (one_pair_line_more start) up0 down0 (g.L.Link.up c.args.link.now) (g.L.Link.down c.args.link.now)
        c.args.self.now.ends.splitter.whole (pair_ends_of c.args.self.now) run.so_far c.if-not-has_room.ensures.1,
  );
  steps = λ mode up0 down0 w left may run.
      (no-room mode up0 down0 _ _ w _ (pair_ends_of c.args.self.now) run.so_far.in_world c.if-not-has_room.ensures.1, tt);
}
