-- A change of the page takes the run one step of the script on.
use Rattle.std.proofs.Common.{rules, ◌+◌, length, refl, Ok, ap, ◌∙◌}
use Rattle.back_end.specs.Steps.{acts}
use Rattle.inspect_world.specs.Links.{one_line_more}
use Rattle.inspect_world.specs.RunStates.{run_turn}
use Rattle.inspect_world.specs.World.{turned}
use Rattle.inspect_world.proofs.Ends.{world-waits}
use Rattle.inspect_world.proofs.LinkLemmas.{follows-wait}
use Rattle.replay_parts.proofs.SendLemmas.{SentDown, same-whole}
use Rattle.inspect_replay.specs.Runs.{ends_of}
use Rattle.inspect_replay.proofs.EndLemmas.{turned_in, has-room, told-run, whole-run}
use Rattle.inspect_replay.proofs.FollowLemmas.{turned-follows, told-follows, whole-follows, run-good, seat-stops}
use Rattle.inspect_replay.proofs.one_front.OneFront.change_page.Goals as goal

pub returns-in-Ok-clause-goes : goal.returns-in-Ok-clause-goes
returns-in-Ok-clause-goes g c =
    let told : SentDown (Ok c.in-Ok.field-0) (g.L.Link.up c.args.link.now) (g.L.Link.down c.args.link.now)
    (g.L.Link.up c.send_down.new.link)
    (g.L.Link.down c.send_down.new.link) c.args.self.now.ends c.send_down.new.self c.deref.result.now = record {
      sent = (c.in-Ok.ensures {u = c.in-Ok.field-0}).down;
      given = c.send_down.ensures.given;
      unsent = tt;
      other = c.send_down.ensures.up;
      count = (c.in-Ok.ensures {u = c.in-Ok.field-0}).count;
      ends = c.send_down.ensures.ends;
      never = tt;
    } in
    record {
      honest = search rules;
      cause = search rules;
      follows = λ state0 up0 down0 run.
          whole-follows (Ok c.in-Ok.field-0) state0 up0 down0 (g.L.Link.up c.send_down.new.link) (g.L.Link.down c.send_down.new.link)
          c.send_down.new.self (record (ends_of c.args.self.now) { seat = c.script.new.self; side = c.script.new.side }) _
          (same-whole c.args.self.now.ends c.send_down.new.self c.send_down.ensures.ends run.none_whole)
          (told-follows (Ok c.in-Ok.field-0) state0 up0 down0 _ _ _ _ c.args.self.now.ends c.send_down.new.self
          (record (ends_of c.args.self.now) { seat = c.script.new.self; side = c.script.new.side }) c.deref.result.now told
          (follows-wait (one_line_more state0) up0 down0 _ _ _ (ends_of c.args.self.now) run.so_far).1
          (run-good (one_line_more state0) up0 down0 (g.L.Link.up c.args.link.now) (g.L.Link.down c.args.link.now) c.args.self.now run)
          (λ there moved left.
          turned-follows state0 up0 down0 (g.L.Link.up c.args.link.now) (g.L.Link.down c.args.link.now) (g.L.Link.up c.send_down.new.link)
          (g.L.Link.down c.send_down.new.link)
          (acts c.args.act) c.args.self.now.ends.splitter.whole c.args.self.now.seat c.script.new.self c.args.self.now.side
          c.script.new.side (ends_of c.args.self.now) c.new-out.result.items c.script.new.out.items c.deref.result.now there
          run.so_far (left ∙ ap (λ bs. c.args.self.now.ends.down_there + length bs) c.deref.ensures.value)
          (c.if-not-has_room.ensures.0 refl)
          c.requires c.in_ok-fault.ensures.stands c.in_ok-fault.ensures.sent c.new-out.ensures.items c.deref.ensures.value
          c.send_down.ensures.up moved));
      steps = λ up0 down0 w room run. (
        tt,
        whole-run (Ok c.in-Ok.field-0) (g.L.Link.honest c.send_down.new.link) up0 down0 (g.L.Link.up c.send_down.new.link)
            (g.L.Link.down c.send_down.new.link)
            (turned run_turn (acts c.args.act) w) c.send_down.new.self
            (record (ends_of c.args.self.now) { seat = c.script.new.self; side = c.script.new.side })
            (same-whole c.args.self.now.ends c.send_down.new.self c.send_down.ensures.ends run.none_whole)
            (told-run (Ok c.in-Ok.field-0) (g.L.Link.honest c.send_down.new.link) up0 down0 (g.L.Link.up c.args.link.now)
            (g.L.Link.down c.args.link.now)
            (g.L.Link.up c.send_down.new.link) (g.L.Link.down c.send_down.new.link) (turned run_turn (acts c.args.act) w)
            c.args.self.now.ends
            c.send_down.new.self (record (ends_of c.args.self.now) { seat = c.script.new.self; side = c.script.new.side })
            c.deref.result.now told
            (c.send_down.ensures.honest run.so_far.is_honest)
            (world-waits up0 down0 _ _ w _ (ends_of c.args.self.now) run.so_far.in_world).1
            (λ there moved left.
            turned_in up0 down0 (g.L.Link.up c.args.link.now) (g.L.Link.down c.args.link.now) (g.L.Link.up c.send_down.new.link)
            (g.L.Link.down c.send_down.new.link) w
            (acts c.args.act) c.args.self.now.ends.splitter.whole c.args.self.now.seat c.script.new.self c.args.self.now.side
            c.script.new.side
            (ends_of c.args.self.now) c.new-out.result.items c.script.new.out.items c.deref.result.now there run.so_far.in_world
            run.none_whole
            c.requires room c.in_ok-fault.ensures.stands c.in_ok-fault.ensures.sent c.new-out.ensures.items c.deref.ensures.value
            c.send_down.ensures.up moved
            (left ∙ ap (λ bs. c.args.self.now.ends.down_there + length bs) c.deref.ensures.value))),
      );
    }

pub returns-then-not-has_room-clause-goes : goal.returns-then-not-has_room-clause-goes
returns-then-not-has_room-clause-goes g c = record {
  honest = search rules;
  cause = search rules;
  follows = λ state0 up0 down0 run. (
    tt,
    seat-stops (one_line_more state0) up0 down0 (g.L.Link.up c.args.link.now) (g.L.Link.down c.args.link.now)
        c.args.self.now.ends.splitter.whole
        (ends_of c.args.self.now)
        run.so_far c.if-not-has_room.ensures.1,
  );
  steps = λ up0 down0 w room run.
      (has-room up0 down0 _ _ w _ (ends_of c.args.self.now) run.so_far.in_world c.if-not-has_room.ensures.1, tt);
}
