-- A load takes the run one step of the script on.
use Rattle.std.proofs.Common.{rules, ◌+◌, length, refl, ap, ◌∙◌}
use Rattle.back_end.specs.Steps.{loads}
use Rattle.page_forms.specs.Pages.{loaded_page}
use Rattle.inspect_world.specs.Links.{one_line_more}
use Rattle.inspect_world.specs.RunStates.{run_turn}
use Rattle.inspect_world.specs.World.{turned}
use Rattle.inspect_world.proofs.Ends.{world-waits}
use Rattle.inspect_world.proofs.LinkLemmas.{follows-wait}
use Rattle.replay_parts.proofs.SendLemmas.{SentDown, same-whole}
use Rattle.inspect_replay.specs.Runs.{ends_of}
use Rattle.inspect_replay.proofs.EndLemmas.{turned_in, has-room, told-run, whole-run}
use Rattle.inspect_replay.proofs.FollowLemmas.{turned-follows, told-follows, whole-follows, run-good, seat-stops}
use Rattle.inspect_replay.proofs.one_front.OneFront.load_page.Goals as goal

pub returns : goal.returns
returns g c =
    let told : SentDown c.send_down.result (g.L.Link.up c.args.link.now) (g.L.Link.down c.args.link.now) (g.L.Link.up c.send_down.new.link)
    (g.L.Link.down c.send_down.new.link) c.args.self.now.ends c.send_down.new.self c.deref.result.now = record {
      sent = c.send_down.ensures.down;
      given = c.send_down.ensures.given;
      unsent = c.send_down.ensures.unsent;
      other = c.send_down.ensures.up;
      count = c.send_down.ensures.count;
      ends = c.send_down.ensures.ends;
      never = c.send_down.ensures.never;
    } in
    record {
      honest = search rules;
      cause = search rules;
      follows = λ state0 up0 down0 run.
          whole-follows c.send_down.result state0 up0 down0 (g.L.Link.up c.send_down.new.link) (g.L.Link.down c.send_down.new.link)
          c.send_down.new.self (record (ends_of c.args.self.now) { seat = c.load.new.self; side = c.load.new.side }) _
          (same-whole c.args.self.now.ends c.send_down.new.self c.send_down.ensures.ends run.none_whole)
          (told-follows c.send_down.result state0 up0 down0 _ _ _ _ c.args.self.now.ends c.send_down.new.self
          (record (ends_of c.args.self.now) { seat = c.load.new.self; side = c.load.new.side }) c.deref.result.now told
          (follows-wait (one_line_more state0) up0 down0 _ _ _ (ends_of c.args.self.now) run.so_far).1
          (run-good (one_line_more state0) up0 down0 (g.L.Link.up c.args.link.now) (g.L.Link.down c.args.link.now) c.args.self.now run)
          (λ there moved left.
          turned-follows state0 up0 down0 (g.L.Link.up c.args.link.now) (g.L.Link.down c.args.link.now) (g.L.Link.up c.send_down.new.link)
          (g.L.Link.down c.send_down.new.link)
          (loads (loaded_page c.args.form)) c.args.self.now.ends.splitter.whole c.args.self.now.seat c.load.new.self c.args.self.now.side
          c.load.new.side (ends_of c.args.self.now) c.new-out.result.items c.load.new.out.items c.deref.result.now there
          run.so_far (left ∙ ap (λ bs. c.args.self.now.ends.down_there + length bs) c.deref.ensures.value)
          (c.if-not-has_room.ensures.0 refl)
          c.requires c.in_ok-load.ensures.stands c.in_ok-load.ensures.sent c.new-out.ensures.items c.deref.ensures.value
          c.send_down.ensures.up moved));
      steps = λ up0 down0 w room run. (
        c.send_down.ensures.never,
        whole-run c.send_down.result (g.L.Link.honest c.send_down.new.link) up0 down0 (g.L.Link.up c.send_down.new.link)
            (g.L.Link.down c.send_down.new.link)
            (turned run_turn (loads (loaded_page c.args.form)) w) c.send_down.new.self
            (record (ends_of c.args.self.now) { seat = c.load.new.self; side = c.load.new.side })
            (same-whole c.args.self.now.ends c.send_down.new.self c.send_down.ensures.ends run.none_whole)
            (told-run c.send_down.result (g.L.Link.honest c.send_down.new.link) up0 down0 (g.L.Link.up c.args.link.now)
            (g.L.Link.down c.args.link.now)
            (g.L.Link.up c.send_down.new.link) (g.L.Link.down c.send_down.new.link) (turned run_turn (loads (loaded_page c.args.form)) w)
            c.args.self.now.ends
            c.send_down.new.self (record (ends_of c.args.self.now) { seat = c.load.new.self; side = c.load.new.side }) c.deref.result.now
            told
            (c.send_down.ensures.honest run.so_far.is_honest)
            (world-waits up0 down0 _ _ w _ (ends_of c.args.self.now) run.so_far.in_world).1
            (λ there moved left.
            turned_in up0 down0 (g.L.Link.up c.args.link.now) (g.L.Link.down c.args.link.now) (g.L.Link.up c.send_down.new.link)
            (g.L.Link.down c.send_down.new.link) w
            (loads (loaded_page c.args.form)) c.args.self.now.ends.splitter.whole c.args.self.now.seat c.load.new.self c.args.self.now.side
            c.load.new.side
            (ends_of c.args.self.now) c.new-out.result.items c.load.new.out.items c.deref.result.now there run.so_far.in_world
            run.none_whole
            c.requires room c.in_ok-load.ensures.stands c.in_ok-load.ensures.sent c.new-out.ensures.items c.deref.ensures.value
            c.send_down.ensures.up moved
            (left ∙ ap (λ bs. c.args.self.now.ends.down_there + length bs) c.deref.ensures.value))),
      );
    }

pub returns-then-not-has_room : goal.returns-then-not-has_room
returns-then-not-has_room g c = record {
  honest = search rules;
  cause = search rules;
  follows = λ state0 up0 down0 run. (
    tt,
    seat-stops (one_line_more state0) up0 down0 (g.L.Link.up c.args.link.now) (g.L.Link.down c.args.link.now)
        c.args.self.now.ends.splitter.whole
        (ends_of c.args.self.now)
        run.so_far c.if-not-has_room.ensures.1,
  );
  steps = λ up0 down0 w room run.
      (has-room up0 down0 _ _ w _ (ends_of c.args.self.now) run.so_far.in_world c.if-not-has_room.ensures.1, tt);
}
