-- A load takes the run one step of the script on.
use Rattle.std.proofs.Common.{rules, ◌+◌, length, refl, ap, ◌∙◌}
use Rattle.back_end.specs.Steps.{loads}
use Rattle.page_forms.specs.Pages.{loaded_page}
use Rattle.pair_world.specs.PairLinks.{one_pair_line_more}
use Rattle.pair_replay.specs.Running.{pair_ends_of}
use Rattle.replay_parts.proofs.SendLemmas.{SentDown, same-whole}
use Rattle.pair_replay.proofs.PairLinkLemmas.{follows-wait}
use Rattle.pair_replay.proofs.FollowLemmas.{told-follows, whole-follows, turned-follows, run-good}
use Rattle.pair_replay.proofs.FollowLemmas.{seat-stops}
use Rattle.pair_replay.proofs.EndLemmas.{turned-goes, no-room}
use Rattle.pair_replay.proofs.two_fronts.TwoFronts.load_page.Goals as goal

pub returns : goal.returns
returns g c =
    let told : SentDown c.send_down.result (g.L.Link.up c.args.link.now) (g.L.Link.down c.args.link.now) (g.L.Link.up c.send_down.new.link)
    (g.L.Link.down c.send_down.new.link) c.args.self.now.ends c.send_down.new.self c.deref.result.now = record {
      sent = c.send_down.ensures.down;
      given = c.send_down.ensures.given;
      unsent = c.send_down.ensures.unsent;
      other = c.send_down.ensures.up;
      count = c.send_down.ensures.count;
      ends = c.send_down.ensures.ends;
      never = c.send_down.ensures.never;
    } in
    record {
      honest = search rules;
      cause = search rules;
      follows = λ start up0 down0 run.
          whole-follows c.send_down.result start up0 down0 (g.L.Link.up c.send_down.new.link) (g.L.Link.down c.send_down.new.link)
          c.send_down.new.self
          (record (pair_ends_of c.args.self.now) { mux = c.load.new.self; side = c.load.new.side }) _
          (same-whole c.args.self.now.ends c.send_down.new.self c.send_down.ensures.ends run.none_whole)
          (told-follows c.send_down.result start up0 down0 _ _ _ _ c.args.self.now.ends c.send_down.new.self
          (record (pair_ends_of c.args.self.now) { mux = c.load.new.self; side = c.load.new.side }) c.deref.result.now told
          (follows-wait (one_pair_line_more start) up0 down0 _ _ _ (pair_ends_of c.args.self.now) run.so_far).1
          (run-good (one_pair_line_more start) up0 down0 (g.L.Link.up c.args.link.now) (g.L.Link.down c.args.link.now) c.args.self.now run)
          (λ there sent_is left.
          turned-follows start up0 down0 (g.L.Link.up c.args.link.now) (g.L.Link.down c.args.link.now)
          (g.L.Link.up c.send_down.new.link) (g.L.Link.down c.send_down.new.link)
          (loads (loaded_page c.args.form)) c.args.self.now.ends.splitter.whole (pair_ends_of c.args.self.now) c.load.new.self
          c.load.new.side
          c.new-out.result.items c.load.new.out.items c.deref.result.now there
          run.so_far (left ∙ ap (λ bs. c.args.self.now.ends.down_there + length bs) c.deref.ensures.value)
          (c.if-not-has_room.ensures.0 refl)
          c.requires c.in_ok-load.ensures.stands c.in_ok-load.ensures.sent c.new-out.ensures.items
          c.deref.ensures.value c.send_down.ensures.up (sent_is, c.send_down.ensures.given)));
      steps = λ mode up0 down0 w left may run.
          turned-goes c.send_down.result (g.L.Link.honest c.args.link.now) (g.L.Link.honest c.send_down.new.link) mode up0 down0
          (g.L.Link.up c.args.link.now) (g.L.Link.down c.args.link.now) (g.L.Link.up c.send_down.new.link)
          (g.L.Link.down c.send_down.new.link) w c.args.self.now.ends c.send_down.new.self (pair_ends_of c.args.self.now)
          c.load.new.self c.load.new.side c.new-out.result.items c.load.new.out.items c.deref.result.now told c.send_down.ensures.honest
          (c.if-not-has_room.ensures.0 refl) c.new-out.ensures.items c.deref.ensures.value (loads (loaded_page c.args.form)) c.requires
          c.in_ok-load.ensures.stands c.in_ok-load.ensures.sent run;
    }

pub returns-then-not-has_room : goal.returns-then-not-has_room
returns-then-not-has_room g c = record {
  honest = search rules;
  cause = search rules;
  follows = λ start up0 down0 run. (
    tt,
    seat-stops (one_pair_line_more start) up0 down0 (g.L.Link.up c.args.link.now) (g.L.Link.down c.args.link.now)
        c.args.self.now.ends.splitter.whole (pair_ends_of c.args.self.now) run.so_far c.if-not-has_room.ensures.1,
  );
  steps = λ mode up0 down0 w left may run.
      (no-room mode up0 down0 _ _ w _ (pair_ends_of c.args.self.now) run.so_far.in_world c.if-not-has_room.ensures.1, tt);
}
