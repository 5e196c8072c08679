-- Each line is carried out in its turn.
use Rattle.pipe_frames.proofs.WholeLemmas.{Appends-nil}
use Rattle.std.proofs.Common.{rules, ◌≡◌, ◌∙◌, suc, refl, [], ◌∷◌, ap, arith, length, Err}
use Rattle.replay_script.specs.Seen.{seen}
use Rattle.inspect_world.specs.Costs.{line_bytes}
use Rattle.inspect_world.specs.Links.{run_started}
use Rattle.inspect_world.proofs.Inputs.{later_line}
use Rattle.replay_parts.specs.Moments.{moment}
use Rattle.inspect_replay.specs.Followed.{fold_since}
use Rattle.inspect_replay.proofs.LinesRun.{run-on, run-stops, read-stops, lines-done, with_lines, run-later, whole_of}
use Rattle.inspect_replay.proofs.LinesTell.{carried-first, carried-lines, carried-on, ok-lacks, line-stops, read-tells, carried-all}
use Rattle.inspect_replay.proofs.LinesTell.{carried-tells}
use Rattle.inspect_replay.proofs.FollowLemmas.{run-good, run-line, read-folds}
use Rattle.replay_parts.proofs.StopLemmas.{more-printed}
use Rattle.replay_parts.proofs.CauseLemmas.{later-cause, unread-cause}
use Rattle.inspect_replay.proofs.run.run_lines.Goals as goal

pub loop-text-init : goal.loop-text-init
loop-text-init g c = (
  omega arith,
  omega arith,
  (λ h. h),
  refl,
  refl,
  λ up0 down0 w play. record {
    world = w;
    in_play = play;
    so_far = [];
    wrote = Appends-nil (g.K.Sink.taken c.args.out.now);
    text = refl;
    worlds = refl;
    refused = refl;
  },
  λ begun up0 down0 run. carried-first begun up0 down0 _ _ c.args.lines c.args.ends.now run,
  record { written = []; printed = Appends-nil (g.K.Sink.taken c.args.out.now) },
)

pub carry_out-carried-requires : goal.carry_out-carried-requires
carry_out-carried-requires g c = later_line c.loop-text.number c.in-Some.text.now
    (seen c.in-Ok.line) c.in-Ok.ensures.good c.in-Ok.ensures.form

pub returns-in-Err : goal.returns-in-Err
returns-in-Err g c = record {
  honest = search rules;
  cause = unread-cause c.in-Err.stop c.loop-text.number _ _ _ _ _ c.loop-text.invariant.3 c.loop-text.invariant.4 c.in-Err.ensures.bad;
  follows = λ begun up0 down0 run.
      let before = carried-lines begun up0 down0 (g.L.Link.up c.loop-text.link)
      (g.L.Link.down c.loop-text.link) c.args.lines c.loop-text.number c.loop-text.lines
      (c.in-Some.text.now ∷ c.next_line.new.lines) c.loop-text.ends
      c.in-Some.ensures.some (c.loop-text.invariant.6 begun up0 down0 run) in (
        tt,
        read-folds c.in-Err.stop c.loop-text.number _
            (fold_since up0 down0 (g.L.Link.up c.loop-text.link) (g.L.Link.down c.loop-text.link)) c.in-Err.ensures.bad
            (run-good (run_started begun.state (length (c.in-Some.text.now ∷ c.next_line.new.lines)) before.shown before.panels) up0 down0
            (g.L.Link.up c.loop-text.link) (g.L.Link.down c.loop-text.link) c.loop-text.ends before.run),
        read-tells c.in-Err.stop begun up0 down0 _ _ c.args.lines c.loop-text.number c.in-Some.text.now c.next_line.new.lines
            c.loop-text.ends before c.in-Err.ensures.bad,
      );
  some = tt;
  runs = λ up0 down0 w play.
      let stops = read-stops c.in-Err.stop _ up0 down0 _ _ (g.K.Sink.taken c.args.out.now) (g.K.Sink.taken c.loop-text.out)
      (whole_of c.args.lines w) c.loop-text.number c.in-Some.text.now c.next_line.new.lines c.loop-text.ends
      (with_lines _ up0 down0 _ _ _ _ _ c.loop-text.number c.loop-text.lines
      (c.in-Some.text.now ∷ c.next_line.new.lines) c.loop-text.ends c.in-Some.ensures.some
      (c.loop-text.invariant.5 up0 down0 w play)) c.in-Err.ensures.bad in
      (tt, stops.0, stops.1);
}

pub returns-in-Err-carried : goal.returns-in-Err-carried
returns-in-Err-carried g c = record {
  honest = search rules;
  cause = later-cause (Err c.in-Err-carried.stop) _ _ _ _ _ _ c.loop-text.invariant.3 c.loop-text.invariant.4
      (c.in-Err-carried.ensures {u = tt}).plays.cause;
  follows = λ begun up0 down0 run.
      let more = c.next_line.new.lines in
      let before = carried-lines begun up0 down0 (g.L.Link.up c.loop-text.link)
      (g.L.Link.down c.loop-text.link) c.args.lines c.loop-text.number c.loop-text.lines (c.in-Some.text.now ∷ more) c.loop-text.ends
      c.in-Some.ensures.some (c.loop-text.invariant.6 begun up0 down0 run) in
      let line = run-line begun before.shown before.panels up0 down0 _ _ c.loop-text.ends
      (c.in-Some.text.now ∷ more) c.in-Some.text.now more refl before.run in
      let stops = c.in-Err-carried.ensures {u = tt} in (
        tt,
        (stops.plays.follows (run_started begun.state (length more) before.shown before.panels) up0 down0 line).1,
        line-stops c.in-Err-carried.stop begun up0 down0 _ _
            (fold_since up0 down0 (g.L.Link.up c.carry_out-carried.new.link)
            (g.L.Link.down c.carry_out-carried.new.link)) c.args.lines c.loop-text.number
            c.in-Some.text.now more (seen c.in-Ok.line) c.loop-text.ends before c.in-Ok.ensures.good c.in-Ok.ensures.form
            (stops.tells (run_started begun.state (length more) before.shown before.panels) up0 down0 line),
      );
  some = tt;
  runs = λ up0 down0 w play.
      let more = c.next_line.new.lines in
      let running = with_lines (g.L.Link.honest c.loop-text.link) up0 down0 (g.L.Link.up c.loop-text.link) (g.L.Link.down c.loop-text.link)
      (g.K.Sink.taken c.args.out.now) (g.K.Sink.taken c.loop-text.out) (whole_of c.args.lines w)
      c.loop-text.number c.loop-text.lines (c.in-Some.text.now ∷ more) c.loop-text.ends c.in-Some.ensures.some
      (c.loop-text.invariant.5 up0 down0 w play) in
      let carried = (c.in-Err-carried.ensures {u = tt}).plays.runs up0 down0 (line_bytes more) running.world
      (run-later _ up0 down0 _ _ c.in-Some.text.now more
      (seen c.in-Ok.line) running.world c.loop-text.ends c.in-Ok.ensures.form running.in_play) in
      let stops = run-stops (g.L.Link.honest c.loop-text.link) (g.L.Link.honest c.carry_out-carried.new.link) up0 down0
      (g.L.Link.up c.loop-text.link) (g.L.Link.down c.loop-text.link)
      (g.L.Link.up c.carry_out-carried.new.link) (g.L.Link.down c.carry_out-carried.new.link)
      (g.K.Sink.taken c.args.out.now) (g.K.Sink.taken c.loop-text.out) (g.K.Sink.taken c.carry_out-carried.new.out)
      (whole_of c.args.lines w) c.loop-text.number c.in-Some.text.now more (seen c.in-Ok.line)
      c.loop-text.ends c.carry_out-carried.new.ends running c.in-Ok.ensures.good c.in-Ok.ensures.form c.in-Err-carried.stop carried.1
      carried.2 in
      (tt, stops.0, stops.1);
}

pub loop-text-preserved : goal.loop-text-preserved
loop-text-preserved g c =
    let more = c.next_line.new.lines in
    let form = seen c.in-Ok.line in
    let count : length c.loop-text.lines ≡ suc (length more) = ap length c.in-Some.ensures.some in
    let carried = c.in-Ok-carried.ensures {u = c.in-Ok-carried.field-0} in (
      omega (arith, c.loop-text.invariant.0),
      omega (arith, c.loop-text.invariant.1, count),
      (λ h. c.carry_out-carried.ensures.plays.honest (c.loop-text.invariant.2 h)),
      carried.plays.cause.others.1 ∙ c.loop-text.invariant.3,
      carried.plays.cause.others.2 ∙ c.loop-text.invariant.4,
      λ up0 down0 w play.
          run-on (g.L.Link.honest c.loop-text.link) (g.L.Link.honest c.carry_out-carried.new.link) up0 down0
          (g.L.Link.up c.loop-text.link) (g.L.Link.down c.loop-text.link) (g.L.Link.up c.carry_out-carried.new.link)
          (g.L.Link.down c.carry_out-carried.new.link)
          (g.K.Sink.taken c.args.out.now) (g.K.Sink.taken c.loop-text.out) (g.K.Sink.taken c.carry_out-carried.new.out) _ c.loop-text.number
          c.in-Some.text.now more form c.loop-text.ends c.carry_out-carried.new.ends
          (with_lines _ up0 down0 _ _ _ _ _ c.loop-text.number c.loop-text.lines
          (c.in-Some.text.now ∷ more) c.loop-text.ends c.in-Some.ensures.some (c.loop-text.invariant.5 up0 down0 w play))
          c.in-Ok.ensures.good c.in-Ok.ensures.form carried.plays.runs,
      λ begun up0 down0 run.
          let before = carried-lines begun up0 down0 (g.L.Link.up c.loop-text.link)
          (g.L.Link.down c.loop-text.link) c.args.lines c.loop-text.number c.loop-text.lines
          (c.in-Some.text.now ∷ more) c.loop-text.ends
          c.in-Some.ensures.some (c.loop-text.invariant.6 begun up0 down0 run) in
          let line = run-line begun before.shown before.panels up0 down0 _ _ c.loop-text.ends
          (c.in-Some.text.now ∷ more) c.in-Some.text.now more refl before.run in
          carried-on begun up0 down0 _ _
          (moment (g.L.Link.honest c.loop-text.link) (g.L.Link.up c.loop-text.link) (g.L.Link.down c.loop-text.link) c.loop-text.ends)
          (moment (g.L.Link.honest c.carry_out-carried.new.link) (g.L.Link.up c.carry_out-carried.new.link)
          (g.L.Link.down c.carry_out-carried.new.link) c.carry_out-carried.new.ends)
          c.args.lines c.loop-text.number c.in-Some.text.now more form before c.in-Ok.ensures.good c.in-Ok.ensures.form
          (carried.plays.follows (run_started begun.state (length more) before.shown before.panels) up0 down0 line).0
          (ok-lacks c.loop-text.number _
          (carried.tells (run_started begun.state (length more) before.shown before.panels) up0 down0 line).0),
      more-printed _ (g.K.Sink.taken c.loop-text.out) _ c.loop-text.invariant.7 carried.plays.some,
    )

pub returns : goal.returns
returns g c = record {
  honest = search rules;
  cause = record {
    sink_later = omega (arith, c.loop-text.invariant.3);
    link_later = omega (arith, c.loop-text.invariant.4);
    rose = tt;
    others = (refl, c.loop-text.invariant.3, c.loop-text.invariant.4);
  };
  follows = λ begun up0 down0 run.
      let new = record (moment (g.L.Link.honest c.loop-text.link) (g.L.Link.up c.loop-text.link) (g.L.Link.down c.loop-text.link)
      c.loop-text.ends) { faults = g.L.Link.faults c.loop-text.link } in
      let all = carried-all begun up0 down0 new c.args.lines c.loop-text.number c.loop-text.lines
      ((c.in_default.ensures {u = tt}).none refl) (c.loop-text.invariant.6 begun up0 down0 run) in (
        all,
        run-good (run_started begun.state 0 all.shown all.panels) up0 down0 (g.L.Link.up c.loop-text.link)
            (g.L.Link.down c.loop-text.link) c.loop-text.ends all.run,
        carried-tells begun up0 down0 new c.args.lines all,
      );
  some = c.loop-text.invariant.7;
  runs = λ up0 down0 w play.
      lines-done (g.L.Link.honest c.loop-text.link) up0 down0 (g.L.Link.up c.loop-text.link) (g.L.Link.down c.loop-text.link)
      (g.K.Sink.taken c.args.out.now) (g.K.Sink.taken c.loop-text.out) _ c.loop-text.number c.loop-text.lines c.loop-text.ends
      (c.loop-text.invariant.5 up0 down0 w play) ((c.in_default.ensures {u = tt}).none refl);
}
