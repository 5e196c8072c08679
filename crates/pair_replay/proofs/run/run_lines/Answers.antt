-- Each line is carried out in its turn.
use Rattle.std.proofs.Common.{rules, ◌≡◌, ◌∙◌, suc, refl, [], ◌∷◌, ap, arith, length, Err}
use Rattle.pipe_frames.proofs.WholeLemmas.{Appends-nil}
use Rattle.replay_script.specs.PairSeen.{pair_seen}
use Rattle.inspect_world.specs.Costs.{line_bytes}
use Rattle.pair_world.specs.PairLinks.{pair_started}
use Rattle.replay_parts.specs.Moments.{Moment, moment}
use Rattle.pair_replay.specs.declared.two_fronts.TwoFronts.{TwoFronts}
use Rattle.pair_replay.specs.PairAnswers.{pair_since}
use Rattle.pair_replay.proofs.PairFollows.{run-well, run-line}
use Rattle.pair_replay.proofs.LinesRun.{running-first, with-lines, run-later, run-on, run-stops, read-stops, lines-done, whole_of}
use Rattle.pair_replay.proofs.LinesTell.{carried-first, carried-lines, carried-on, line-stops, read-tells, read-folds, carried-all}
use Rattle.replay_parts.proofs.StopLemmas.{more-printed}
use Rattle.replay_parts.proofs.CauseLemmas.{later-cause, unread-cause}
use Rattle.pair_replay.proofs.run.run_lines.Goals as goal

pub loop-text-init : goal.loop-text-init
loop-text-init g c = (
  omega arith,
  omega arith,
  (λ h. h),
  refl,
  refl,
  (λ up0 down0 w v play.
      running-first (g.L.Link.honest c.args.link.now) up0 down0 (g.L.Link.up c.args.link.now) (g.L.Link.down c.args.link.now)
      (g.K.Sink.taken c.args.out.now) c.args.lines w v c.args.ends.now (Appends-nil (g.K.Sink.taken c.args.out.now)) play),
  (λ start up0 down0 run.
      carried-first start up0 down0 (g.L.Link.up c.args.link.now) (g.L.Link.down c.args.link.now) c.args.lines c.args.ends.now run),
  record { written = []; printed = Appends-nil (g.K.Sink.taken c.args.out.now) },
)

pub returns-in-Err : goal.returns-in-Err
returns-in-Err g c =
    let up = g.L.Link.up c.loop-text.link in
    let down = g.L.Link.down c.loop-text.link in
    let more = c.next_line.new.lines in
    let text = c.in-Some.text.now in
    record {
      honest = search rules;
      cause = unread-cause c.in-Err.stop c.loop-text.number _ _ _ _ _ c.loop-text.invariant.3 c.loop-text.invariant.4 c.in-Err.ensures.bad;
      follows = λ start up0 down0 run.
          let before = carried-lines start up0 down0 up down c.args.lines c.loop-text.number c.loop-text.lines
          (text ∷ more) c.loop-text.ends
          c.in-Some.ensures.some (c.loop-text.invariant.6 start up0 down0 run) in (
            tt,
            read-folds c.in-Err.stop c.loop-text.number _ (pair_since up0 down0 up down) c.in-Err.ensures.bad
                (run-well (pair_started start.pair (length (text ∷ more)) before.panels start.from) up0 down0 up down c.loop-text.ends
                before.run),
            read-tells c.in-Err.stop start up0 down0 up down c.args.lines c.loop-text.number text more c.loop-text.ends before
                c.in-Err.ensures.bad,
          );
      some = tt;
      runs = λ up0 down0 w v play.
          let stops = read-stops c.in-Err.stop (g.L.Link.honest c.loop-text.link) up0 down0 up down (g.K.Sink.taken c.args.out.now)
          (g.K.Sink.taken c.loop-text.out) (whole_of c.args.lines w v) c.loop-text.number text more c.loop-text.ends
          (with-lines (g.L.Link.honest c.loop-text.link) up0 down0 up down (g.K.Sink.taken c.args.out.now) (g.K.Sink.taken c.loop-text.out)
          (whole_of c.args.lines w v) c.loop-text.number c.loop-text.lines (text ∷ more) c.loop-text.ends c.in-Some.ensures.some
          (c.loop-text.invariant.5 up0 down0 w v play)) c.in-Err.ensures.bad in
          (tt, stops.0, stops.1, stops.2);
    }

pub returns-in-Err-carried : goal.returns-in-Err-carried
returns-in-Err-carried g c =
    let honest = g.L.Link.honest c.loop-text.link in
    let up = g.L.Link.up c.loop-text.link in
    let down = g.L.Link.down c.loop-text.link in
    let old = moment honest up down c.loop-text.ends in
    let new = moment (g.L.Link.honest c.carry_out-carried.new.link) (g.L.Link.up c.carry_out-carried.new.link)
    (g.L.Link.down c.carry_out-carried.new.link) c.carry_out-carried.new.ends in
    let more = c.next_line.new.lines in
    let text = c.in-Some.text.now in
    let form = pair_seen c.in-Ok.line in
    let stops = c.in-Err-carried.ensures {u = tt} in
    record {
      honest = search rules;
      cause = later-cause (Err c.in-Err-carried.stop) _ _ _ _ _ _ c.loop-text.invariant.3 c.loop-text.invariant.4 stops.plays.cause;
      follows = λ start up0 down0 run.
          let before = carried-lines start up0 down0 up down c.args.lines c.loop-text.number c.loop-text.lines
          (text ∷ more) c.loop-text.ends
          c.in-Some.ensures.some (c.loop-text.invariant.6 start up0 down0 run) in
          let line = run-line start before.panels up0 down0 up down c.loop-text.ends (text ∷ more) text more refl before.run in
          let begun = pair_started start.pair (length more) before.panels start.from in (
            tt,
            (stops.plays.follows begun up0 down0 line).1,
            line-stops c.in-Err-carried.stop start up0 down0 old new c.args.lines c.loop-text.number text more form before
                c.in-Ok.ensures.good c.in-Ok.ensures.form (stops.tells begun up0 down0 line),
          );
      some = tt;
      runs = λ up0 down0 w v play.
          let running = with-lines honest up0 down0 up down (g.K.Sink.taken c.args.out.now) (g.K.Sink.taken c.loop-text.out)
          (whole_of c.args.lines w v) c.loop-text.number c.loop-text.lines (text ∷ more) c.loop-text.ends c.in-Some.ensures.some
          (c.loop-text.invariant.5 up0 down0 w v play) in
          let carried = stops.plays.runs up0 down0 (line_bytes more) running.world running.fresh
          (run-later honest up0 down0 up down text more form running.world running.fresh c.loop-text.ends c.in-Ok.ensures.form
          running.in_play) in
          let all = run-stops honest up0 down0 up down (g.K.Sink.taken c.args.out.now) (g.K.Sink.taken c.loop-text.out)
          (g.K.Sink.taken c.carry_out-carried.new.out)
          (whole_of c.args.lines w v) c.loop-text.number text more form c.loop-text.ends running
          c.in-Ok.ensures.good c.in-Ok.ensures.form c.in-Err-carried.stop carried.1 carried.2 carried.3 in
          (tt, all.0, all.1, all.2);
    }

pub loop-text-preserved : goal.loop-text-preserved
loop-text-preserved g c =
    let honest = g.L.Link.honest c.loop-text.link in
    let up = g.L.Link.up c.loop-text.link in
    let down = g.L.Link.down c.loop-text.link in
    let old = moment honest up down c.loop-text.ends in
    let new = moment (g.L.Link.honest c.carry_out-carried.new.link) (g.L.Link.up c.carry_out-carried.new.link)
    (g.L.Link.down c.carry_out-carried.new.link) c.carry_out-carried.new.ends in
    let more = c.next_line.new.lines in
    let text = c.in-Some.text.now in
    let form = pair_seen c.in-Ok.line in
    let count : length c.loop-text.lines ≡ suc (length more) = ap length c.in-Some.ensures.some in
    let carried = c.in-Ok-carried.ensures {u = c.in-Ok-carried.field-0} in (
      omega (arith, c.loop-text.invariant.0),
      omega (arith, c.loop-text.invariant.1, count),
      (λ h. c.carry_out-carried.ensures.plays.honest (c.loop-text.invariant.2 h)),
      carried.plays.cause.others.1 ∙ c.loop-text.invariant.3,
      carried.plays.cause.others.2 ∙ c.loop-text.invariant.4,
      (λ up0 down0 w v play.
          run-on up0 down0 (g.K.Sink.taken c.args.out.now) old new (g.K.Sink.taken c.loop-text.out)
          (g.K.Sink.taken c.carry_out-carried.new.out)
          (whole_of c.args.lines w v) c.loop-text.number text more form
          (with-lines honest up0 down0 up down (g.K.Sink.taken c.args.out.now) (g.K.Sink.taken c.loop-text.out) (whole_of c.args.lines w v)
          c.loop-text.number c.loop-text.lines (text ∷ more) c.loop-text.ends c.in-Some.ensures.some
          (c.loop-text.invariant.5 up0 down0 w v play)) c.in-Ok.ensures.good c.in-Ok.ensures.form carried.plays.runs),
      (λ start up0 down0 run.
          let before = carried-lines start up0 down0 up down c.args.lines c.loop-text.number c.loop-text.lines
          (text ∷ more) c.loop-text.ends
          c.in-Some.ensures.some (c.loop-text.invariant.6 start up0 down0 run) in
          let line = run-line start before.panels up0 down0 up down c.loop-text.ends (text ∷ more) text more refl before.run in
          let begun = pair_started start.pair (length more) before.panels start.from in
          carried-on start up0 down0 old new c.args.lines c.loop-text.number text more form before c.in-Ok.ensures.good c.in-Ok.ensures.form
          (carried.plays.follows begun up0 down0 line).0 (carried.tells begun up0 down0 line)),
      more-printed (g.K.Sink.taken c.args.out.now) (g.K.Sink.taken c.loop-text.out) (g.K.Sink.taken c.carry_out-carried.new.out)
          c.loop-text.invariant.7 carried.plays.some,
    )

pub returns : goal.returns
returns g c =
    let up = g.L.Link.up c.loop-text.link in
    let down = g.L.Link.down c.loop-text.link in
    let new : Moment (TwoFronts g.row.P.Denot g.P.Panel) = record {
      honest = g.L.Link.honest c.loop-text.link;
      up = up;
      down = down;
      faults = g.L.Link.faults c.loop-text.link;
      ends = c.loop-text.ends;
    } in
    let none = (c.in_default.ensures {u = tt}).none refl in
    record {
      honest = search rules;
      cause = record {
        sink_later = omega (arith, c.loop-text.invariant.3);
        link_later = omega (arith, c.loop-text.invariant.4);
        rose = tt;
        others = (refl, c.loop-text.invariant.3, c.loop-text.invariant.4);
      };
      follows = λ start up0 down0 run.
          let all = carried-all start up0 down0 new c.args.lines c.loop-text.number c.loop-text.lines none
          (c.loop-text.invariant.6 start up0 down0 run) in (
            all.0,
            run-well (pair_started start.pair 0 all.0.panels start.from) up0 down0 up down c.loop-text.ends all.0.run,
            all.1,
          );
      some = c.loop-text.invariant.7;
      runs = λ up0 down0 w v play.
          lines-done (g.L.Link.honest c.loop-text.link) up0 down0 up down (g.K.Sink.taken c.args.out.now) (g.K.Sink.taken c.loop-text.out)
          (whole_of c.args.lines w v) c.loop-text.number c.loop-text.lines c.loop-text.ends
          (c.loop-text.invariant.5 up0 down0 w v play) none;
    }
