-- Each text that is fetched takes the run on.
use Rattle.std.proofs.Common.{rules, refl, arith, ◌∙◌, drop}
use Rattle.std.proofs.lemmas.List.{drop_all}
use Rattle.replay_parts.specs.Moments.{moment}
use Rattle.pair_replay.proofs.FetchTurns.{fetch-start, fetch-turn, fetch-stops, fetch-end}
use Rattle.pair_replay.proofs.LineFollows.{keeps-still}
use Rattle.pair_replay.proofs.two_fronts.TwoFronts.fetch_all.Goals as goal

pub loop-number-init : goal.loop-number-init
loop-number-init g c = (
  λ h. h,
  refl,
  λ up0 down0 w ids few rests run.
      fetch-start c.args.second c.args.numbers.now up0 down0 w
      (moment (g.L.Link.honest c.args.link.now) (g.L.Link.up c.args.link.now) (g.L.Link.down c.args.link.now) c.args.self.now) ids few
      rests run,
  λ start up0 down0 run. run,
)

pub loop-number-preserved : goal.loop-number-preserved
loop-number-preserved g c =
    let old = moment (g.L.Link.honest c.loop-number.link) (g.L.Link.up c.loop-number.link)
    (g.L.Link.down c.loop-number.link) c.loop-number.self in
    let new = moment (g.L.Link.honest c.fetch_if_known.new.link) (g.L.Link.up c.fetch_if_known.new.link)
    (g.L.Link.down c.fetch_if_known.new.link) c.fetch_if_known.new.self in
    let i = c.loop-number.number-index in
    let fits = c.type_inv.numbers i in (
      λ h. c.fetch_if_known.ensures.honest (c.loop-number.invariant.0 h),
      (c.in-Ok.ensures {u = c.in-Ok.field-0}).cause.others.2 ∙ c.loop-number.invariant.1,
      λ up0 down0 w ids few rests run.
          fetch-turn c.args.second _ _ _ up0 down0 c.args.numbers.now i old new c.loop-number-test.true (omega (arith, fits))
          (c.loop-number.invariant.2 up0 down0 w ids few rests run) (c.in-Ok.ensures {u = c.in-Ok.field-0}).steps,
      λ start up0 down0 run.
          ((c.in-Ok.ensures {u = c.in-Ok.field-0}).follows start up0 down0 (c.loop-number.invariant.3 start up0 down0 run)).0,
    )

pub returns-in-Err : goal.returns-in-Err
returns-in-Err g c =
    let old = moment (g.L.Link.honest c.loop-number.link) (g.L.Link.up c.loop-number.link)
    (g.L.Link.down c.loop-number.link) c.loop-number.self in
    let new = moment (g.L.Link.honest c.fetch_if_known.new.link) (g.L.Link.up c.fetch_if_known.new.link)
    (g.L.Link.down c.fetch_if_known.new.link) c.fetch_if_known.new.self in
    record {
      honest = search rules;
      cause = search rules;
      follows = λ start up0 down0 run. c.in-Err.ensures.follows start up0 down0 (c.loop-number.invariant.3 start up0 down0 run);
      steps = λ up0 down0 w ids few may run. (
        fetch-stops c.args.second _ _ _ up0 down0 c.args.numbers.now c.loop-number.number-index old new c.in-Err.stop _ _
            c.loop-number-test.true c.in-Err.ensures.cause (c.loop-number.invariant.2 up0 down0 w ids few may.1 run) c.in-Err.ensures.steps,
        tt,
      );
    }

pub returns : goal.returns
returns g c =
    let now = moment (g.L.Link.honest c.loop-number.link) (g.L.Link.up c.loop-number.link)
    (g.L.Link.down c.loop-number.link) c.loop-number.self in
    record {
      honest = search rules;
      cause = search rules;
      follows = λ start up0 down0 run. keeps-still now start up0 down0 (c.loop-number.invariant.3 start up0 down0 run);
      steps = λ up0 down0 w ids few may run.
          fetch-end c.args.second _ _ _ up0 down0 (drop c.loop-number.number-index c.args.numbers.now) now
          (drop_all c.loop-number.number-index c.args.numbers.now c.loop-number-test.false)
          (c.loop-number.invariant.2 up0 down0 w ids few may.1 run);
    }
