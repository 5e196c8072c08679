-- Each text that is fetched takes the run on.
use Rattle.std.proofs.Common.{rules, get_or, ◌∙◌, refl, Ok, Err, [], drop}
use Rattle.std.proofs.lemmas.List.{drop_all}
use Rattle.front_mirror.specs.Front.{first_value}
use Rattle.session_runs.specs.Fetches.{all_fetched}
use Rattle.inspect_world.specs.Fits.{replay}
use Rattle.inspect_world.specs.FreshRuns.{front_fetcher}
use Rattle.inspect_replay.proofs.EndLemmas.{fetch_turn, fetch_end}
use Rattle.inspect_replay.proofs.FollowLemmas.{kept-run}
use Rattle.inspect_replay.proofs.one_front.OneFront.fetch_all.Goals as goal

pub returns-in-Err : goal.returns-in-Err
returns-in-Err g c = record {
  honest = search rules;
  cause = search rules;
  follows = λ state0 up0 down0 f.
      c.in-Err.ensures.follows state0 up0 down0 (c.loop-number.invariant.3 state0 up0 down0 f);
  steps = λ up0 down0 w few run.
      let both = fetch_turn {T = Unit {0}} (Err c.in-Err.stop) (g.L.Link.honest c.loop-number.link)
      (g.L.Link.honest c.fetch_if_known.new.link) up0 down0 (g.L.Link.up c.loop-number.link) (g.L.Link.down c.loop-number.link)
      (g.L.Link.up c.fetch_if_known.new.link) (g.L.Link.down c.fetch_if_known.new.link)
      (all_fetched replay front_fetcher (first_value []) c.args.numbers.now w) c.args.numbers.now c.loop-number.number-index
      (get_or c.args.numbers.now c.loop-number.number-index 0) c.loop-number.self c.fetch_if_known.new.self
      c.loop-number-test.true refl (c.loop-number.invariant.2 up0 down0 w few run) c.in-Err.ensures.steps in
      (both.0, tt);
}

pub loop-number-preserved : goal.loop-number-preserved
loop-number-preserved g c = (
  λ h. c.fetch_if_known.ensures.honest (c.loop-number.invariant.0 h),
  (c.in-Ok.ensures {u = c.in-Ok.field-0}).cause.others.2 ∙ c.loop-number.invariant.1,
  λ up0 down0 w few run.
      (fetch_turn (Ok c.in-Ok.field-0) (g.L.Link.honest c.loop-number.link) (g.L.Link.honest c.fetch_if_known.new.link) up0 down0
      (g.L.Link.up c.loop-number.link) (g.L.Link.down c.loop-number.link) (g.L.Link.up c.fetch_if_known.new.link)
      (g.L.Link.down c.fetch_if_known.new.link)
      (all_fetched replay front_fetcher (first_value []) c.args.numbers.now w) c.args.numbers.now c.loop-number.number-index
      (get_or c.args.numbers.now c.loop-number.number-index 0) c.loop-number.self c.fetch_if_known.new.self
      c.loop-number-test.true refl (c.loop-number.invariant.2 up0 down0 w few run) (c.in-Ok.ensures {u = c.in-Ok.field-0}).steps).1,
  λ state0 up0 down0 f. ((c.in-Ok.ensures {u = c.in-Ok.field-0}).follows state0 up0 down0 (c.loop-number.invariant.3 state0 up0 down0 f)).0,
)

pub returns : goal.returns
returns g c = record {
  honest = search rules;
  cause = search rules;
  follows = λ state0 up0 down0 f.
      kept-run {T = Unit {0}} (Ok tt) state0 up0 down0 (g.L.Link.up c.loop-number.link)
      (g.L.Link.down c.loop-number.link) c.loop-number.self tt (c.loop-number.invariant.3 state0 up0 down0 f);
  steps = λ up0 down0 w few run. (
    tt,
    fetch_end (g.L.Link.honest c.loop-number.link) up0 down0 (g.L.Link.up c.loop-number.link) (g.L.Link.down c.loop-number.link)
        (all_fetched replay front_fetcher (first_value []) c.args.numbers.now w)
        (drop c.loop-number.number-index c.args.numbers.now) c.loop-number.self
        (drop_all c.loop-number.number-index c.args.numbers.now c.loop-number-test.false) (c.loop-number.invariant.2 up0 down0 w few run),
  );
}
