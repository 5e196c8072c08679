-- All is delivered, and then the texts that are old are fetched: those of the first front end, and then those of the second.
use Rattle.std.proofs.Common.{rules}
use Rattle.replay_parts.specs.Moments.{moment}
use Rattle.pair_replay.proofs.SettleFetches.{settle-goes, settle-amid, settle-unsent}
use Rattle.pair_replay.proofs.two_fronts.TwoFronts.settle.Goals as goal

pub returns-in-Err : goal.returns-in-Err
returns-in-Err g c =
    let old = moment (g.L.Link.honest c.args.link.now) (g.L.Link.up c.args.link.now) (g.L.Link.down c.args.link.now) c.args.self.now in
    let mid = moment (g.L.Link.honest c.deliver_all.new.link) (g.L.Link.up c.deliver_all.new.link)
    (g.L.Link.down c.deliver_all.new.link) c.deliver_all.new.self in
    record {
      honest = search rules;
      cause = search rules;
      follows = c.in-Err.ensures.follows;
      steps = settle-unsent old mid c.in-Err.stop _ _ c.in-Err.ensures.cause c.in-Err.ensures.steps;
    }

pub returns-in-Ok-fetch_stale : goal.returns-in-Ok-fetch_stale
returns-in-Ok-fetch_stale g c =
    let old = moment (g.L.Link.honest c.args.link.now) (g.L.Link.up c.args.link.now) (g.L.Link.down c.args.link.now) c.args.self.now in
    let mid = moment (g.L.Link.honest c.deliver_all.new.link) (g.L.Link.up c.deliver_all.new.link)
    (g.L.Link.down c.deliver_all.new.link) c.deliver_all.new.self in
    let late = moment (g.L.Link.honest c.fetch_stale.new.link) (g.L.Link.up c.fetch_stale.new.link)
    (g.L.Link.down c.fetch_stale.new.link) c.fetch_stale.new.self in
    let last = c.fetch_stale-in-Ok-fetch_stale in
    let new = moment (g.L.Link.honest last.new.link) (g.L.Link.up last.new.link) (g.L.Link.down last.new.link) last.new.self in
    record {
      honest = search rules;
      cause = search rules;
      follows = λ start up0 down0 run.
          last.ensures.follows start up0 down0
          (c.in-Ok-fetch_stale.ensures.follows start up0 down0 (c.in-Ok.ensures.follows start up0 down0 run).0).0;
      steps = settle-goes old mid last.result late new c.in-Ok.ensures.steps c.in-Ok-fetch_stale.ensures.steps last.ensures.steps;
    }

pub returns-in-Err-fetch_stale : goal.returns-in-Err-fetch_stale
returns-in-Err-fetch_stale g c =
    let old = moment (g.L.Link.honest c.args.link.now) (g.L.Link.up c.args.link.now) (g.L.Link.down c.args.link.now) c.args.self.now in
    let mid = moment (g.L.Link.honest c.deliver_all.new.link) (g.L.Link.up c.deliver_all.new.link)
    (g.L.Link.down c.deliver_all.new.link) c.deliver_all.new.self in
    let late = moment (g.L.Link.honest c.fetch_stale.new.link) (g.L.Link.up c.fetch_stale.new.link)
    (g.L.Link.down c.fetch_stale.new.link) c.fetch_stale.new.self in
    record {
      honest = search rules;
      cause = search rules;
      follows = λ start up0 down0 run.
          c.in-Err-fetch_stale.ensures.follows start up0 down0 (c.in-Ok.ensures.follows start up0 down0 run).0;
      steps = settle-amid old mid c.in-Err-fetch_stale.stop late _ _ c.in-Err-fetch_stale.ensures.cause c.in-Ok.ensures.steps
          c.in-Err-fetch_stale.ensures.steps;
    }
