-- A fetch is sent, and all is delivered.
use Rattle.std.proofs.Common.{rules}
use Rattle.replay_parts.specs.Moments.{moment}
use Rattle.pair_replay.proofs.FetchSteps.{text-fetched, text-unsent}
use Rattle.pair_replay.proofs.two_fronts.TwoFronts.fetch_text.Goals as goal

pub send_fetch-requires-clause-stands : goal.send_fetch-requires-clause-stands
send_fetch-requires-clause-stands g c = c.requires.stands

pub send_fetch-requires-clause-known : goal.send_fetch-requires-clause-known
send_fetch-requires-clause-known g c = c.requires.known

pub returns-in-Ok : goal.returns-in-Ok
returns-in-Ok g c =
    let old = moment (g.L.Link.honest c.args.link.now) (g.L.Link.up c.args.link.now) (g.L.Link.down c.args.link.now) c.args.self.now in
    let mid = moment (g.L.Link.honest c.send_fetch.new.link) (g.L.Link.up c.send_fetch.new.link)
    (g.L.Link.down c.send_fetch.new.link) c.send_fetch.new.self in
    let new = moment (g.L.Link.honest c.deliver_all.new.link) (g.L.Link.up c.deliver_all.new.link)
    (g.L.Link.down c.deliver_all.new.link) c.deliver_all.new.self in
    record {
      honest = search rules;
      cause = search rules;
      follows = λ start up0 down0 run. c.deliver_all.ensures.follows start up0 down0 (c.in-Ok.ensures.goes.follows start up0 down0 run).0;
      steps = text-fetched c.args.second c.args.number c.deliver_all.result old mid new c.requires.stands c.in-Ok.ensures.goes.steps
          c.deliver_all.ensures.steps;
    }

pub returns-in-Err : goal.returns-in-Err
returns-in-Err g c =
    let old = moment (g.L.Link.honest c.args.link.now) (g.L.Link.up c.args.link.now) (g.L.Link.down c.args.link.now) c.args.self.now in
    let new = moment (g.L.Link.honest c.send_fetch.new.link) (g.L.Link.up c.send_fetch.new.link)
    (g.L.Link.down c.send_fetch.new.link) c.send_fetch.new.self in
    record {
      honest = search rules;
      cause = search rules;
      follows = c.in-Err.ensures.goes.follows;
      steps = text-unsent c.args.second c.args.number c.in-Err.stop old new _ _ c.in-Err.ensures.goes.cause c.in-Err.ensures.goes.steps;
    }
