-- All of the up pipe is delivered, and then all of the down pipe.
use Rattle.std.proofs.Common.{rules, subst, Ok, Err}
use Rattle.replay_parts.specs.Moments.{moment}
use Rattle.pair_replay.specs.Running.{PairGoes, delivers_up, delivers_down}
use Rattle.pair_replay.proofs.SettleLemmas.{deliver-goes, deliver-stops}
use Rattle.pair_replay.proofs.two_fronts.TwoFronts.deliver_all.Goals as goal

pub returns-in-Ok : goal.returns-in-Ok
returns-in-Ok g c =
    let old = moment (g.L.Link.honest c.args.link.now) (g.L.Link.up c.args.link.now) (g.L.Link.down c.args.link.now) c.args.self.now in
    let mid = moment (g.L.Link.honest c.deliver_up.new.link) (g.L.Link.up c.deliver_up.new.link)
    (g.L.Link.down c.deliver_up.new.link) c.deliver_up.new.self in
    let new = moment (g.L.Link.honest c.deliver_down.new.link) (g.L.Link.up c.deliver_down.new.link)
    (g.L.Link.down c.deliver_down.new.link) c.deliver_down.new.self in
    record {
      honest = search rules;
      cause = search rules;
      follows = λ start up0 down0 run. c.deliver_down.ensures.follows start up0 down0 (c.in-Ok.ensures.follows start up0 down0 run).0;
      steps = deliver-goes c.deliver_down.result old mid new
          (subst (λ n. PairGoes {T = Unit {0}} old mid (Ok tt) (delivers_up n)) c.up_there-up.ensures c.in-Ok.ensures.steps)
          (subst (λ n. PairGoes mid new c.deliver_down.result (delivers_down n)) c.down_there-down.ensures c.deliver_down.ensures.steps);
    }

pub returns-in-Err : goal.returns-in-Err
returns-in-Err g c =
    let old = moment (g.L.Link.honest c.args.link.now) (g.L.Link.up c.args.link.now) (g.L.Link.down c.args.link.now) c.args.self.now in
    let new = moment (g.L.Link.honest c.deliver_up.new.link) (g.L.Link.up c.deliver_up.new.link)
    (g.L.Link.down c.deliver_up.new.link) c.deliver_up.new.self in
    record {
      honest = search rules;
      cause = search rules;
      follows = c.in-Err.ensures.follows;
      steps = deliver-stops c.in-Err.stop old new
          (subst (λ n. PairGoes {T = Unit {0}} old new (Err c.in-Err.stop) (delivers_up n)) c.up_there-up.ensures c.in-Err.ensures.steps);
    }
