-- All is delivered, and then the texts that are old are fetched.
use Rattle.std.proofs.Common.{rules}
use Rattle.inspect_replay.proofs.EndLemmas.{refresh_goes}
use Rattle.inspect_replay.proofs.one_front.OneFront.settle.Goals as goal

pub returns-in-Ok : goal.returns-in-Ok
returns-in-Ok g c = record {
  honest = search rules;
  cause = search rules;
  follows = λ state0 up0 down0 run.
      c.fetch_stale.ensures.follows state0 up0 down0 (c.in-Ok.ensures.follows state0 up0 down0 run).0;
  steps = λ up0 down0 w left run.
      refresh_goes c.fetch_stale.result (g.L.Link.honest c.args.link.now) (g.L.Link.honest c.deliver_all.new.link)
      (g.L.Link.honest c.fetch_stale.new.link) up0 down0
      (g.L.Link.up c.args.link.now) (g.L.Link.down c.args.link.now) (g.L.Link.up c.deliver_all.new.link)
      (g.L.Link.down c.deliver_all.new.link)
      (g.L.Link.up c.fetch_stale.new.link)
      (g.L.Link.down c.fetch_stale.new.link) w c.args.self.now c.deliver_all.new.self c.fetch_stale.new.self
      left run (c.in-Ok.ensures.steps up0 down0 w run).1 c.fetch_stale.ensures.steps;
}

pub returns-in-Err : goal.returns-in-Err
returns-in-Err g c = record {
  honest = search rules;
  cause = search rules;
  follows = c.in-Err.ensures.follows;
  steps = λ up0 down0 w left run. ((c.in-Err.ensures.steps up0 down0 w run).0, tt);
}
