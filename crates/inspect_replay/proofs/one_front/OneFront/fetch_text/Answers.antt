-- A fetch is sent, and all is delivered.
use Rattle.std.proofs.Common.{rules}
use Rattle.inspect_replay.proofs.one_front.OneFront.fetch_text.Goals as goal

pub returns-in-Ok : goal.returns-in-Ok
returns-in-Ok g c = record {
  honest = search rules;
  cause = search rules;
  follows = λ state0 up0 down0 run.
      c.deliver_all.ensures.follows state0 up0 down0 (c.in-Ok.ensures.follows state0 up0 down0 run).0;
  steps = λ up0 down0 w few run. c.deliver_all.ensures.steps up0 down0 _
      (c.in-Ok.ensures.steps up0 down0 w few run).1;
}
