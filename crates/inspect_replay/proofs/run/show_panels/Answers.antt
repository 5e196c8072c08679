-- After a settle the panels show the faces of what the client sees of the page.
use Rattle.std.proofs.Common.{rules, Err}
use Rattle.replay_script.specs.Forms.{show_panels}
use Rattle.inspect_replay.specs.Prints.{numbered_line}
use Rattle.inspect_replay.proofs.RunLemmas.{panels-carries, show-stops}
use Rattle.inspect_replay.proofs.FollowLemmas.{kept-run}
use Rattle.replay_parts.proofs.CauseLemmas.{link-cause, settled-cause}
use Rattle.inspect_replay.proofs.run.show_panels.Goals as goal

pub returns-in-Ok : goal.returns-in-Ok
returns-in-Ok g c = record {
  honest = search rules;
  cause = settled-cause c.print_panels.result _ _ _ _ c.in-Ok.ensures.cause c.print_panels.ensures.cause;
  follows = λ state0 up0 down0 run.
      kept-run c.print_panels.result state0 up0 down0 _ _ c.settle.new.self c.print_panels.ensures.never
      (c.in-Ok.ensures.follows state0 up0 down0 run).0;
  some = c.print_panels.ensures.some;
  runs = λ number.
      panels-carries c.print_panels.result _ _ _ _ _ _ _ _ c.args.ends.now c.settle.new.self number c.front.result.now
      (λ up0 down0 w left run. (c.in-Ok.ensures.steps up0 down0 w left run).1)
      c.front.ensures c.print_panels.ensures.never c.print_panels.ensures.ok c.print_panels.ensures.err;
}

pub returns-in-Err : goal.returns-in-Err
returns-in-Err g c = record {
  honest = search rules;
  cause = link-cause (Err c.in-Err.stop) _ _ _ c.in-Err.ensures.cause;
  follows = c.in-Err.ensures.follows;
  some = tt;
  runs = λ number.
      show-stops c.in-Err.stop (g.L.Link.honest c.args.link.now) (g.L.Link.honest c.settle.new.link) (g.L.Link.up c.args.link.now)
      (g.L.Link.down c.args.link.now) (g.L.Link.up c.settle.new.link) (g.L.Link.down c.settle.new.link)
      (g.K.Sink.taken c.args.out.now) c.args.ends.now c.settle.new.self (numbered_line number show_panels)
      (λ up0 down0 w left run. (c.in-Err.ensures.steps up0 down0 w left run).0);
}
