-- After a settle the outline is that of the page.
use Rattle.std.proofs.Common.{rules, Err}
use Rattle.replay_script.specs.Forms.{show_front}
use Rattle.inspect_replay.specs.Prints.{numbered_line}
use Rattle.inspect_replay.proofs.RunLemmas.{show-carries, show-stops}
use Rattle.inspect_replay.proofs.FollowLemmas.{kept-run}
use Rattle.replay_parts.proofs.CauseLemmas.{link-cause, settled-cause}
use Rattle.replay_parts.proofs.StopLemmas.{some-printed}
use Rattle.inspect_replay.proofs.run.show_front.Goals as goal

pub returns-in-Ok : goal.returns-in-Ok
returns-in-Ok g c = record {
  honest = search rules;
  cause = settled-cause c.print_outline.result _ _ _ _ c.in-Ok.ensures.cause c.print_outline.ensures.cause;
  follows = λ state0 up0 down0 run.
      kept-run c.print_outline.result state0 up0 down0 _ _ c.settle.new.self c.print_outline.ensures.never
      (c.in-Ok.ensures.follows state0 up0 down0 run).0;
  some = some-printed c.print_outline.result _ _ _ c.print_outline.ensures.ok;
  runs = λ number.
      show-carries c.print_outline.result _ _ _ _ _ _ _ _ c.args.ends.now c.settle.new.self number c.mirror.result.now
      (λ up0 down0 w left run. (c.in-Ok.ensures.steps up0 down0 w left run).1) c.mirror.ensures c.print_outline.ensures.never
      c.print_outline.ensures.ok c.print_outline.ensures.err;
}

pub returns-in-Err : goal.returns-in-Err
returns-in-Err g c = record {
  honest = search rules;
  cause = link-cause (Err c.in-Err.stop) _ _ _ c.in-Err.ensures.cause;
  follows = c.in-Err.ensures.follows;
  some = tt;
  runs = λ number.
      show-stops c.in-Err.stop (g.L.Link.honest c.args.link.now) (g.L.Link.honest c.settle.new.link) (g.L.Link.up c.args.link.now)
      (g.L.Link.down c.args.link.now) (g.L.Link.up c.settle.new.link) (g.L.Link.down c.settle.new.link)
      (g.K.Sink.taken c.args.out.now) c.args.ends.now c.settle.new.self (numbered_line number show_front)
      (λ up0 down0 w left run. (c.in-Err.ensures.steps up0 down0 w left run).0);
}
