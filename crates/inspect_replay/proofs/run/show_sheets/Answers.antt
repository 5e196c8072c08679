-- After a settle the sheets are those of the page.
use Rattle.std.proofs.Common.{rules, ap, Err}
use Rattle.front_mirror.specs.Front.{FrontState}
use Rattle.replay_script.specs.Forms.{show_sheets}
use Rattle.inspect_replay.specs.Prints.{numbered_line}
use Rattle.inspect_replay.proofs.RunLemmas.{sheets-carries, show-stops}
use Rattle.inspect_replay.proofs.FollowLemmas.{kept-run}
use Rattle.replay_parts.proofs.CauseLemmas.{link-cause, settled-cause}
use Rattle.replay_parts.proofs.StopLemmas.{some-printed}
use Rattle.inspect_replay.proofs.run.show_sheets.Goals as goal

pub returns-in-Ok : goal.returns-in-Ok
returns-in-Ok g c = record {
  honest = search rules;
  cause = settled-cause c.print_sheets.result _ _ _ _ c.in-Ok.ensures.cause c.print_sheets.ensures.cause;
  follows = λ state0 up0 down0 run.
      kept-run c.print_sheets.result state0 up0 down0 _ _ c.settle.new.self c.print_sheets.ensures.never
      (c.in-Ok.ensures.follows state0 up0 down0 run).0;
  some = some-printed c.print_sheets.result _ _ _ c.print_sheets.ensures.ok;
  runs = λ number.
      sheets-carries c.print_sheets.result _ _ _ _ _ _ _ _ c.args.ends.now c.settle.new.self number c.front.result.now.value.sheets
      (λ up0 down0 w left run. (c.in-Ok.ensures.steps up0 down0 w left run).1)
      (ap (λ (f : FrontState). f.value.sheets) c.front.ensures) c.print_sheets.ensures.never c.print_sheets.ensures.ok
      c.print_sheets.ensures.err;
}

pub returns-in-Err : goal.returns-in-Err
returns-in-Err g c = record {
  honest = search rules;
  cause = link-cause (Err c.in-Err.stop) _ _ _ c.in-Err.ensures.cause;
  follows = c.in-Err.ensures.follows;
  some = tt;
  runs = λ number.
      show-stops c.in-Err.stop (g.L.Link.honest c.args.link.now) (g.L.Link.honest c.settle.new.link) (g.L.Link.up c.args.link.now)
      (g.L.Link.down c.args.link.now) (g.L.Link.up c.settle.new.link) (g.L.Link.down c.settle.new.link)
      (g.K.Sink.taken c.args.out.now) c.args.ends.now c.settle.new.self (numbered_line number show_sheets)
      (λ up0 down0 w left run. (c.in-Err.ensures.steps up0 down0 w left run).0);
}
