-- A change of the page is made, or what refuses it is printed.
use Rattle.std.proofs.Common.{rules, Ok, Err}
use Rattle.replay_script.specs.Forms.{act}
use Rattle.back_end.specs.Steps.{acts}
use Rattle.inspect_world.specs.RunStates.{run_turn}
use Rattle.inspect_world.specs.World.{turned}
use Rattle.inspect_replay.specs.Prints.{numbered_line}
use Rattle.replay_parts.specs.Stops.{HasStopCause}
use Rattle.replay_parts.proofs.CauseLemmas.{link-cause, settled-cause}
use Rattle.inspect_replay.proofs.RunLemmas.{act-carries, act-stops}
use Rattle.inspect_replay.proofs.FollowLemmas.{kept-run}
use Rattle.replay_parts.proofs.StopLemmas.{some-printed}
use Rattle.inspect_replay.proofs.run.carry_act.Goals as goal

pub returns-in-Ok : goal.returns-in-Ok
returns-in-Ok g c =
    let cause = c.in-Ok.ensures.goes.cause in
    let same : HasStopCause {T = Unit {0}} 0 0 (g.L.Link.faults c.args.link.now) (g.L.Link.faults c.change_page.new.link) (Ok tt) = record {
      sink_later = cause.sink_later;
      link_later = cause.link_later;
      rose = tt;
      others = cause.others;
    } in
    record {
      honest = search rules;
      cause = settled-cause c.print_fault.result _ _ _ _ same c.print_fault.ensures.cause;
      follows = λ state0 up0 down0 run.
          kept-run c.print_fault.result state0 up0 down0 _ _ c.change_page.new.self c.print_fault.ensures.never
          (c.in-Ok.ensures.goes.follows state0 up0 down0 run).0;
      some = some-printed c.print_fault.result _ _ _ c.print_fault.ensures.ok;
      runs = act-carries c.print_fault.result c.in-Ok.fault _ _ _ _ _ _ _ _ c.args.ends.now c.change_page.new.self c.args.number
          c.args.change c.in-Ok.ensures.goes.steps c.requires c.in-Ok.ensures.fault c.print_fault.ensures.never c.print_fault.ensures.ok
          c.print_fault.ensures.err;
    }

pub returns-in-Err : goal.returns-in-Err
returns-in-Err g c =
    let cause = c.in-Err.ensures.goes.cause in
    let same : HasStopCause {T = Unit {0}} 0 0 (g.L.Link.faults c.args.link.now) (g.L.Link.faults c.change_page.new.link)
    (Err c.in-Err.stop) = record {
      sink_later = cause.sink_later;
      link_later = cause.link_later;
      rose = cause.rose;
      others = cause.others;
    } in
    record {
      honest = search rules;
      cause = link-cause (Err c.in-Err.stop) _ _ _ same;
      follows = c.in-Err.ensures.goes.follows;
      some = tt;
      runs = act-stops c.in-Err.stop (g.L.Link.honest c.args.link.now) (g.L.Link.honest c.change_page.new.link)
          (g.L.Link.up c.args.link.now) (g.L.Link.down c.args.link.now) (g.L.Link.up c.change_page.new.link)
          (g.L.Link.down c.change_page.new.link) (g.K.Sink.taken c.args.out.now) c.args.ends.now c.change_page.new.self
          (numbered_line c.args.number (act c.args.change)) (λ w. turned run_turn (acts c.args.change) w) c.in-Err.ensures.goes.steps;
    }
