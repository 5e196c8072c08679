-- The pauses that came since they were told last are printed, and count as told.
use Rattle.std.proofs.Common.{rules, length, Ok, Err}
use Rattle.replay_script.specs.Forms.{show_pauses}
use Rattle.inspect_replay.specs.Prints.{numbered_line}
use Rattle.inspect_replay.proofs.RunLemmas.{Untold, show-stops, pauses-carried, pauses-stop}
use Rattle.inspect_replay.proofs.FollowLemmas.{kept-run, told-run}
use Rattle.replay_parts.proofs.CauseLemmas.{link-cause, settled-cause}
use Rattle.replay_parts.proofs.StopLemmas.{some-printed}
use Rattle.inspect_replay.proofs.run.show_pauses.Goals as goal

pub returns-in-Err : goal.returns-in-Err
returns-in-Err g c = record {
  honest = search rules;
  cause = link-cause (Err c.in-Err.stop) _ _ _ c.in-Err.ensures.cause;
  follows = c.in-Err.ensures.follows;
  some = tt;
  runs = λ number.
      show-stops c.in-Err.stop (g.L.Link.honest c.args.link.now) (g.L.Link.honest c.settle.new.link) (g.L.Link.up c.args.link.now)
      (g.L.Link.down c.args.link.now) (g.L.Link.up c.settle.new.link) (g.L.Link.down c.settle.new.link)
      (g.K.Sink.taken c.args.out.now) c.args.ends.now c.settle.new.self (numbered_line number show_pauses)
      (λ up0 down0 w left run. (c.in-Err.ensures.steps up0 down0 w left run).0);
}

pub returns-in-Ok-print_pauses : goal.returns-in-Ok-print_pauses
returns-in-Ok-print_pauses g c = record {
  honest = search rules;
  cause = settled-cause (Ok c.in-Ok-print_pauses.field-0) _ _ _ _ c.in-Ok.ensures.cause c.in-Ok-print_pauses.ensures.cause;
  follows = λ state0 up0 down0 run.
      kept-run (Ok c.in-Ok-print_pauses.field-0) state0 up0 down0 _ _ c.tell_pauses.new.self tt
      (told-run state0 up0 down0 _ _ c.settle.new.self c.tell_pauses.new.self c.settle.new.self.told
      (length c.settle.new.self.front.value.pauses) c.tell_pauses.ensures (c.in-Ok.ensures.follows state0 up0 down0 run).0);
  some = some-printed (Ok c.in-Ok-print_pauses.field-0) _ _ _ c.in-Ok-print_pauses.ensures.ok;
  runs = λ number.
      let untold : Untold c.settle.new.self.told_pauses c.settle.new.self.front.value.pauses c.split_at.result.1.now = record {
        all = c.pauses-pauses.result.now;
        all_is = c.pauses-pauses.ensures;
        count = c.min-told.result;
        count_is = c.min-told.ensures;
        kept_is = c.split_at.ensures.back;
      } in
      pauses-carried number (g.L.Link.honest c.args.link.now) (g.L.Link.honest c.settle.new.link) (g.L.Link.up c.args.link.now)
      (g.L.Link.down c.args.link.now) (g.L.Link.up c.settle.new.link) (g.L.Link.down c.settle.new.link)
      (g.K.Sink.taken c.args.out.now)
      (g.K.Sink.taken c.print_pauses.new.out) c.args.ends.now c.settle.new.self c.tell_pauses.new.self c.split_at.result.1.now
      (λ up0 down0 w left run. (c.in-Ok.ensures.steps up0 down0 w left run).1) untold c.in-Ok-print_pauses.ensures.ok c.tell_pauses.ensures;
}

pub returns-in-Err-print_pauses : goal.returns-in-Err-print_pauses
returns-in-Err-print_pauses g c = record {
  honest = search rules;
  cause = settled-cause (Err c.in-Err-print_pauses.stop) _ _ _ _ c.in-Ok.ensures.cause c.in-Err-print_pauses.ensures.cause;
  follows = λ state0 up0 down0 run.
      kept-run {T = Unit {0}} (Err c.in-Err-print_pauses.stop) state0 up0 down0 _ _ c.settle.new.self c.in-Err-print_pauses.ensures.never
      (c.in-Ok.ensures.follows state0 up0 down0 run).0;
  some = tt;
  runs = λ number.
      let untold : Untold c.settle.new.self.told_pauses c.settle.new.self.front.value.pauses c.split_at.result.1.now = record {
        all = c.pauses-pauses.result.now;
        all_is = c.pauses-pauses.ensures;
        count = c.min-told.result;
        count_is = c.min-told.ensures;
        kept_is = c.split_at.ensures.back;
      } in
      pauses-stop number c.in-Err-print_pauses.stop (g.L.Link.honest c.args.link.now) (g.L.Link.honest c.settle.new.link)
      (g.L.Link.up c.args.link.now) (g.L.Link.down c.args.link.now) (g.L.Link.up c.settle.new.link) (g.L.Link.down c.settle.new.link)
      (g.K.Sink.taken c.args.out.now)
      (g.K.Sink.taken c.print_pauses.new.out) c.args.ends.now c.settle.new.self c.settle.new.self c.split_at.result.1.now
      (λ up0 down0 w left run. (c.in-Ok.ensures.steps up0 down0 w left run).1) untold c.in-Err-print_pauses.ensures.never
      c.in-Err-print_pauses.ensures.err;
}
