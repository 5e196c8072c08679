-- The replies that came since they were told last are printed, and count as told.
use Rattle.std.proofs.Common.{rules, length, Ok, Err}
use Rattle.replay_script.specs.Forms.{show_replies}
use Rattle.inspect_replay.specs.Prints.{numbered_line}
use Rattle.inspect_replay.proofs.RunLemmas.{Untold, show-stops, replies-carried, replies-stop}
use Rattle.inspect_replay.proofs.FollowLemmas.{kept-run, told-run}
use Rattle.replay_parts.proofs.CauseLemmas.{link-cause, settled-cause}
use Rattle.replay_parts.proofs.StopLemmas.{some-printed}
use Rattle.inspect_replay.proofs.run.show_replies.Goals as goal

pub returns-in-Err : goal.returns-in-Err
returns-in-Err g c = record {
  honest = search rules;
  cause = link-cause (Err c.in-Err.stop) _ _ _ c.in-Err.ensures.cause;
  follows = c.in-Err.ensures.follows;
  some = tt;
  runs = λ number.
      show-stops c.in-Err.stop (g.L.Link.honest c.args.link.now) (g.L.Link.honest c.settle.new.link) (g.L.Link.up c.args.link.now)
      (g.L.Link.down c.args.link.now) (g.L.Link.up c.settle.new.link) (g.L.Link.down c.settle.new.link)
      (g.K.Sink.taken c.args.out.now) c.args.ends.now c.settle.new.self (numbered_line number show_replies)
      (λ up0 down0 w left run. (c.in-Err.ensures.steps up0 down0 w left run).0);
}

pub returns-in-Ok-print_replies : goal.returns-in-Ok-print_replies
returns-in-Ok-print_replies g c = record {
  honest = search rules;
  cause = settled-cause (Ok c.in-Ok-print_replies.field-0) _ _ _ _ c.in-Ok.ensures.cause c.in-Ok-print_replies.ensures.cause;
  follows = λ state0 up0 down0 run.
      kept-run (Ok c.in-Ok-print_replies.field-0) state0 up0 down0 _ _ c.tell_replies.new.self tt
      (told-run state0 up0 down0 _ _ c.settle.new.self c.tell_replies.new.self
      (length c.settle.new.self.front.value.replies) c.settle.new.self.told_pauses c.tell_replies.ensures
      (c.in-Ok.ensures.follows state0 up0 down0 run).0);
  some = some-printed (Ok c.in-Ok-print_replies.field-0) _ _ _ c.in-Ok-print_replies.ensures.ok;
  runs = λ number.
      let untold : Untold c.settle.new.self.told c.settle.new.self.front.value.replies c.split_at.result.1.now = record {
        all = c.replies-replies.result.now;
        all_is = c.replies-replies.ensures;
        count = c.min-told.result;
        count_is = c.min-told.ensures;
        kept_is = c.split_at.ensures.back;
      } in
      replies-carried number (g.L.Link.honest c.args.link.now) (g.L.Link.honest c.settle.new.link) (g.L.Link.up c.args.link.now)
      (g.L.Link.down c.args.link.now) (g.L.Link.up c.settle.new.link) (g.L.Link.down c.settle.new.link)
      (g.K.Sink.taken c.args.out.now)
      (g.K.Sink.taken c.print_replies.new.out) c.args.ends.now c.settle.new.self c.tell_replies.new.self c.split_at.result.1.now
      (λ up0 down0 w left run. (c.in-Ok.ensures.steps up0 down0 w left run).1) untold c.in-Ok-print_replies.ensures.ok
      c.tell_replies.ensures;
}

pub returns-in-Err-print_replies : goal.returns-in-Err-print_replies
returns-in-Err-print_replies g c = record {
  honest = search rules;
  cause = settled-cause (Err c.in-Err-print_replies.stop) _ _ _ _ c.in-Ok.ensures.cause c.in-Err-print_replies.ensures.cause;
  follows = λ state0 up0 down0 run.
      kept-run {T = Unit {0}} (Err c.in-Err-print_replies.stop) state0 up0 down0 _ _ c.settle.new.self c.in-Err-print_replies.ensures.never
      (c.in-Ok.ensures.follows state0 up0 down0 run).0;
  some = tt;
  runs = λ number.
      let untold : Untold c.settle.new.self.told c.settle.new.self.front.value.replies c.split_at.result.1.now = record {
        all = c.replies-replies.result.now;
        all_is = c.replies-replies.ensures;
        count = c.min-told.result;
        count_is = c.min-told.ensures;
        kept_is = c.split_at.ensures.back;
      } in
      replies-stop number c.in-Err-print_replies.stop (g.L.Link.honest c.args.link.now) (g.L.Link.honest c.settle.new.link)
      (g.L.Link.up c.args.link.now) (g.L.Link.down c.args.link.now) (g.L.Link.up c.settle.new.link) (g.L.Link.down c.settle.new.link)
      (g.K.Sink.taken c.args.out.now)
      (g.K.Sink.taken c.print_replies.new.out) c.args.ends.now c.settle.new.self c.settle.new.self c.split_at.result.1.now
      (λ up0 down0 w left run. (c.in-Ok.ensures.steps up0 down0 w left run).1) untold c.in-Err-print_replies.ensures.never
      c.in-Err-print_replies.ensures.err;
}
