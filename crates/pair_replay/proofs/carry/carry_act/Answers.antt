-- A change of the page is made, or what refuses it is printed.
use Rattle.std.proofs.Common.{rules, refl, arith, Option, Err}
use Rattle.back_end.specs.declared.faults.ActFault.{ActFault}
use Rattle.replay_script.specs.Forms.{act}
use Rattle.replay_script.specs.PairLines.{of_first}
use Rattle.back_end.specs.Steps.{acts}
use Rattle.pair_replay.specs.Running.{turns_page}
use Rattle.replay_parts.specs.Moments.{moment}
use Rattle.pair_replay.proofs.StopLemmas.{settled-printed, link-ok-cause, link-stop-cause}
use Rattle.pair_replay.proofs.PairFollows.{kept-run}
use Rattle.pair_replay.proofs.LineFaults.{call-tells}
use Rattle.pair_replay.proofs.CarryLemmas.{act-passes, act-carries, passes-stop}
use Rattle.replay_parts.proofs.StopLemmas.{some-printed}
use Rattle.replay_parts.proofs.CauseLemmas.{settled-stop}
use Rattle.pair_replay.proofs.carry.carry_act.Goals as goal

pub returns-in-Ok-clause-plays : goal.returns-in-Ok-clause-plays
returns-in-Ok-clause-plays g c =
    let old = moment (g.L.Link.honest c.args.link.now) (g.L.Link.up c.args.link.now) (g.L.Link.down c.args.link.now) c.args.ends.now in
    let new = moment (g.L.Link.honest c.change_page.new.link) (g.L.Link.up c.change_page.new.link)
    (g.L.Link.down c.change_page.new.link) c.change_page.new.self in
    let goes = c.in-Ok.ensures.goes in
    let made = link-ok-cause {T = Option ActFault} c.in-Ok.fault _ _ goes.cause in
    record {
      honest = search rules;
      cause = settled-printed c.print_fault.result _ _ _ _ made c.print_fault.ensures.cause;
      follows = λ start up0 down0 run.
          kept-run start up0 down0 new.up new.down new.ends
          (goes.follows start up0 down0 run).0 c.print_fault.result c.print_fault.ensures.never;
      some = some-printed c.print_fault.result _ _ _ c.print_fault.ensures.ok;
      runs = act-carries c.print_fault.result c.in-Ok.fault old new (g.K.Sink.taken c.args.out.now) (g.K.Sink.taken c.print_fault.new.out)
          c.args.number _ _ 0 0 c.args.change goes.steps c.requires c.in-Ok.ensures.fault c.print_fault.ensures.cause
          c.print_fault.ensures.never c.print_fault.ensures.ok c.print_fault.ensures.err;
    }

pub returns-in-Ok-clause-tells : goal.returns-in-Ok-clause-tells
returns-in-Ok-clause-tells g c =
    let old = moment (g.L.Link.honest c.args.link.now) (g.L.Link.up c.args.link.now) (g.L.Link.down c.args.link.now) c.args.ends.now in
    let new = moment (g.L.Link.honest c.change_page.new.link) (g.L.Link.up c.change_page.new.link)
    (g.L.Link.down c.change_page.new.link) c.change_page.new.self in
    call-tells c.print_fault.result c.args.number (of_first (act c.args.change)) old new _ _ 0 0
    (λ m panels. refl) c.print_fault.ensures.cause
    (λ start up0 down0 run.
    (kept-run start up0 down0 new.up new.down new.ends (c.in-Ok.ensures.goes.follows start up0 down0 run).0 c.print_fault.result
    c.print_fault.ensures.never).0)

pub returns-in-Err-clause-plays : goal.returns-in-Err-clause-plays
returns-in-Err-clause-plays g c =
    let old = moment (g.L.Link.honest c.args.link.now) (g.L.Link.up c.args.link.now) (g.L.Link.down c.args.link.now) c.args.ends.now in
    let new = moment (g.L.Link.honest c.change_page.new.link) (g.L.Link.up c.change_page.new.link)
    (g.L.Link.down c.change_page.new.link) c.change_page.new.self in
    let goes = c.in-Err.ensures.goes in
    let cause = link-stop-cause {T = Option ActFault} c.in-Err.stop _ _ goes.cause in
    record {
      honest = search rules;
      cause = settled-stop c.in-Err.stop _ _ _ cause;
      follows = goes.follows;
      some = tt;
      runs = λ up0 down0 more w v play.
          let all = passes-stop (of_first (act c.args.change)) (turns_page (acts c.args.change)) (act-passes c.args.change c.requires) 0
          (omega arith) old new (Option ActFault) c.in-Err.stop
          (g.K.Sink.taken c.args.out.now) c.args.number 0 0 _ _ cause goes.steps up0 down0
          more w v refl play in
          (tt, all.0, all.1, all.2);
    }

pub returns-in-Err-clause-tells : goal.returns-in-Err-clause-tells
returns-in-Err-clause-tells g c =
    let old = moment (g.L.Link.honest c.args.link.now) (g.L.Link.up c.args.link.now) (g.L.Link.down c.args.link.now) c.args.ends.now in
    let new = moment (g.L.Link.honest c.change_page.new.link) (g.L.Link.up c.change_page.new.link)
    (g.L.Link.down c.change_page.new.link) c.change_page.new.self in
    call-tells (Err c.in-Err.stop) c.args.number (of_first (act c.args.change)) old new 0 0 _ _ (λ m panels. refl)
    (link-stop-cause {T = Option ActFault} c.in-Err.stop _ _ c.in-Err.ensures.goes.cause) (λ start up0 down0 run. tt)
