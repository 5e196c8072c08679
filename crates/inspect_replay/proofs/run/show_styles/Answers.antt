-- After a settle the matched styles are those that the client was told.
use Rattle.std.proofs.Common.{rules, option_map}
use Rattle.replay_script.specs.Forms.{show_styles}
use Rattle.inspect_replay.specs.Followed.{fold_since}
use Rattle.inspect_replay.specs.Prints.{numbered_line}
use Rattle.inspect_replay.proofs.RunLemmas.{show-stops}
use Rattle.inspect_replay.proofs.LinesRun.{stopped-line}
use Rattle.replay_parts.proofs.CauseLemmas.{settled-run}
use Rattle.inspect_replay.proofs.LinesTell.{stopped-tells}
use Rattle.inspect_replay.proofs.StylesLemmas.{styles-carry, styles-tell}
use Rattle.inspect_replay.proofs.FollowLemmas.{kept-run, run-fewer}
use Rattle.replay_parts.proofs.CauseLemmas.{settled-stop}
use Rattle.inspect_replay.proofs.run.show_styles.Goals as goal

pub returns-in-Ok-clause-plays : goal.returns-in-Ok-clause-plays
returns-in-Ok-clause-plays g c = record {
  honest = search rules;
  cause = settled-run c.print_matched.result _ _ _ _ c.in-Ok.ensures.cause c.print_matched.ensures.cause;
  follows = λ state0 up0 down0 run.
      kept-run c.print_matched.result state0 up0 down0 _ _ c.settle.new.self c.print_matched.ensures.never
      (c.in-Ok.ensures.follows state0 up0 down0 run).0;
  some = c.print_matched.ensures.some;
  runs = styles-carry c.print_matched.result c.args.number c.args.ask
      (option_map (λ m. m.now) c.matched_reply.result) _ _ _ _ _ _ _ _ c.args.ends.now c.settle.new.self
      (λ up0 down0 w left run. (c.in-Ok.ensures.steps up0 down0 w left run).1) c.matched_reply.ensures c.print_matched.ensures.took
      c.print_matched.ensures.tells;
}

pub returns-in-Ok-clause-tells : goal.returns-in-Ok-clause-tells
returns-in-Ok-clause-tells g c = λ state0 up0 down0 run.
    styles-tell c.print_matched.result c.args.number c.args.ask
    (option_map (λ m. m.now) c.matched_reply.result) state0 up0 down0 _ _ c.settle.new.self
    (c.in-Ok.ensures.follows state0 up0 down0
    (run-fewer state0 up0 down0 _ _ c.args.ends.now run)).0 c.matched_reply.ensures c.print_matched.ensures.tells

pub returns-in-Err-clause-plays : goal.returns-in-Err-clause-plays
returns-in-Err-clause-plays g c = record {
  honest = search rules;
  cause = settled-stop c.in-Err.stop _ _ _ c.in-Err.ensures.cause;
  follows = c.in-Err.ensures.follows;
  some = tt;
  runs = stopped-line c.in-Err.stop _ _ _ _ c.args.number (show_styles c.args.ask) (g.L.Link.honest c.args.link.now)
      (g.L.Link.honest c.settle.new.link) (g.L.Link.up c.args.link.now) (g.L.Link.down c.args.link.now)
      (g.L.Link.up c.settle.new.link) (g.L.Link.down c.settle.new.link) (g.K.Sink.taken c.args.out.now)
      (g.K.Sink.taken c.args.out.now) c.args.ends.now c.settle.new.self c.in-Err.ensures.cause
      (show-stops c.in-Err.stop (g.L.Link.honest c.args.link.now) (g.L.Link.honest c.settle.new.link) (g.L.Link.up c.args.link.now)
      (g.L.Link.down c.args.link.now) (g.L.Link.up c.settle.new.link) (g.L.Link.down c.settle.new.link)
      (g.K.Sink.taken c.args.out.now) c.args.ends.now c.settle.new.self (numbered_line c.args.number (show_styles c.args.ask))
      (λ up0 down0 w left run. (c.in-Err.ensures.steps up0 down0 w left run).0));
}

pub returns-in-Err-clause-tells : goal.returns-in-Err-clause-tells
returns-in-Err-clause-tells g c = λ state0 up0 down0 run.
    stopped-tells c.in-Err.stop _ _ _ _ c.args.number (show_styles c.args.ask) state0
    (fold_since up0 down0 (g.L.Link.up c.settle.new.link) (g.L.Link.down c.settle.new.link)) c.in-Err.ensures.cause
