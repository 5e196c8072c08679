-- The closing part is the outlines of what both clients see.
use Rattle.std.proofs.Common.{Err}
use Rattle.replay_parts.specs.Moments.{moment}
use Rattle.replay_parts.proofs.CauseLemmas.{link-cause, settled-cause}
use Rattle.pair_replay.proofs.LinesClose.{closes-well, closes-not, closes-shown}
use Rattle.pair_replay.proofs.run.close.Goals as goal

pub returns-in-Ok-clause-runs : goal.returns-in-Ok-clause-runs
returns-in-Ok-clause-runs g c =
    let old = moment (g.L.Link.honest c.args.link.now) (g.L.Link.up c.args.link.now) (g.L.Link.down c.args.link.now) c.args.ends.now in
    let mid = moment (g.L.Link.honest c.settle.new.link) (g.L.Link.up c.settle.new.link)
    (g.L.Link.down c.settle.new.link) c.settle.new.self in
    closes-well c.print_end.result old mid (g.K.Sink.taken c.args.out.now) (g.K.Sink.taken c.print_end.new.out) _ _ 0 0
    c.print_end.ensures.cause c.print_end.ensures.never c.in-Ok.ensures.steps c.print_end.ensures.ok c.print_end.ensures.err

pub returns-in-Err-clause-runs : goal.returns-in-Err-clause-runs
returns-in-Err-clause-runs g c =
    let old = moment (g.L.Link.honest c.args.link.now) (g.L.Link.up c.args.link.now) (g.L.Link.down c.args.link.now) c.args.ends.now in
    let mid = moment (g.L.Link.honest c.settle.new.link) (g.L.Link.up c.settle.new.link)
    (g.L.Link.down c.settle.new.link) c.settle.new.self in
    closes-not c.in-Err.stop old mid (g.K.Sink.taken c.args.out.now) 0 0 _ _ c.in-Err.ensures.cause c.in-Err.ensures.steps

pub returns-in-Ok-clause-shown : goal.returns-in-Ok-clause-shown
returns-in-Ok-clause-shown g c =
    let old = moment (g.L.Link.honest c.args.link.now) (g.L.Link.up c.args.link.now) (g.L.Link.down c.args.link.now) c.args.ends.now in
    let mid = moment (g.L.Link.honest c.settle.new.link) (g.L.Link.up c.settle.new.link)
    (g.L.Link.down c.settle.new.link) c.settle.new.self in
    closes-shown c.print_end.result old mid (g.K.Sink.taken c.args.out.now) (g.K.Sink.taken c.print_end.new.out) 0 0 c.in-Ok.ensures.follows
    c.print_end.ensures.never c.print_end.ensures.ok

pub returns-in-Err-clause-shown : goal.returns-in-Err-clause-shown
returns-in-Err-clause-shown g c = λ start up0 down0 run. c.in-Err.ensures.follows start up0 down0 run

pub returns-in-Ok-clause-cause : goal.returns-in-Ok-clause-cause
returns-in-Ok-clause-cause g c = settled-cause c.print_end.result _ _ _ _ c.in-Ok.ensures.cause c.print_end.ensures.cause

pub returns-in-Err-clause-cause : goal.returns-in-Err-clause-cause
returns-in-Err-clause-cause g c = link-cause (Err c.in-Err.stop) _ _ _ c.in-Err.ensures.cause
