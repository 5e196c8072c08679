-- After a settle the panels show the faces of what the client of the first front end sees of the page.
use Rattle.std.proofs.Common.{rules, false, refl, Err}
use Rattle.replay_script.specs.Forms.{show_panels}
use Rattle.replay_script.specs.PairLines.{of_first}
use Rattle.replay_parts.specs.Moments.{moment}
use Rattle.pair_replay.proofs.StopLemmas.{settled-printed}
use Rattle.pair_replay.proofs.LineRuns.{settle-stops}
use Rattle.pair_replay.proofs.LineFollows.{keeps-passes, settled-passes, show-tells}
use Rattle.pair_replay.proofs.LineFaults.{tells-not}
use Rattle.pair_replay.proofs.ShowLemmas.{panels-carry, panels-first}
use Rattle.replay_parts.proofs.CauseLemmas.{settled-stop}
use Rattle.pair_replay.proofs.shows.show_panels.Goals as goal

pub returns-in-Err-clause-plays : goal.returns-in-Err-clause-plays
returns-in-Err-clause-plays g c = λ number.
    let old = moment (g.L.Link.honest c.args.link.now) (g.L.Link.up c.args.link.now) (g.L.Link.down c.args.link.now) c.args.ends.now in
    let mid = moment (g.L.Link.honest c.settle.new.link) (g.L.Link.up c.settle.new.link)
    (g.L.Link.down c.settle.new.link) c.settle.new.self in
    record {
      honest = search rules;
      cause = settled-stop c.in-Err.stop _ _ _ c.in-Err.ensures.cause;
      follows = keeps-passes (Err c.in-Err.stop) (of_first show_panels) old mid (λ start. refl) c.in-Err.ensures.follows;
      some = tt;
      runs = settle-stops c.in-Err.stop old mid (g.K.Sink.taken c.args.out.now) number (of_first show_panels) 0 0 _ _ panels-first
          c.in-Err.ensures.cause c.in-Err.ensures.steps;
    }

pub returns-in-Ok-clause-plays : goal.returns-in-Ok-clause-plays
returns-in-Ok-clause-plays g c = λ number.
    let old = moment (g.L.Link.honest c.args.link.now) (g.L.Link.up c.args.link.now) (g.L.Link.down c.args.link.now) c.args.ends.now in
    let mid = moment (g.L.Link.honest c.settle.new.link) (g.L.Link.up c.settle.new.link)
    (g.L.Link.down c.settle.new.link) c.settle.new.self in
    record {
      honest = search rules;
      cause = settled-printed c.print_panels.result _ _ _ _ c.in-Ok.ensures.cause c.print_panels.ensures.cause;
      follows = settled-passes c.print_panels.result (of_first show_panels) old mid (λ start. refl) c.print_panels.ensures.never
          c.in-Ok.ensures.follows;
      some = c.print_panels.ensures.some;
      runs = panels-carry c.print_panels.result old mid (g.K.Sink.taken c.args.out.now)
          (g.K.Sink.taken c.print_panels.new.out) number _ _ 0 0
          c.first.result.now c.print_panels.ensures.cause c.print_panels.ensures.never c.in-Ok.ensures.steps c.first.ensures
          c.print_panels.ensures.ok c.print_panels.ensures.err;
    }

pub returns-in-Err-clause-tells : goal.returns-in-Err-clause-tells
returns-in-Err-clause-tells g c = λ number.
    let old = moment (g.L.Link.honest c.args.link.now) (g.L.Link.up c.args.link.now) (g.L.Link.down c.args.link.now) c.args.ends.now in
    let mid = moment (g.L.Link.honest c.settle.new.link) (g.L.Link.up c.settle.new.link)
    (g.L.Link.down c.settle.new.link) c.settle.new.self in
    tells-not c.in-Err.stop number (of_first show_panels) old mid 0 0 _ _ c.in-Err.ensures.cause

pub returns-in-Ok-clause-tells : goal.returns-in-Ok-clause-tells
returns-in-Ok-clause-tells g c = λ number.
    let old = moment (g.L.Link.honest c.args.link.now) (g.L.Link.up c.args.link.now) (g.L.Link.down c.args.link.now) c.args.ends.now in
    let mid = moment (g.L.Link.honest c.settle.new.link) (g.L.Link.up c.settle.new.link)
    (g.L.Link.down c.settle.new.link) c.settle.new.self in
    show-tells false show_panels c.print_panels.result number old mid _ _ 0 0 (λ panels. refl)
    (λ came. refl) c.print_panels.ensures.cause refl
    c.in-Ok.ensures.follows
