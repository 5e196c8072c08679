-- After a settle the outline is that of the page, as the client of the front end sees it.
use Rattle.std.proofs.Common.{rules, ◌∙◌, refl, sym, ap, Err}
use Rattle.front_mirror.specs.Front.{FrontState}
use Rattle.replay_script.specs.Forms.{show_front}
use Rattle.replay_parts.specs.Moments.{moment}
use Rattle.pair_replay.specs.PairStarts.{line_on}
use Rattle.pair_replay.proofs.StopLemmas.{settled-printed, refused-cause, bad-session-well}
use Rattle.pair_replay.proofs.LineFaults.{tells-not}
use Rattle.pair_replay.proofs.LineRuns.{is-show-front, show-settles, settle-stops, show-refused, show-carries}
use Rattle.pair_replay.proofs.LineFollows.{passing-on, keeps-passes, settled-passes, none-tells, show-tells}
use Rattle.pair_replay.proofs.ShowLemmas.{front-says}
use Rattle.replay_parts.proofs.StopLemmas.{some-printed}
use Rattle.replay_parts.proofs.CauseLemmas.{settled-stop}
use Rattle.pair_replay.proofs.shows.show_front.Goals as goal

pub returns-in-Err-clause-plays : goal.returns-in-Err-clause-plays
returns-in-Err-clause-plays g c =
    let old = moment (g.L.Link.honest c.args.link.now) (g.L.Link.up c.args.link.now) (g.L.Link.down c.args.link.now) c.args.ends.now in
    let mid = moment (g.L.Link.honest c.settle.new.link) (g.L.Link.up c.settle.new.link)
    (g.L.Link.down c.settle.new.link) c.settle.new.self in
    record {
      honest = search rules;
      cause = settled-stop c.in-Err.stop _ _ _ c.in-Err.ensures.cause;
      follows = keeps-passes (Err c.in-Err.stop) (line_on c.args.second show_front) old mid
          (λ start. passing-on c.args.second show_front start (λ panels. refl)) c.in-Err.ensures.follows;
      some = tt;
      runs = settle-stops c.in-Err.stop old mid (g.K.Sink.taken c.args.out.now) c.args.number (line_on c.args.second show_front) 0 0 _ _
          (show-settles c.args.second show_front is-show-front) c.in-Err.ensures.cause c.in-Err.ensures.steps;
    }

pub returns-in-Err-clause-tells : goal.returns-in-Err-clause-tells
returns-in-Err-clause-tells g c =
    let old = moment (g.L.Link.honest c.args.link.now) (g.L.Link.up c.args.link.now) (g.L.Link.down c.args.link.now) c.args.ends.now in
    let mid = moment (g.L.Link.honest c.settle.new.link) (g.L.Link.up c.settle.new.link)
    (g.L.Link.down c.settle.new.link) c.settle.new.self in
    tells-not c.in-Err.stop c.args.number (line_on c.args.second show_front) old mid 0 0 _ _ c.in-Err.ensures.cause

pub returns-in_default-clause-plays : goal.returns-in_default-clause-plays
returns-in_default-clause-plays g c =
    let old = moment (g.L.Link.honest c.args.link.now) (g.L.Link.up c.args.link.now) (g.L.Link.down c.args.link.now) c.args.ends.now in
    let mid = moment (g.L.Link.honest c.settle.new.link) (g.L.Link.up c.settle.new.link)
    (g.L.Link.down c.settle.new.link) c.settle.new.self in
    record {
      honest = search rules;
      cause = refused-cause c.bad_session.result c.args.number _ _ _ _ c.bad_session.ensures c.in-Ok.ensures.cause;
      follows = settled-passes (Err c.bad_session.result) (line_on c.args.second show_front) old mid
          (λ start. passing-on c.args.second show_front start (λ panels. refl))
          (bad-session-well c.bad_session.result c.args.number c.bad_session.ensures)
          c.in-Ok.ensures.follows;
      some = tt;
      runs = show-refused c.args.second show_front c.bad_session.result old mid (g.K.Sink.taken c.args.out.now) c.args.number is-show-front
          c.bad_session.ensures (sym (c.in_default.ensures {u = tt}).stands) c.in-Ok.ensures.steps;
    }

pub returns-in_default-clause-tells : goal.returns-in_default-clause-tells
returns-in_default-clause-tells g c =
    let old = moment (g.L.Link.honest c.args.link.now) (g.L.Link.up c.args.link.now) (g.L.Link.down c.args.link.now) c.args.ends.now in
    let mid = moment (g.L.Link.honest c.settle.new.link) (g.L.Link.up c.settle.new.link)
    (g.L.Link.down c.settle.new.link) c.settle.new.self in
    none-tells c.args.second show_front c.bad_session.result c.args.number old mid (λ panels. refl) c.bad_session.ensures
    (sym (c.in_default.ensures {u = tt}).stands) c.in-Ok.ensures.follows

pub returns-clause-plays : goal.returns-clause-plays
returns-clause-plays g c =
    let old = moment (g.L.Link.honest c.args.link.now) (g.L.Link.up c.args.link.now) (g.L.Link.down c.args.link.now) c.args.ends.now in
    let mid = moment (g.L.Link.honest c.settle.new.link) (g.L.Link.up c.settle.new.link)
    (g.L.Link.down c.settle.new.link) c.settle.new.self in
    let there = sym c.in-Some.ensures.stands in
    record {
      honest = search rules;
      cause = settled-printed c.print_outline.result _ _ _ _ c.in-Ok.ensures.cause c.print_outline.ensures.cause;
      follows = settled-passes c.print_outline.result (line_on c.args.second show_front) old mid
          (λ start. passing-on c.args.second show_front start (λ panels. refl)) c.print_outline.ensures.never c.in-Ok.ensures.follows;
      some = some-printed c.print_outline.result _ _ _ c.print_outline.ensures.ok;
      runs = show-carries c.args.second show_front c.print_outline.result old mid mid (g.K.Sink.taken c.args.out.now)
          (g.K.Sink.taken c.print_outline.new.out) c.args.number is-show-front there c.in-Ok.ensures.steps
          c.print_outline.ensures.never
          (front-says c.args.second c.print_outline.result mid (g.K.Sink.taken c.args.out.now) (g.K.Sink.taken c.print_outline.new.out)
          c.args.number _ _ 0 0 c.print_outline.ensures.cause c.print_outline.ensures.never there c.words_of-heading.result.now
          c.mirror.result.now c.words_of-heading.ensures
          (c.mirror.ensures ∙ ap (λ (f : FrontState). f.value.tree) c.in-Some.ensures.front) c.print_outline.ensures.ok
          c.print_outline.ensures.err);
    }

pub returns-clause-tells : goal.returns-clause-tells
returns-clause-tells g c =
    let old = moment (g.L.Link.honest c.args.link.now) (g.L.Link.up c.args.link.now) (g.L.Link.down c.args.link.now) c.args.ends.now in
    let mid = moment (g.L.Link.honest c.settle.new.link) (g.L.Link.up c.settle.new.link)
    (g.L.Link.down c.settle.new.link) c.settle.new.self in
    show-tells c.args.second show_front c.print_outline.result c.args.number old mid _ _ 0 0 (λ panels. refl) (λ came. refl)
    c.print_outline.ensures.cause (sym c.in-Some.ensures.stands) c.in-Ok.ensures.follows
