-- After a settle the matched styles are those that the client of the front end was told.
use Rattle.std.proofs.Common.{rules, ◌∙◌, refl, sym, ap, option_map, Err}
use Rattle.front_mirror.specs.Front.{FrontState, matched_in}
use Rattle.replay_script.specs.Forms.{show_styles}
use Rattle.replay_parts.specs.Moments.{moment}
use Rattle.pair_replay.specs.PairStarts.{line_on}
use Rattle.pair_replay.proofs.StopLemmas.{refused-cause, bad-session-well}
use Rattle.replay_parts.proofs.CauseLemmas.{settled-run}
use Rattle.pair_replay.proofs.LineFaults.{tells-not}
use Rattle.pair_replay.proofs.LineRuns.{is-show-styles, show-settles, settle-stops, show-refused, show-carries}
use Rattle.pair_replay.proofs.LineFollows.{passing-on, keeps-passes, settled-passes, none-tells, styles-tell}
use Rattle.pair_replay.proofs.ShowLemmas.{styles-say}
use Rattle.replay_parts.proofs.CauseLemmas.{settled-stop}
use Rattle.pair_replay.proofs.shows.show_styles.Goals as goal

pub returns-in-Err-clause-plays : goal.returns-in-Err-clause-plays
returns-in-Err-clause-plays g c =
    let old = moment (g.L.Link.honest c.args.link.now) (g.L.Link.up c.args.link.now) (g.L.Link.down c.args.link.now) c.args.ends.now in
    let mid = moment (g.L.Link.honest c.settle.new.link) (g.L.Link.up c.settle.new.link)
    (g.L.Link.down c.settle.new.link) c.settle.new.self in
    record {
      honest = search rules;
      cause = settled-stop c.in-Err.stop _ _ _ c.in-Err.ensures.cause;
      follows = keeps-passes (Err c.in-Err.stop) (line_on c.args.second (show_styles c.args.ask)) old mid
          (λ start. passing-on c.args.second (show_styles c.args.ask) start (λ panels. refl)) c.in-Err.ensures.follows;
      some = tt;
      runs = settle-stops c.in-Err.stop old mid (g.K.Sink.taken c.args.out.now) c.args.number
          (line_on c.args.second (show_styles c.args.ask)) 0 0 _ _
          (show-settles c.args.second (show_styles c.args.ask) (is-show-styles c.args.ask)) c.in-Err.ensures.cause c.in-Err.ensures.steps;
    }

pub returns-in-Err-clause-tells : goal.returns-in-Err-clause-tells
returns-in-Err-clause-tells g c =
    let old = moment (g.L.Link.honest c.args.link.now) (g.L.Link.up c.args.link.now) (g.L.Link.down c.args.link.now) c.args.ends.now in
    let mid = moment (g.L.Link.honest c.settle.new.link) (g.L.Link.up c.settle.new.link)
    (g.L.Link.down c.settle.new.link) c.settle.new.self in
    tells-not c.in-Err.stop c.args.number (line_on c.args.second (show_styles c.args.ask)) old mid 0 0 _ _ c.in-Err.ensures.cause

pub returns-in_default-clause-plays : goal.returns-in_default-clause-plays
returns-in_default-clause-plays g c =
    let old = moment (g.L.Link.honest c.args.link.now) (g.L.Link.up c.args.link.now) (g.L.Link.down c.args.link.now) c.args.ends.now in
    let mid = moment (g.L.Link.honest c.settle.new.link) (g.L.Link.up c.settle.new.link)
    (g.L.Link.down c.settle.new.link) c.settle.new.self in
    record {
      honest = search rules;
      cause = refused-cause c.bad_session.result c.args.number _ _ _ _ c.bad_session.ensures c.in-Ok.ensures.cause;
      follows = settled-passes (Err c.bad_session.result) (line_on c.args.second (show_styles c.args.ask)) old mid
          (λ start. passing-on c.args.second (show_styles c.args.ask) start (λ panels. refl))
          (bad-session-well c.bad_session.result c.args.number c.bad_session.ensures)
          c.in-Ok.ensures.follows;
      some = tt;
      runs = show-refused c.args.second (show_styles c.args.ask) c.bad_session.result old mid (g.K.Sink.taken c.args.out.now) c.args.number
          (is-show-styles c.args.ask)
          c.bad_session.ensures (sym (c.in_default.ensures {u = tt}).stands) c.in-Ok.ensures.steps;
    }

pub returns-in_default-clause-tells : goal.returns-in_default-clause-tells
returns-in_default-clause-tells g c =
    let old = moment (g.L.Link.honest c.args.link.now) (g.L.Link.up c.args.link.now) (g.L.Link.down c.args.link.now) c.args.ends.now in
    let mid = moment (g.L.Link.honest c.settle.new.link) (g.L.Link.up c.settle.new.link)
    (g.L.Link.down c.settle.new.link) c.settle.new.self in
    none-tells c.args.second (show_styles c.args.ask) c.bad_session.result c.args.number old mid (λ panels. refl) c.bad_session.ensures
    (sym (c.in_default.ensures {u = tt}).stands) c.in-Ok.ensures.follows

pub returns-clause-plays : goal.returns-clause-plays
returns-clause-plays g c =
    let old = moment (g.L.Link.honest c.args.link.now) (g.L.Link.up c.args.link.now) (g.L.Link.down c.args.link.now) c.args.ends.now in
    let mid = moment (g.L.Link.honest c.settle.new.link) (g.L.Link.up c.settle.new.link)
    (g.L.Link.down c.settle.new.link) c.settle.new.self in
    let there = sym c.in-Some.ensures.stands in
    let found = option_map (λ m. m.now) c.matched_reply.result in
    record {
      honest = search rules;
      cause = settled-run c.print_matched.result _ _ _ _ c.in-Ok.ensures.cause c.print_matched.ensures.cause;
      follows = settled-passes c.print_matched.result (line_on c.args.second (show_styles c.args.ask)) old mid
          (λ start. passing-on c.args.second (show_styles c.args.ask) start (λ panels. refl)) c.print_matched.ensures.never
          c.in-Ok.ensures.follows;
      some = c.print_matched.ensures.some;
      runs = show-carries c.args.second (show_styles c.args.ask) c.print_matched.result old mid mid (g.K.Sink.taken c.args.out.now)
          (g.K.Sink.taken c.print_matched.new.out) c.args.number (is-show-styles c.args.ask) there c.in-Ok.ensures.steps
          c.print_matched.ensures.never
          (styles-say c.args.second c.print_matched.result mid (g.K.Sink.taken c.args.out.now) (g.K.Sink.taken c.print_matched.new.out)
          c.args.number c.args.ask c.words_of-behind.result.now found there c.words_of-behind.ensures
          (c.matched_reply.ensures ∙ ap (λ (f : FrontState). matched_in c.args.ask f.value.matched) c.in-Some.ensures.front)
          c.print_matched.ensures.took c.print_matched.ensures.tells);
    }

pub returns-clause-tells : goal.returns-clause-tells
returns-clause-tells g c =
    let old = moment (g.L.Link.honest c.args.link.now) (g.L.Link.up c.args.link.now) (g.L.Link.down c.args.link.now) c.args.ends.now in
    let mid = moment (g.L.Link.honest c.settle.new.link) (g.L.Link.up c.settle.new.link)
    (g.L.Link.down c.settle.new.link) c.settle.new.self in
    let found = option_map (λ m. m.now) c.matched_reply.result in
    styles-tell c.args.second c.args.ask found c.print_matched.result c.args.number old mid c.print_matched.ensures.tells
    (sym c.in-Some.ensures.stands)
    (c.matched_reply.ensures ∙ ap (λ (f : FrontState). matched_in c.args.ask f.value.matched) c.in-Some.ensures.front)
    c.in-Ok.ensures.follows
