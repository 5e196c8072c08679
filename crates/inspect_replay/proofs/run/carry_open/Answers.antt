-- A line that drops no panel is carried out: one that shows matched styles, and any other.
use Rattle.std.proofs.Common.{rules, ◌∙◌, sym, subst}
use Rattle.replay_script.specs.Forms.{LineForm}
use Rattle.replay_script.specs.Seen.{seen}
use Rattle.inspect_replay.specs.Followed.{LineTells}
use Rattle.inspect_replay.specs.Prints.{CarriesLine, numbered_line}
use Rattle.replay_parts.specs.Moments.{moment, scene}
use Rattle.inspect_replay.proofs.LinesRun.{shows-styles, plain-line}
use Rattle.inspect_replay.proofs.LinesTell.{plain-tells, keeps-passing}
use Rattle.inspect_replay.proofs.FollowLemmas.{run-fewer}
use Rattle.replay_parts.proofs.CauseLemmas.{stop-run}
use Rattle.inspect_replay.proofs.run.carry_open.Goals as goal

pub carry_plain-requires-clause-plain : goal.carry_plain-requires-clause-plain
carry_plain-requires-clause-plain g c = sym c.styles_ask.ensures ∙ c.in-None.is

pub returns-in-Some-clause-plays : goal.returns-in-Some-clause-plays
returns-in-Some-clause-plays g c = record {
  honest = search rules;
  cause = c.show_styles.ensures.plays.cause;
  follows = keeps-passing c.show_styles.result
      (moment (g.L.Link.honest c.args.link.now) (g.L.Link.up c.args.link.now) (g.L.Link.down c.args.link.now) c.args.ends.now)
      (moment (g.L.Link.honest c.show_styles.new.link) (g.L.Link.up c.show_styles.new.link)
      (g.L.Link.down c.show_styles.new.link) c.show_styles.new.ends)
      (seen c.args.line) c.requires.keeps
      (λ state0 up0 down0 run. c.show_styles.ensures.plays.follows state0 up0 down0
      (run-fewer state0 up0 down0 _ _ c.args.ends.now run));
  some = c.show_styles.ensures.plays.some;
  runs = let is = shows-styles (seen c.args.line) c.in-Some.ask (sym c.styles_ask.ensures ∙ c.in-Some.is) in
      subst (λ (form : LineForm). CarriesLine
      (scene (moment (g.L.Link.honest c.args.link.now) (g.L.Link.up c.args.link.now) (g.L.Link.down c.args.link.now) c.args.ends.now)
      (g.K.Sink.taken c.args.out.now))
      (scene (moment (g.L.Link.honest c.show_styles.new.link) (g.L.Link.up c.show_styles.new.link)
      (g.L.Link.down c.show_styles.new.link) c.show_styles.new.ends) (g.K.Sink.taken c.show_styles.new.out))
      (numbered_line c.args.number form) c.show_styles.result) (sym is) c.show_styles.ensures.plays.runs;
}

pub returns-in-Some-clause-tells : goal.returns-in-Some-clause-tells
returns-in-Some-clause-tells g c =
    let is = shows-styles (seen c.args.line) c.in-Some.ask (sym c.styles_ask.ensures ∙ c.in-Some.is) in
    subst (λ (form : LineForm). LineTells
    (moment (g.L.Link.honest c.args.link.now) (g.L.Link.up c.args.link.now) (g.L.Link.down c.args.link.now) c.args.ends.now)
    (moment (g.L.Link.honest c.show_styles.new.link) (g.L.Link.up c.show_styles.new.link)
    (g.L.Link.down c.show_styles.new.link) c.show_styles.new.ends)
    (numbered_line c.args.number form) c.show_styles.result) (sym is) c.show_styles.ensures.tells

pub returns-in-None-clause-plays : goal.returns-in-None-clause-plays
returns-in-None-clause-plays g c = record {
  honest = search rules;
  cause = stop-run c.carry_plain.result _ _ _ _ c.carry_plain.ensures.cause;
  follows = keeps-passing c.carry_plain.result
      (moment (g.L.Link.honest c.args.link.now) (g.L.Link.up c.args.link.now) (g.L.Link.down c.args.link.now) c.args.ends.now)
      (moment (g.L.Link.honest c.carry_plain.new.link) (g.L.Link.up c.carry_plain.new.link)
      (g.L.Link.down c.carry_plain.new.link) c.carry_plain.new.ends)
      (seen c.args.line) c.requires.keeps c.carry_plain.ensures.follows;
  some = c.carry_plain.ensures.some;
  runs = plain-line c.carry_plain.result _ _ _ _ _ _ _ _ c.args.ends.now c.carry_plain.new.ends c.args.number (seen c.args.line) _ _ _ _
      c.requires.keeps (sym c.styles_ask.ensures ∙ c.in-None.is) c.carry_plain.ensures.cause c.carry_plain.ensures.runs;
}

pub returns-in-None-clause-tells : goal.returns-in-None-clause-tells
returns-in-None-clause-tells g c =
    plain-tells c.carry_plain.result
    (moment (g.L.Link.honest c.args.link.now) (g.L.Link.up c.args.link.now) (g.L.Link.down c.args.link.now) c.args.ends.now)
    (moment (g.L.Link.honest c.carry_plain.new.link) (g.L.Link.up c.carry_plain.new.link)
    (g.L.Link.down c.carry_plain.new.link) c.carry_plain.new.ends)
    c.args.number (seen c.args.line) _ _ _ _
    c.requires.keeps (sym c.styles_ask.ensures ∙ c.in-None.is) c.carry_plain.ensures.cause c.carry_plain.ensures.follows
