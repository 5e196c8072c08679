-- An ask of the second front end is sent, where it stands.
use Rattle.std.proofs.Common.{rules, refl, sym, Err}
use Rattle.replay_script.specs.Forms.{ask}
use Rattle.replay_script.specs.Seen.{seen_ask}
use Rattle.replay_script.specs.PairLines.{of_second}
use Rattle.replay_parts.specs.Moments.{moment}
use Rattle.pair_replay.proofs.StopLemmas.{refused-still, bad-session-well}
use Rattle.pair_replay.proofs.PairFollows.{kept-run}
use Rattle.pair_replay.proofs.LineFollows.{keeps-passes, keeps-still, ask-refused-tells, ask-judged}
use Rattle.pair_replay.proofs.CarryLemmas.{ask-refused, ask-carries}
use Rattle.replay_parts.proofs.CauseLemmas.{stop-run}
use Rattle.pair_replay.proofs.carry.carry_second_ask.Goals as goal

pub ask-requires-clause-can : goal.ask-requires-clause-can
ask-requires-clause-can g c = c.requires.can

pub ask-requires-clause-may : goal.ask-requires-clause-may
ask-requires-clause-may g c = c.requires.may

pub ask-requires-clause-params : goal.ask-requires-clause-params
ask-requires-clause-params g c = c.requires.params

pub ask-requires-clause-stands : goal.ask-requires-clause-stands
ask-requires-clause-stands g c = sym c.if-not-second_stands.ensures

pub returns-then-not-second_stands-clause-follows : goal.returns-then-not-second_stands-clause-follows
returns-then-not-second_stands-clause-follows g c =
    let old = moment (g.L.Link.honest c.args.link.now) (g.L.Link.up c.args.link.now) (g.L.Link.down c.args.link.now) c.args.ends.now in
    keeps-passes (Err c.bad_session.result) (of_second (ask (seen_ask c.args.sent.now))) old old (λ start. refl)
    (λ start up0 down0 run.
    kept-run start up0 down0 old.up old.down old.ends run {T = Unit {0}} (Err c.bad_session.result)
    (bad-session-well c.bad_session.result c.args.number c.bad_session.ensures))

pub returns-then-not-second_stands-clause-tells : goal.returns-then-not-second_stands-clause-tells
returns-then-not-second_stands-clause-tells g c =
    let old = moment (g.L.Link.honest c.args.link.now) (g.L.Link.up c.args.link.now) (g.L.Link.down c.args.link.now) c.args.ends.now in
    ask-refused-tells c.bad_session.result c.args.number old old c.bad_session.ensures (keeps-still old) (seen_ask c.args.sent.now)
    (sym c.if-not-second_stands.ensures)

pub returns-then-not-second_stands-clause-runs : goal.returns-then-not-second_stands-clause-runs
returns-then-not-second_stands-clause-runs g c =
    let old = moment (g.L.Link.honest c.args.link.now) (g.L.Link.up c.args.link.now) (g.L.Link.down c.args.link.now) c.args.ends.now in
    λ taken. ask-refused c.bad_session.result old taken c.args.number (seen_ask c.args.sent.now) c.bad_session.ensures
    (sym c.if-not-second_stands.ensures)

pub returns-then-not-second_stands-clause-honest : goal.returns-then-not-second_stands-clause-honest
returns-then-not-second_stands-clause-honest g c =
    search rules

pub returns-then-not-second_stands-clause-cause : goal.returns-then-not-second_stands-clause-cause
returns-then-not-second_stands-clause-cause g c =
    refused-still c.bad_session.result c.args.number _ 0 _ c.bad_session.ensures

pub returns-clause-follows : goal.returns-clause-follows
returns-clause-follows g c =
    let old = moment (g.L.Link.honest c.args.link.now) (g.L.Link.up c.args.link.now) (g.L.Link.down c.args.link.now) c.args.ends.now in
    let new = moment (g.L.Link.honest c.ask.new.link) (g.L.Link.up c.ask.new.link) (g.L.Link.down c.ask.new.link) c.ask.new.self in
    keeps-passes c.ask.result (of_second (ask (seen_ask c.args.sent.now))) old new (λ start. refl) c.ask.ensures.follows

pub returns-clause-tells : goal.returns-clause-tells
returns-clause-tells g c =
    let old = moment (g.L.Link.honest c.args.link.now) (g.L.Link.up c.args.link.now) (g.L.Link.down c.args.link.now) c.args.ends.now in
    let new = moment (g.L.Link.honest c.ask.new.link) (g.L.Link.up c.ask.new.link) (g.L.Link.down c.ask.new.link) c.ask.new.self in
    ask-judged c.ask.result c.args.number old new 0 0 _ _ (seen_ask c.args.sent.now) c.ask.ensures.cause c.ask.ensures.follows
    (sym c.if-not-second_stands.ensures)

pub returns-clause-runs : goal.returns-clause-runs
returns-clause-runs g c =
    let old = moment (g.L.Link.honest c.args.link.now) (g.L.Link.up c.args.link.now) (g.L.Link.down c.args.link.now) c.args.ends.now in
    let new = moment (g.L.Link.honest c.ask.new.link) (g.L.Link.up c.ask.new.link) (g.L.Link.down c.ask.new.link) c.ask.new.self in
    λ taken. ask-carries c.ask.result old new taken c.args.number 0 0 _ _ (seen_ask c.args.sent.now) c.requires.can c.requires.may
    c.ask.ensures.cause c.ask.ensures.steps (sym c.if-not-second_stands.ensures)

pub returns-clause-honest : goal.returns-clause-honest
returns-clause-honest g c =
    search rules

pub returns-clause-cause : goal.returns-clause-cause
returns-clause-cause g c =
    stop-run c.ask.result 0 0 _ _ c.ask.ensures.cause
