-- The session of the second front end is detached between two settles.
use Rattle.std.proofs.Common.{rules, ◌∙◌, refl, sym, Ok, Err}
use Rattle.replay_script.specs.PairLines.{detach_session}
use Rattle.replay_parts.specs.Moments.{moment}
use Rattle.pair_replay.proofs.StopLemmas.{refused-cause, bad-session-well}
use Rattle.pair_replay.proofs.LineFaults.{tells-not}
use Rattle.pair_replay.proofs.LineRuns.{settle-stops}
use Rattle.pair_replay.proofs.LineFollows.{keeps-passes, settled-passes, keeps-then, detach-refused-tells, detach-judged}
use Rattle.pair_replay.proofs.TargetLemmas.{detach-first, detach-refused, detach-unsent, detach-ends}
use Rattle.replay_parts.proofs.CauseLemmas.{stop-run, settled-stop, later-cause}
use Rattle.pair_replay.proofs.carry.carry_detach.Goals as goal

pub detach-requires : goal.detach-requires
detach-requires g c = record { stands = sym c.if-not-second_stands.ensures }

pub returns-in-Err-clause-follows : goal.returns-in-Err-clause-follows
returns-in-Err-clause-follows g c =
    let old = moment (g.L.Link.honest c.args.link.now) (g.L.Link.up c.args.link.now) (g.L.Link.down c.args.link.now) c.args.ends.now in
    let mid = moment (g.L.Link.honest c.settle.new.link) (g.L.Link.up c.settle.new.link)
    (g.L.Link.down c.settle.new.link) c.settle.new.self in
    keeps-passes (Err c.in-Err.stop) detach_session old mid (λ start. refl) c.in-Err.ensures.follows

pub returns-in-Err-clause-tells : goal.returns-in-Err-clause-tells
returns-in-Err-clause-tells g c =
    let old = moment (g.L.Link.honest c.args.link.now) (g.L.Link.up c.args.link.now) (g.L.Link.down c.args.link.now) c.args.ends.now in
    let mid = moment (g.L.Link.honest c.settle.new.link) (g.L.Link.up c.settle.new.link)
    (g.L.Link.down c.settle.new.link) c.settle.new.self in
    tells-not c.in-Err.stop c.args.number detach_session old mid 0 0 _ _ c.in-Err.ensures.cause

pub returns-in-Err-clause-runs : goal.returns-in-Err-clause-runs
returns-in-Err-clause-runs g c =
    let old = moment (g.L.Link.honest c.args.link.now) (g.L.Link.up c.args.link.now) (g.L.Link.down c.args.link.now) c.args.ends.now in
    let mid = moment (g.L.Link.honest c.settle.new.link) (g.L.Link.up c.settle.new.link)
    (g.L.Link.down c.settle.new.link) c.settle.new.self in
    λ taken. settle-stops c.in-Err.stop old mid taken c.args.number detach_session 0 0 _ _ detach-first c.in-Err.ensures.cause
    c.in-Err.ensures.steps

pub returns-in-Err-clause-honest : goal.returns-in-Err-clause-honest
returns-in-Err-clause-honest g c =
    search rules

pub returns-in-Err-clause-cause : goal.returns-in-Err-clause-cause
returns-in-Err-clause-cause g c =
    settled-stop c.in-Err.stop 0 _ _ c.in-Err.ensures.cause

pub returns-then-not-second_stands-clause-follows : goal.returns-then-not-second_stands-clause-follows
returns-then-not-second_stands-clause-follows g c =
    let old = moment (g.L.Link.honest c.args.link.now) (g.L.Link.up c.args.link.now) (g.L.Link.down c.args.link.now) c.args.ends.now in
    let mid = moment (g.L.Link.honest c.settle.new.link) (g.L.Link.up c.settle.new.link)
    (g.L.Link.down c.settle.new.link) c.settle.new.self in
    settled-passes (Err c.bad_session.result) detach_session old mid (λ start. refl)
    (bad-session-well c.bad_session.result c.args.number c.bad_session.ensures) c.in-Ok.ensures.follows

pub returns-then-not-second_stands-clause-tells : goal.returns-then-not-second_stands-clause-tells
returns-then-not-second_stands-clause-tells g c =
    let old = moment (g.L.Link.honest c.args.link.now) (g.L.Link.up c.args.link.now) (g.L.Link.down c.args.link.now) c.args.ends.now in
    let mid = moment (g.L.Link.honest c.settle.new.link) (g.L.Link.up c.settle.new.link)
    (g.L.Link.down c.settle.new.link) c.settle.new.self in
    detach-refused-tells c.bad_session.result c.args.number old mid c.bad_session.ensures c.in-Ok.ensures.follows
    (sym c.if-not-second_stands.ensures)

pub returns-then-not-second_stands-clause-runs : goal.returns-then-not-second_stands-clause-runs
returns-then-not-second_stands-clause-runs g c =
    let old = moment (g.L.Link.honest c.args.link.now) (g.L.Link.up c.args.link.now) (g.L.Link.down c.args.link.now) c.args.ends.now in
    let mid = moment (g.L.Link.honest c.settle.new.link) (g.L.Link.up c.settle.new.link)
    (g.L.Link.down c.settle.new.link) c.settle.new.self in
    λ taken. detach-refused c.args.number taken old mid c.in-Ok.ensures.steps c.bad_session.result c.bad_session.ensures
    (sym c.if-not-second_stands.ensures)

pub returns-then-not-second_stands-clause-honest : goal.returns-then-not-second_stands-clause-honest
returns-then-not-second_stands-clause-honest g c =
    search rules

pub returns-then-not-second_stands-clause-cause : goal.returns-then-not-second_stands-clause-cause
returns-then-not-second_stands-clause-cause g c =
    refused-cause c.bad_session.result c.args.number _ 0 _ _ c.bad_session.ensures c.in-Ok.ensures.cause

pub returns-in-Err-detach-clause-follows : goal.returns-in-Err-detach-clause-follows
returns-in-Err-detach-clause-follows g c =
    let old = moment (g.L.Link.honest c.args.link.now) (g.L.Link.up c.args.link.now) (g.L.Link.down c.args.link.now) c.args.ends.now in
    let mid = moment (g.L.Link.honest c.settle.new.link) (g.L.Link.up c.settle.new.link)
    (g.L.Link.down c.settle.new.link) c.settle.new.self in
    let new = moment (g.L.Link.honest c.detach.new.link) (g.L.Link.up c.detach.new.link)
    (g.L.Link.down c.detach.new.link) c.detach.new.self in
    keeps-passes (Err c.in-Err-detach.stop) detach_session old new (λ start. refl)
    (keeps-then {T = Unit {0}} {U = Unit {0}} tt (Err c.in-Err-detach.stop) old mid new c.in-Ok.ensures.follows
    c.in-Err-detach.ensures.goes.follows)

pub returns-in-Err-detach-clause-tells : goal.returns-in-Err-detach-clause-tells
returns-in-Err-detach-clause-tells g c =
    let old = moment (g.L.Link.honest c.args.link.now) (g.L.Link.up c.args.link.now) (g.L.Link.down c.args.link.now) c.args.ends.now in
    let mid = moment (g.L.Link.honest c.settle.new.link) (g.L.Link.up c.settle.new.link)
    (g.L.Link.down c.settle.new.link) c.settle.new.self in
    let new = moment (g.L.Link.honest c.detach.new.link) (g.L.Link.up c.detach.new.link)
    (g.L.Link.down c.detach.new.link) c.detach.new.self in
    tells-not c.in-Err-detach.stop c.args.number detach_session old new 0 0 _ _ c.in-Err-detach.ensures.goes.cause

pub returns-in-Err-detach-clause-runs : goal.returns-in-Err-detach-clause-runs
returns-in-Err-detach-clause-runs g c =
    let old = moment (g.L.Link.honest c.args.link.now) (g.L.Link.up c.args.link.now) (g.L.Link.down c.args.link.now) c.args.ends.now in
    let mid = moment (g.L.Link.honest c.settle.new.link) (g.L.Link.up c.settle.new.link)
    (g.L.Link.down c.settle.new.link) c.settle.new.self in
    let new = moment (g.L.Link.honest c.detach.new.link) (g.L.Link.up c.detach.new.link)
    (g.L.Link.down c.detach.new.link) c.detach.new.self in
    λ taken. detach-unsent c.args.number taken old mid c.in-Ok.ensures.steps
    (sym c.if-not-second_stands.ensures) c.in-Err-detach.stop new 0 0 _ _
    c.in-Err-detach.ensures.goes.cause c.in-Err-detach.ensures.goes.steps

pub returns-in-Err-detach-clause-honest : goal.returns-in-Err-detach-clause-honest
returns-in-Err-detach-clause-honest g c =
    search rules

pub returns-in-Err-detach-clause-cause : goal.returns-in-Err-detach-clause-cause
returns-in-Err-detach-clause-cause g c =
    later-cause (Err c.in-Err-detach.stop) 0 0 0 _ _ _ refl c.in-Ok.ensures.cause.others.2
    (stop-run (Err c.in-Err-detach.stop) 0 0 _ _ c.in-Err-detach.ensures.goes.cause)

pub returns-in-Ok-detach-clause-follows : goal.returns-in-Ok-detach-clause-follows
returns-in-Ok-detach-clause-follows g c =
    let old = moment (g.L.Link.honest c.args.link.now) (g.L.Link.up c.args.link.now) (g.L.Link.down c.args.link.now) c.args.ends.now in
    let mid = moment (g.L.Link.honest c.settle.new.link) (g.L.Link.up c.settle.new.link)
    (g.L.Link.down c.settle.new.link) c.settle.new.self in
    let mid2 = moment (g.L.Link.honest c.detach.new.link) (g.L.Link.up c.detach.new.link)
    (g.L.Link.down c.detach.new.link) c.detach.new.self in
    let mid3 = moment (g.L.Link.honest c.settle-in-Ok-detach.new.link) (g.L.Link.up c.settle-in-Ok-detach.new.link)
    (g.L.Link.down c.settle-in-Ok-detach.new.link) c.settle-in-Ok-detach.new.self in
    keeps-passes c.settle-in-Ok-detach.result detach_session old mid3 (λ start. refl)
    (keeps-then {T = Unit {0}} {U = Unit {0}} tt c.settle-in-Ok-detach.result old mid2 mid3
    (keeps-then {T = Unit {0}} {U = Unit {0}} tt (Ok tt) old mid mid2 c.in-Ok.ensures.follows c.in-Ok-detach.ensures.goes.follows)
    c.settle-in-Ok-detach.ensures.follows)

pub returns-in-Ok-detach-clause-tells : goal.returns-in-Ok-detach-clause-tells
returns-in-Ok-detach-clause-tells g c =
    let old = moment (g.L.Link.honest c.args.link.now) (g.L.Link.up c.args.link.now) (g.L.Link.down c.args.link.now) c.args.ends.now in
    let mid = moment (g.L.Link.honest c.settle.new.link) (g.L.Link.up c.settle.new.link)
    (g.L.Link.down c.settle.new.link) c.settle.new.self in
    let mid2 = moment (g.L.Link.honest c.detach.new.link) (g.L.Link.up c.detach.new.link)
    (g.L.Link.down c.detach.new.link) c.detach.new.self in
    let mid3 = moment (g.L.Link.honest c.settle-in-Ok-detach.new.link) (g.L.Link.up c.settle-in-Ok-detach.new.link)
    (g.L.Link.down c.settle-in-Ok-detach.new.link) c.settle-in-Ok-detach.new.self in
    detach-judged c.settle-in-Ok-detach.result c.args.number old mid mid2 mid3 0 0 _ _ c.settle-in-Ok-detach.ensures.cause
    c.in-Ok.ensures.follows
    c.in-Ok-detach.ensures.goes.follows c.settle-in-Ok-detach.ensures.follows (sym c.if-not-second_stands.ensures)

pub returns-in-Ok-detach-clause-runs : goal.returns-in-Ok-detach-clause-runs
returns-in-Ok-detach-clause-runs g c =
    let old = moment (g.L.Link.honest c.args.link.now) (g.L.Link.up c.args.link.now) (g.L.Link.down c.args.link.now) c.args.ends.now in
    let mid = moment (g.L.Link.honest c.settle.new.link) (g.L.Link.up c.settle.new.link)
    (g.L.Link.down c.settle.new.link) c.settle.new.self in
    let mid2 = moment (g.L.Link.honest c.detach.new.link) (g.L.Link.up c.detach.new.link)
    (g.L.Link.down c.detach.new.link) c.detach.new.self in
    let mid3 = moment (g.L.Link.honest c.settle-in-Ok-detach.new.link) (g.L.Link.up c.settle-in-Ok-detach.new.link)
    (g.L.Link.down c.settle-in-Ok-detach.new.link) c.settle-in-Ok-detach.new.self in
    λ taken. detach-ends c.args.number taken old mid c.in-Ok.ensures.steps
    (sym c.if-not-second_stands.ensures) c.settle-in-Ok-detach.result mid2 mid3 0 0 _ _
    c.settle-in-Ok-detach.ensures.cause c.in-Ok-detach.ensures.goes.steps c.settle-in-Ok-detach.ensures.steps

pub returns-in-Ok-detach-clause-honest : goal.returns-in-Ok-detach-clause-honest
returns-in-Ok-detach-clause-honest g c =
    search rules

pub returns-in-Ok-detach-clause-cause : goal.returns-in-Ok-detach-clause-cause
returns-in-Ok-detach-clause-cause g c =
    later-cause c.settle-in-Ok-detach.result 0 0 0 _ _ _ refl (c.in-Ok-detach.ensures.goes.cause.others.2 ∙ c.in-Ok.ensures.cause.others.2)
    (stop-run c.settle-in-Ok-detach.result 0 0 _ _ c.settle-in-Ok-detach.ensures.cause)
