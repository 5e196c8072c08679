-- A session is attached between two settles.
use Rattle.std.proofs.Common.{rules, true, ◌∙◌, refl, sym, Ok, Err}
use Rattle.replay_script.specs.PairLines.{attach_session}
use Rattle.replay_parts.specs.Moments.{moment}
use Rattle.pair_replay.proofs.StopLemmas.{refused-cause, bad-session-well}
use Rattle.pair_replay.proofs.LineFaults.{tells-not}
use Rattle.pair_replay.proofs.LineRuns.{settle-stops}
use Rattle.pair_replay.proofs.LineFollows.{keeps-passes, settled-passes, keeps-then, attach-refused-tells, attach-tells}
use Rattle.pair_replay.proofs.ShowLemmas.{keeps-told}
use Rattle.pair_replay.proofs.TargetLemmas.{attach-first, attach-refused, attach-unsent, attach-stops, attach-done}
use Rattle.replay_parts.proofs.CauseLemmas.{stop-run, settled-stop, later-cause}
use Rattle.pair_replay.proofs.carry.carry_attach.Goals as goal

pub attach-requires : goal.attach-requires
attach-requires g c = record { alone = sym c.if-second_stands.ensures }

pub returns-in-Err-clause-follows : goal.returns-in-Err-clause-follows
returns-in-Err-clause-follows g c =
    let old = moment (g.L.Link.honest c.args.link.now) (g.L.Link.up c.args.link.now) (g.L.Link.down c.args.link.now) c.args.ends.now in
    let mid = moment (g.L.Link.honest c.settle.new.link) (g.L.Link.up c.settle.new.link)
    (g.L.Link.down c.settle.new.link) c.settle.new.self in
    keeps-passes (Err c.in-Err.stop) attach_session old mid (λ start. refl) c.in-Err.ensures.follows

pub returns-in-Err-clause-tells : goal.returns-in-Err-clause-tells
returns-in-Err-clause-tells g c =
    let old = moment (g.L.Link.honest c.args.link.now) (g.L.Link.up c.args.link.now) (g.L.Link.down c.args.link.now) c.args.ends.now in
    let mid = moment (g.L.Link.honest c.settle.new.link) (g.L.Link.up c.settle.new.link)
    (g.L.Link.down c.settle.new.link) c.settle.new.self in
    tells-not c.in-Err.stop c.args.number attach_session old mid 0 0 _ _ c.in-Err.ensures.cause

pub returns-in-Err-clause-runs : goal.returns-in-Err-clause-runs
returns-in-Err-clause-runs g c =
    let old = moment (g.L.Link.honest c.args.link.now) (g.L.Link.up c.args.link.now) (g.L.Link.down c.args.link.now) c.args.ends.now in
    let mid = moment (g.L.Link.honest c.settle.new.link) (g.L.Link.up c.settle.new.link)
    (g.L.Link.down c.settle.new.link) c.settle.new.self in
    λ taken. settle-stops c.in-Err.stop old mid taken c.args.number attach_session 0 0 _ _ attach-first c.in-Err.ensures.cause
    c.in-Err.ensures.steps

pub returns-in-Err-clause-honest : goal.returns-in-Err-clause-honest
returns-in-Err-clause-honest g c =
    search rules

pub returns-in-Err-clause-cause : goal.returns-in-Err-clause-cause
returns-in-Err-clause-cause g c =
    settled-stop c.in-Err.stop 0 _ _ c.in-Err.ensures.cause

pub returns-then-second_stands-clause-follows : goal.returns-then-second_stands-clause-follows
returns-then-second_stands-clause-follows g c =
    let old = moment (g.L.Link.honest c.args.link.now) (g.L.Link.up c.args.link.now) (g.L.Link.down c.args.link.now) c.args.ends.now in
    let mid = moment (g.L.Link.honest c.settle.new.link) (g.L.Link.up c.settle.new.link)
    (g.L.Link.down c.settle.new.link) c.settle.new.self in
    settled-passes (Err c.bad_session.result) attach_session old mid (λ start. refl)
    (bad-session-well c.bad_session.result c.args.number c.bad_session.ensures) c.in-Ok.ensures.follows

pub returns-then-second_stands-clause-tells : goal.returns-then-second_stands-clause-tells
returns-then-second_stands-clause-tells g c =
    let old = moment (g.L.Link.honest c.args.link.now) (g.L.Link.up c.args.link.now) (g.L.Link.down c.args.link.now) c.args.ends.now in
    let mid = moment (g.L.Link.honest c.settle.new.link) (g.L.Link.up c.settle.new.link)
    (g.L.Link.down c.settle.new.link) c.settle.new.self in
    attach-refused-tells c.bad_session.result c.args.number old mid c.bad_session.ensures c.in-Ok.ensures.follows
    (sym c.if-second_stands.ensures)

pub returns-then-second_stands-clause-runs : goal.returns-then-second_stands-clause-runs
returns-then-second_stands-clause-runs g c =
    let old = moment (g.L.Link.honest c.args.link.now) (g.L.Link.up c.args.link.now) (g.L.Link.down c.args.link.now) c.args.ends.now in
    let mid = moment (g.L.Link.honest c.settle.new.link) (g.L.Link.up c.settle.new.link)
    (g.L.Link.down c.settle.new.link) c.settle.new.self in
    λ taken. attach-refused c.args.number taken old mid c.in-Ok.ensures.steps c.bad_session.result c.bad_session.ensures
    (sym c.if-second_stands.ensures)

pub returns-then-second_stands-clause-honest : goal.returns-then-second_stands-clause-honest
returns-then-second_stands-clause-honest g c =
    search rules

pub returns-then-second_stands-clause-cause : goal.returns-then-second_stands-clause-cause
returns-then-second_stands-clause-cause g c =
    refused-cause c.bad_session.result c.args.number _ 0 _ _ c.bad_session.ensures c.in-Ok.ensures.cause

pub returns-in-Err-attach-clause-follows : goal.returns-in-Err-attach-clause-follows
returns-in-Err-attach-clause-follows g c =
    let old = moment (g.L.Link.honest c.args.link.now) (g.L.Link.up c.args.link.now) (g.L.Link.down c.args.link.now) c.args.ends.now in
    let mid = moment (g.L.Link.honest c.settle.new.link) (g.L.Link.up c.settle.new.link)
    (g.L.Link.down c.settle.new.link) c.settle.new.self in
    let new = moment (g.L.Link.honest c.attach.new.link) (g.L.Link.up c.attach.new.link)
    (g.L.Link.down c.attach.new.link) c.attach.new.self in
    keeps-passes (Err c.in-Err-attach.stop) attach_session old new (λ start. refl)
    (keeps-then {T = Unit {0}} {U = Unit {0}} tt (Err c.in-Err-attach.stop) old mid new c.in-Ok.ensures.follows
    c.in-Err-attach.ensures.goes.follows)

pub returns-in-Err-attach-clause-tells : goal.returns-in-Err-attach-clause-tells
returns-in-Err-attach-clause-tells g c =
    let old = moment (g.L.Link.honest c.args.link.now) (g.L.Link.up c.args.link.now) (g.L.Link.down c.args.link.now) c.args.ends.now in
    let mid = moment (g.L.Link.honest c.settle.new.link) (g.L.Link.up c.settle.new.link)
    (g.L.Link.down c.settle.new.link) c.settle.new.self in
    let new = moment (g.L.Link.honest c.attach.new.link) (g.L.Link.up c.attach.new.link)
    (g.L.Link.down c.attach.new.link) c.attach.new.self in
    tells-not c.in-Err-attach.stop c.args.number attach_session old new 0 0 _ _ c.in-Err-attach.ensures.goes.cause

pub returns-in-Err-attach-clause-runs : goal.returns-in-Err-attach-clause-runs
returns-in-Err-attach-clause-runs g c =
    let old = moment (g.L.Link.honest c.args.link.now) (g.L.Link.up c.args.link.now) (g.L.Link.down c.args.link.now) c.args.ends.now in
    let mid = moment (g.L.Link.honest c.settle.new.link) (g.L.Link.up c.settle.new.link)
    (g.L.Link.down c.settle.new.link) c.settle.new.self in
    let new = moment (g.L.Link.honest c.attach.new.link) (g.L.Link.up c.attach.new.link)
    (g.L.Link.down c.attach.new.link) c.attach.new.self in
    λ taken. attach-unsent c.args.number taken old mid c.in-Ok.ensures.steps
    (sym c.if-second_stands.ensures) c.in-Err-attach.stop new 0 0 _ _
    c.in-Err-attach.ensures.goes.cause c.in-Err-attach.ensures.goes.steps

pub returns-in-Err-attach-clause-honest : goal.returns-in-Err-attach-clause-honest
returns-in-Err-attach-clause-honest g c =
    search rules

pub returns-in-Err-attach-clause-cause : goal.returns-in-Err-attach-clause-cause
returns-in-Err-attach-clause-cause g c =
    later-cause (Err c.in-Err-attach.stop) 0 0 0 _ _ _ refl c.in-Ok.ensures.cause.others.2
    (stop-run (Err c.in-Err-attach.stop) 0 0 _ _ c.in-Err-attach.ensures.goes.cause)

pub returns-in-Err-settle-clause-follows : goal.returns-in-Err-settle-clause-follows
returns-in-Err-settle-clause-follows g c =
    let old = moment (g.L.Link.honest c.args.link.now) (g.L.Link.up c.args.link.now) (g.L.Link.down c.args.link.now) c.args.ends.now in
    let mid = moment (g.L.Link.honest c.settle.new.link) (g.L.Link.up c.settle.new.link)
    (g.L.Link.down c.settle.new.link) c.settle.new.self in
    let mid2 = moment (g.L.Link.honest c.attach.new.link) (g.L.Link.up c.attach.new.link)
    (g.L.Link.down c.attach.new.link) c.attach.new.self in
    let mid3 = moment (g.L.Link.honest c.settle-2.new.link) (g.L.Link.up c.settle-2.new.link)
    (g.L.Link.down c.settle-2.new.link) c.settle-2.new.self in
    keeps-passes (Err c.in-Err-settle.stop) attach_session old mid3 (λ start. refl)
    (keeps-then {T = Unit {0}} {U = Unit {0}} tt (Err c.in-Err-settle.stop) old mid2 mid3
    (keeps-then {T = Unit {0}} {U = Unit {0}} tt (Ok tt) old mid mid2 c.in-Ok.ensures.follows c.in-Ok-attach.ensures.goes.follows)
    c.in-Err-settle.ensures.follows)

pub returns-in-Err-settle-clause-tells : goal.returns-in-Err-settle-clause-tells
returns-in-Err-settle-clause-tells g c =
    let old = moment (g.L.Link.honest c.args.link.now) (g.L.Link.up c.args.link.now) (g.L.Link.down c.args.link.now) c.args.ends.now in
    let mid = moment (g.L.Link.honest c.settle.new.link) (g.L.Link.up c.settle.new.link)
    (g.L.Link.down c.settle.new.link) c.settle.new.self in
    let mid2 = moment (g.L.Link.honest c.attach.new.link) (g.L.Link.up c.attach.new.link)
    (g.L.Link.down c.attach.new.link) c.attach.new.self in
    let mid3 = moment (g.L.Link.honest c.settle-2.new.link) (g.L.Link.up c.settle-2.new.link)
    (g.L.Link.down c.settle-2.new.link) c.settle-2.new.self in
    tells-not c.in-Err-settle.stop c.args.number attach_session old mid3 0 0 _ _ c.in-Err-settle.ensures.cause

pub returns-in-Err-settle-clause-runs : goal.returns-in-Err-settle-clause-runs
returns-in-Err-settle-clause-runs g c =
    let old = moment (g.L.Link.honest c.args.link.now) (g.L.Link.up c.args.link.now) (g.L.Link.down c.args.link.now) c.args.ends.now in
    let mid = moment (g.L.Link.honest c.settle.new.link) (g.L.Link.up c.settle.new.link)
    (g.L.Link.down c.settle.new.link) c.settle.new.self in
    let mid2 = moment (g.L.Link.honest c.attach.new.link) (g.L.Link.up c.attach.new.link)
    (g.L.Link.down c.attach.new.link) c.attach.new.self in
    let mid3 = moment (g.L.Link.honest c.settle-2.new.link) (g.L.Link.up c.settle-2.new.link)
    (g.L.Link.down c.settle-2.new.link) c.settle-2.new.self in
    λ taken. attach-stops c.args.number taken old mid c.in-Ok.ensures.steps
    (sym c.if-second_stands.ensures) c.in-Err-settle.stop mid2 mid3 0 0 _ _
    c.in-Err-settle.ensures.cause c.in-Ok-attach.ensures.goes.steps c.in-Err-settle.ensures.steps

pub returns-in-Err-settle-clause-honest : goal.returns-in-Err-settle-clause-honest
returns-in-Err-settle-clause-honest g c =
    search rules

pub returns-in-Err-settle-clause-cause : goal.returns-in-Err-settle-clause-cause
returns-in-Err-settle-clause-cause g c =
    later-cause (Err c.in-Err-settle.stop) 0 0 0 _ _ _ refl (c.in-Ok-attach.ensures.goes.cause.others.2 ∙ c.in-Ok.ensures.cause.others.2)
    (stop-run (Err c.in-Err-settle.stop) 0 0 _ _ c.in-Err-settle.ensures.cause)

pub returns-in-Ok-settle-clause-follows : goal.returns-in-Ok-settle-clause-follows
returns-in-Ok-settle-clause-follows g c =
    let old = moment (g.L.Link.honest c.args.link.now) (g.L.Link.up c.args.link.now) (g.L.Link.down c.args.link.now) c.args.ends.now in
    let mid = moment (g.L.Link.honest c.settle.new.link) (g.L.Link.up c.settle.new.link)
    (g.L.Link.down c.settle.new.link) c.settle.new.self in
    let mid2 = moment (g.L.Link.honest c.attach.new.link) (g.L.Link.up c.attach.new.link)
    (g.L.Link.down c.attach.new.link) c.attach.new.self in
    let mid3 = moment (g.L.Link.honest c.settle-2.new.link) (g.L.Link.up c.settle-2.new.link)
    (g.L.Link.down c.settle-2.new.link) c.settle-2.new.self in
    keeps-passes (Ok tt) attach_session old (record mid3 { ends = c.forget_second.new.self }) (λ start. refl)
    (keeps-told true old mid3 c.forget_second.new.self _ c.forget_second.ensures.ends
    (keeps-then {T = Unit {0}} {U = Unit {0}} tt (Ok tt) old mid2 mid3
    (keeps-then {T = Unit {0}} {U = Unit {0}} tt (Ok tt) old mid mid2 c.in-Ok.ensures.follows c.in-Ok-attach.ensures.goes.follows)
    c.in-Ok-settle.ensures.follows))

pub returns-in-Ok-settle-clause-tells : goal.returns-in-Ok-settle-clause-tells
returns-in-Ok-settle-clause-tells g c =
    let old = moment (g.L.Link.honest c.args.link.now) (g.L.Link.up c.args.link.now) (g.L.Link.down c.args.link.now) c.args.ends.now in
    let mid = moment (g.L.Link.honest c.settle.new.link) (g.L.Link.up c.settle.new.link)
    (g.L.Link.down c.settle.new.link) c.settle.new.self in
    let mid2 = moment (g.L.Link.honest c.attach.new.link) (g.L.Link.up c.attach.new.link)
    (g.L.Link.down c.attach.new.link) c.attach.new.self in
    let mid3 = moment (g.L.Link.honest c.settle-2.new.link) (g.L.Link.up c.settle-2.new.link)
    (g.L.Link.down c.settle-2.new.link) c.settle-2.new.self in
    attach-tells c.args.number old mid (record mid3 { ends = c.forget_second.new.self }) c.in-Ok.ensures.follows
    (keeps-told true mid mid3 c.forget_second.new.self _ c.forget_second.ensures.ends
    (keeps-then {T = Unit {0}} {U = Unit {0}} tt (Ok tt) mid mid2 mid3 c.in-Ok-attach.ensures.goes.follows c.in-Ok-settle.ensures.follows))
    (sym c.if-second_stands.ensures)

pub returns-in-Ok-settle-clause-runs : goal.returns-in-Ok-settle-clause-runs
returns-in-Ok-settle-clause-runs g c =
    let old = moment (g.L.Link.honest c.args.link.now) (g.L.Link.up c.args.link.now) (g.L.Link.down c.args.link.now) c.args.ends.now in
    let mid = moment (g.L.Link.honest c.settle.new.link) (g.L.Link.up c.settle.new.link)
    (g.L.Link.down c.settle.new.link) c.settle.new.self in
    let mid2 = moment (g.L.Link.honest c.attach.new.link) (g.L.Link.up c.attach.new.link)
    (g.L.Link.down c.attach.new.link) c.attach.new.self in
    let mid3 = moment (g.L.Link.honest c.settle-2.new.link) (g.L.Link.up c.settle-2.new.link)
    (g.L.Link.down c.settle-2.new.link) c.settle-2.new.self in
    λ taken. attach-done c.args.number taken old mid c.in-Ok.ensures.steps
    (sym c.if-second_stands.ensures) mid2 mid3 c.forget_second.new.self
    _ c.in-Ok-attach.ensures.goes.steps c.in-Ok-settle.ensures.steps c.forget_second.ensures.ends c.forget_second.ensures.told

pub returns-in-Ok-settle-clause-honest : goal.returns-in-Ok-settle-clause-honest
returns-in-Ok-settle-clause-honest g c =
    search rules

pub returns-in-Ok-settle-clause-cause : goal.returns-in-Ok-settle-clause-cause
returns-in-Ok-settle-clause-cause g c =
    later-cause (Ok tt) 0 0 0 _ _ _ refl (c.in-Ok-attach.ensures.goes.cause.others.2 ∙ c.in-Ok.ensures.cause.others.2)
    (stop-run (Ok tt) 0 0 _ _ c.in-Ok-settle.ensures.cause)
