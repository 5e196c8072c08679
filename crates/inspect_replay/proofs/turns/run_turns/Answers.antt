-- Each line is carried out in its turn.
use Rattle.std.proofs.Common.{◌+◌, ◌∙◌, refl, ap, arith, length}
use Rattle.replay_script.specs.Seen.{seen}
use Rattle.inspect_world.specs.Costs.{lines_cost}
use Rattle.drill_script.proofs.LineKindLaws.{line-shows}
use Rattle.inspect_replay.specs.Drilled.{lines_more}
use Rattle.inspect_replay.proofs.DrillLemmas.{drill-later, rest-drill, follow-line, turn-room, turn-on, turn-end, gave-line, gave-none}
use Rattle.inspect_replay.proofs.DrillLemmas.{follow-none}
use Rattle.inspect_replay.proofs.FollowLemmas.{run-good}
use Rattle.inspect_replay.proofs.turns.run_turns.Goals as goal

pub loop-line-init : goal.loop-line-init
loop-line-init g c = (
  c.requires,
  (λ h. h),
  refl,
  (λ state0 up0 down0 run. run),
  λ up0 down0 more w play. record { world = w; in_play = play; leads = refl },
)

pub carry_plain-carried-requires-clause-later : goal.carry_plain-carried-requires-clause-later
carry_plain-carried-requires-clause-later g c =
    let first = gave-line c.loop-line.drill c.next_line.new.drill c.in_ok-line.field-0 c.in-Some.line c.in-Some.is c.in_ok-line.ensures in
    drill-later (seen c.in-Some.line) (rest-drill c.loop-line.drill (seen c.in-Some.line) c.next_line.new.drill first
    c.loop-line.invariant.0).0

pub carry_plain-carried-requires-clause-plain : goal.carry_plain-carried-requires-clause-plain
carry_plain-carried-requires-clause-plain g c =
    let first = gave-line c.loop-line.drill c.next_line.new.drill c.in_ok-line.field-0 c.in-Some.line c.in-Some.is c.in_ok-line.ensures in
    (line-shows (seen c.in-Some.line) (rest-drill c.loop-line.drill (seen c.in-Some.line) c.next_line.new.drill first
    c.loop-line.invariant.0).0).1

pub carry_plain-carried-requires-clause-keeps : goal.carry_plain-carried-requires-clause-keeps
carry_plain-carried-requires-clause-keeps g c =
    let first = gave-line c.loop-line.drill c.next_line.new.drill c.in_ok-line.field-0 c.in-Some.line c.in-Some.is c.in_ok-line.ensures in
    (line-shows (seen c.in-Some.line) (rest-drill c.loop-line.drill (seen c.in-Some.line) c.next_line.new.drill first
    c.loop-line.invariant.0).0).0

pub loop-line-smaller : goal.loop-line-smaller
loop-line-smaller g c =
    let first = gave-line c.loop-line.drill c.next_line.new.drill c.in_ok-line.field-0 c.in-Some.line c.in-Some.is c.in_ok-line.ensures in
    omega (arith, ap length first)

pub loop-line-preserved : goal.loop-line-preserved
loop-line-preserved g c =
    let line = seen c.in-Some.line in
    let more = c.next_line.new.drill in
    let first = gave-line c.loop-line.drill more c.in_ok-line.field-0 c.in-Some.line c.in-Some.is c.in_ok-line.ensures in
    let carried = c.in-Ok.ensures {u = c.in-Ok.field-0} in (
      (rest-drill c.loop-line.drill line more first c.loop-line.invariant.0).1,
      (λ h. c.carry_plain-carried.ensures.honest (c.loop-line.invariant.1 h)),
      carried.cause.others.2 ∙ c.loop-line.invariant.2,
      (λ state0 up0 down0 run.
          (carried.follows (lines_more (length more) state0) up0 down0
          (follow-line state0 up0 down0 _ _ c.loop-line.ends c.loop-line.drill line more first
          (c.loop-line.invariant.3 state0 up0 down0 run))).0),
      λ up0 down0 k w play.
          let before = c.loop-line.invariant.4 up0 down0 k w play in
          turn-on (g.L.Link.honest c.loop-line.link) (g.L.Link.honest c.carry_plain-carried.new.link) up0 down0
          (g.L.Link.up c.loop-line.link) (g.L.Link.down c.loop-line.link) (g.L.Link.up c.carry_plain-carried.new.link)
          (g.L.Link.down c.carry_plain-carried.new.link) k c.args.drill c.loop-line.drill line more w c.loop-line.ends
          c.carry_plain-carried.new.ends first before
          (carried.runs up0 down0 (k + lines_cost more) before.world
          (turn-room (g.L.Link.honest c.loop-line.link) up0 down0 (g.L.Link.up c.loop-line.link) (g.L.Link.down c.loop-line.link) k
          c.args.drill c.loop-line.drill line more w c.loop-line.ends first before)).1,
    )

pub returns-in-Err-clause-follows : goal.returns-in-Err-clause-follows
returns-in-Err-clause-follows g c = λ state0 up0 down0 run.
    let line = seen c.in-Some.line in
    let more = c.next_line.new.drill in
    let first = gave-line c.loop-line.drill more c.in_ok-line.field-0 c.in-Some.line c.in-Some.is c.in_ok-line.ensures in (
      tt,
      ((c.in-Err.ensures {u = tt}).follows (lines_more (length more) state0) up0 down0
          (follow-line state0 up0 down0 _ _ c.loop-line.ends c.loop-line.drill line more first
          (c.loop-line.invariant.3 state0 up0 down0 run))).1,
    )

pub returns-in-Err-clause-runs : goal.returns-in-Err-clause-runs
returns-in-Err-clause-runs g c = λ up0 down0 k w play.
    let line = seen c.in-Some.line in
    let more = c.next_line.new.drill in
    let first = gave-line c.loop-line.drill more c.in_ok-line.field-0 c.in-Some.line c.in-Some.is c.in_ok-line.ensures in
    let before = c.loop-line.invariant.4 up0 down0 k w play in (
      ((c.in-Err.ensures {u = tt}).runs up0 down0 (k + lines_cost more) before.world
          (turn-room (g.L.Link.honest c.loop-line.link) up0 down0 (g.L.Link.up c.loop-line.link) (g.L.Link.down c.loop-line.link) k
          c.args.drill c.loop-line.drill line more w c.loop-line.ends first before)).0,
      tt,
    )

pub returns-clause-follows : goal.returns-clause-follows
returns-clause-follows g c = λ state0 up0 down0 run.
    let none = gave-none c.loop-line.drill c.next_line.new.drill c.in_ok-line.field-0 c.in_default.is c.in_ok-line.ensures in
    let all = follow-none state0 up0 down0 (g.L.Link.up c.loop-line.link) (g.L.Link.down c.loop-line.link) c.loop-line.ends
    c.loop-line.drill none (c.loop-line.invariant.3 state0 up0 down0 run) in
    (all, run-good state0 up0 down0 (g.L.Link.up c.loop-line.link) (g.L.Link.down c.loop-line.link) c.loop-line.ends all)

pub returns-clause-runs : goal.returns-clause-runs
returns-clause-runs g c = λ up0 down0 k w play.
    let none = gave-none c.loop-line.drill c.next_line.new.drill c.in_ok-line.field-0 c.in_default.is c.in_ok-line.ensures in (
      tt,
      turn-end (g.L.Link.honest c.loop-line.link) up0 down0 (g.L.Link.up c.loop-line.link) (g.L.Link.down c.loop-line.link) k
          c.args.drill c.loop-line.drill w c.loop-line.ends none (c.loop-line.invariant.4 up0 down0 k w play),
    )
