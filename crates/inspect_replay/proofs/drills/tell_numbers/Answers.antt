-- The numbers that are told are those of the run.
use Rattle.std.proofs.Common.{Err, ap}
use Rattle.front_mirror.specs.Front.{FrontState}
use Rattle.inspect_replay.proofs.TellLemmas.{tells-well, tells-not, tells-shown}
use Rattle.inspect_replay.proofs.DrillEnds.{writes-some, writes-none}
use Rattle.replay_parts.proofs.CauseLemmas.{link-cause, settled-cause}
use Rattle.inspect_replay.proofs.drills.tell_numbers.Goals as goal

pub returns-in-Ok-clause-runs : goal.returns-in-Ok-clause-runs
returns-in-Ok-clause-runs g c =
    tells-well c.print_numbers.result _ _ _ _ _ _ _ _ c.args.ends.now c.settle.new.self c.front.result.now.value
    (λ up0 down0 w left run. (c.in-Ok.ensures.steps up0 down0 w left run).1) (ap (λ (s : FrontState). s.value) c.front.ensures)
    c.print_numbers.ensures.never c.print_numbers.ensures.ok c.print_numbers.ensures.err

pub returns-in-Err-clause-runs : goal.returns-in-Err-clause-runs
returns-in-Err-clause-runs g c =
    tells-not c.in-Err.stop _ _ _ _ c.args.ends.now
    (λ up0 down0 w left run. (c.in-Err.ensures.steps up0 down0 w left run).0)

pub returns-in-Ok-clause-shown : goal.returns-in-Ok-clause-shown
returns-in-Ok-clause-shown g c = λ state0 up0 down0 run.
    tells-shown c.print_numbers.result state0 up0 down0 _ _ _ _ c.settle.new.self c.front.result.now.value
    (c.in-Ok.ensures.follows state0 up0 down0 run).0 (ap (λ (s : FrontState). s.value) c.front.ensures)
    c.print_numbers.ensures.never c.print_numbers.ensures.ok

pub returns-in-Ok-clause-nothing : goal.returns-in-Ok-clause-nothing
returns-in-Ok-clause-nothing g c = writes-some c.print_numbers.result _ _ c.print_numbers.ensures.writing

pub returns-in-Err-clause-nothing : goal.returns-in-Err-clause-nothing
returns-in-Err-clause-nothing g c = writes-none c.in-Err.stop _

pub returns-in-Ok-clause-cause : goal.returns-in-Ok-clause-cause
returns-in-Ok-clause-cause g c = settled-cause c.print_numbers.result _ _ _ _ c.in-Ok.ensures.cause c.print_numbers.ensures.cause

pub returns-in-Err-clause-cause : goal.returns-in-Err-clause-cause
returns-in-Err-clause-cause g c = link-cause (Err c.in-Err.stop) _ _ _ c.in-Err.ensures.cause
