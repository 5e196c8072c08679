-- The closing part is the outline of what the client sees.
use Rattle.std.proofs.Common.{Err, refl}
use Rattle.inspect_replay.proofs.RunLemmas.{closes-well, closes-not}
use Rattle.inspect_replay.proofs.FollowLemmas.{closes-shown}
use Rattle.replay_parts.proofs.CauseLemmas.{link-cause, settled-cause}
use Rattle.inspect_replay.proofs.run.close.Goals as goal

pub returns-in-Ok-clause-runs : goal.returns-in-Ok-clause-runs
returns-in-Ok-clause-runs g c =
    closes-well c.print_end.result _ _ _ _ _ _ _ _ c.args.ends.now c.settle.new.self c.settle.new.self.front.value.tree
    (λ up0 down0 w left run. (c.in-Ok.ensures.steps up0 down0 w left run).1) refl c.print_end.ensures.never
    c.print_end.ensures.ok c.print_end.ensures.err

pub returns-in-Err-clause-runs : goal.returns-in-Err-clause-runs
returns-in-Err-clause-runs g c =
    closes-not c.in-Err.stop _ _ _ _ c.args.ends.now
    (λ up0 down0 w left run. (c.in-Err.ensures.steps up0 down0 w left run).0)

pub returns-in-Ok-clause-shown : goal.returns-in-Ok-clause-shown
returns-in-Ok-clause-shown g c = λ state0 up0 down0 run.
    closes-shown c.print_end.result state0 up0 down0 _ _ _ _ c.settle.new.self c.settle.new.self.front.value.tree
    (c.in-Ok.ensures.follows state0 up0 down0 run).0 refl c.print_end.ensures.never c.print_end.ensures.ok

pub returns-in-Ok-clause-cause : goal.returns-in-Ok-clause-cause
returns-in-Ok-clause-cause g c = settled-cause c.print_end.result _ _ _ _ c.in-Ok.ensures.cause c.print_end.ensures.cause

pub returns-in-Err-clause-cause : goal.returns-in-Err-clause-cause
returns-in-Err-clause-cause g c = link-cause (Err c.in-Err.stop) _ _ _ c.in-Err.ensures.cause
