-- How many of the replies and of the pauses of a front end were told, as contracts see it. By itself, so that the struct of the ends may
-- name it.
use Rattle.inspect_world.specs.World.{AlreadyTold}
use Rattle.pair_replay.specs.declared.two_fronts.ToldCounts.{ToldCounts}

-- how much was told
abbrev pub told_seen : ToldCounts → AlreadyTold
told_seen t = record { replies = t.replies; pauses = t.pauses }
