-- The number so far, with that of the replies that are left.
use Rattle.std.proofs.Common.{◌≡◌, ◌+◌, drop}
use Rattle.inspect_replay.specs.Tallies.{how_many, is_good}
use Rattle.inspect_replay.proofs.counts.count_good.Given as goal

abbrev pub invariant-loop-reply : goal.invariant-loop-reply
invariant-loop-reply l = l.count + how_many is_good (drop l.reply-index l.replies) ≡ how_many is_good l.replies
