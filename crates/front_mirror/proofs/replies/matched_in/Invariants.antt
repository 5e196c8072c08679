use Rattle.std.proofs.Common.{◌≡◌, drop}
use Rattle.front_mirror.specs.Front.{matched_in}
use Rattle.front_mirror.proofs.replies.matched_in.Given as goal

abbrev pub invariant-loop-reply : goal.invariant-loop-reply
invariant-loop-reply l = matched_in l.ask (drop l.reply-index l.replies) ≡ matched_in l.ask l.replies
