-- The replies so far are written, and those that are left come after them.
use Rattle.std.proofs.Common.{◌≡◌, ◌++◌, ◌∷◌, map, drop}
use Rattle.inspect_world.specs.ShownReplies.{reply_shown, told_lines}
use Rattle.replay_parts.proofs.show.replies_under.Given as goal

abbrev pub invariant-loop-reply : goal.invariant-loop-reply
invariant-loop-reply l = l.text.items ++ told_lines (map reply_shown (drop l.reply-index l.replies))
    ≡ l.heading ++ 10 ∷ told_lines (map reply_shown l.replies)
