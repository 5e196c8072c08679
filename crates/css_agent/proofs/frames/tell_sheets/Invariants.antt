-- What is sent and the sheets that are left make up the whole.
use Rattle.std.proofs.Common.{◌≡◌, ◌++◌, map, drop}
use Rattle.css_agent.specs.Told.{added_message}
use Rattle.cdp_messages.specs.Replies.{message_frames}
use Rattle.css_agent.proofs.frames.tell_sheets.Given as goal

abbrev pub invariant-loop-i : goal.invariant-loop-i
invariant-loop-i l = l.out.items ++ message_frames (map added_message (drop l.i l.book))
    ≡ l.initial.out.items ++ message_frames (map added_message l.book)
