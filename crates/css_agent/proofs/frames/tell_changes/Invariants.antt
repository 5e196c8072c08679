-- What is sent and the splices that are left make up the whole.
use Rattle.std.proofs.Common.{◌≡◌, ◌++◌, map, drop}
use Rattle.css_agent.specs.Told.{changed_message}
use Rattle.cdp_messages.specs.Replies.{message_frames}
use Rattle.css_agent.proofs.frames.tell_changes.Given as goal

abbrev pub invariant-loop-back : goal.invariant-loop-back
invariant-loop-back l = l.out.items ++ message_frames (map changed_message (drop l.back-index l.backs))
    ≡ l.initial.out.items ++ message_frames (map changed_message l.backs)
