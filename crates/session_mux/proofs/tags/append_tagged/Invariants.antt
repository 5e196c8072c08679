-- What was appended, and what the frames that are left will be, is what all will be.
use Rattle.std.proofs.Common.{◌≡◌, ◌++◌, length}
use Rattle.std.specs.List.{flat_map}
use Rattle.session_mux.specs.TaggedTexts.{tagged_frame}
use Rattle.session_mux.proofs.tags.append_tagged.Given as goal

abbrev pub invariant-loop-frame : goal.invariant-loop-frame
invariant-loop-frame l =
    l.out.items ++ flat_map (tagged_frame l.end) l.frames.whole
    ≡ l.initial.out.items ++ flat_map (tagged_frame l.end) l.initial.frames.whole

abbrev pub decreases-loop-frame : goal.decreases-loop-frame
decreases-loop-frame l = length l.frames.whole
