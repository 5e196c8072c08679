use Rattle.std.proofs.Common.{All, sym, subst}
use Rattle.sheet_reader.specs.declared.frames.Frame.{Frame}
use Rattle.sheet_reader.specs.Ends.{AreEnds}
use Rattle.sheet_reader.proofs.frames.Frames.push.Goals as goal

Own : Frame → Type 0
Own f = AreEnds f.ends f.left.now

pub invariant_of-self : goal.invariant_of-self
unfolding Own
invariant_of-self c = subst (All Own) (sym c.in_err-push.ensures.items) c.self.invariant
