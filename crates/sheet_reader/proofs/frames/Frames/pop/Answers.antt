use Rattle.sheet_reader.specs.declared.frames.Frame.{Frame}
use Rattle.sheet_reader.specs.Ends.{AreEnds}
use Rattle.sheet_reader.proofs.EndForms.{one_taken}
use Rattle.sheet_reader.proofs.frames.Frames.pop.Goals as goal

Own : Frame → Type 0
Own f = AreEnds f.ends f.left.now

pub invariant_of-self : goal.invariant_of-self
unfolding Own
invariant_of-self c = (one_taken Own c.self.inside.frames.items c.pop.new.self.items c.pop.result c.pop.ensures.items c.self.invariant).1

pub returns-clause-ends : goal.returns-clause-ends
unfolding Own
returns-clause-ends c = (one_taken Own c.self.inside.frames.items c.pop.new.self.items c.pop.result c.pop.ensures.items c.self.invariant).0
