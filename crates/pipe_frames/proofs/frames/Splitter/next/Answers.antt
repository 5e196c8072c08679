use Rattle.std.proofs.Common.{ap, map}
use Rattle.pipe_frames.proofs.FrameLemmas.{IsCut-first}
use Rattle.pipe_frames.proofs.frames.Splitter.next.Goals as goal

pub invariant_of-self-2 : goal.invariant_of-self-2
invariant_of-self-2 c =
    (IsCut-first c.in_ok-frame.frame.items (map (λ frame. frame.items) c.pop_front.new.self.items) _ _
    (ap (map (λ frame. frame.items)) c.in_ok-frame.ensures.items) c.self.invariant).0

pub returns-clause-text : goal.returns-clause-text
returns-clause-text c =
    (IsCut-first c.in_ok-frame.frame.items (map (λ frame. frame.items) c.pop_front.new.self.items) _ _
    (ap (map (λ frame. frame.items)) c.in_ok-frame.ensures.items) c.self.invariant).1
