use Rattle.pipe_frames.proofs.FrameLemmas.{frames_of-append, Splits-frames_of, frames_of-only}
use Rattle.pipe_frames.proofs.frames.frames_law.Goals as goal

pub returns-clause-joined : goal.returns-clause-joined
returns-clause-joined c = frames_of-append

pub returns-clause-split : goal.returns-clause-split
returns-clause-split c = Splits-frames_of

pub returns-clause-only : goal.returns-clause-only
returns-clause-only c = frames_of-only
