use Rattle.std.proofs.Common.{arith, ◌+◌, length}
use Rattle.std.proofs.lemmas.List.{length-take}
use Rattle.pipe_frames.proofs.WholeLemmas.{ReadPart-after}
use Rattle.pipe_frames.proofs.whole.read_by.Goals as goal

pub returns-in-Err-clause-part : goal.returns-in-Err-clause-part
returns-in-Err-clause-part g c =
    ReadPart-after _ _ _ c.loop-all.all.items (length c.read_more.new.buf) (c.args.limit + 1) c.loop-all.invariant.read
    c.in-Err.ensures.part (grind (arith, length-take))
