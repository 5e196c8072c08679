use Rattle.std.proofs.Common.{◌≡◌, ◌-◌, length, min}
use Rattle.std.proofs.lemmas.List.{take_rest, length-drop}
use Rattle.pipe_frames.proofs.ByteLemmas.{read_front, read_end}
use Rattle.pipe_frames.proofs.memory.MemSourceSource.read.Goals as goal

pub returns-clause-bytes : goal.returns-clause-bytes
returns-clause-bytes c =
    let count : c.copy_front-count.result
    ≡ min c.self.inside.step (min (length c.copy_front-count.new.into) (length c.self.inside.bytes.items - c.self.inside.at)) =
    rw (c.deref.ensures.value, take_rest, length-drop) at c.copy_front-count.ensures.count in
    rw (← c.self.view_is) (
      read_front c.self.inside.bytes.items c.copy_front-count.new.into c.self.inside.at c.copy_front-count.result
          (rw c.deref.ensures.value at c.copy_front-count.ensures.front),
      λ none room. read_end c.self.inside.bytes.items c.self.inside.at c.copy_front-count.result c.self.inside.step
          (length c.copy_front-count.new.into) c.self.invariant.0 count c.self.invariant.1 room none,
    )
