use Rattle.std.proofs.Common.{ap, ◌++◌, ◌∙◌, ◌+◌, length, refl, arith}
use Rattle.pipe_frames.proofs.FlowLemmas.{Moves-held, next_held}
use Rattle.pipe_frames.proofs.channel.Channel.copy_out.Goals as goal

pub returns-in-Ok-clause-gets : goal.returns-in-Ok-clause-gets
returns-in-Ok-clause-gets c = rw (c.let_go.ensures, ← c.self.view_is) (
  omega arith,
  Moves-held c.self.inside.given.bytes c.self.inside.bytes.items c.args.into.now.items c.extend_from_slice.new.self.items
      (length c.self.inside.given.bytes + c.self.inside.at) (length c.self.inside.given.bytes + (c.self.inside.at + c.min-count.result))
      c.self.inside.at c.min-count.result refl (omega arith) (omega arith)
      (rw c.deref.ensures.value at c.in-Ok.ensures.items),
)

pub returns-in-Ok-clause-all : goal.returns-in-Ok-clause-all
returns-in-Ok-clause-all c = rw (← c.self.view_is) (
    (rw c.deref.ensures.value at c.in-Ok.ensures.items)
    ∙ ap (λ piece. c.args.into.now.items ++ piece)
    (next_held c.self.inside.given.bytes c.self.inside.bytes.items (length c.self.inside.given.bytes + c.self.inside.at) c.self.inside.at
    c.args.max c.min-count.result refl c.self.invariant (omega arith))
    )
