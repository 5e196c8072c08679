use Rattle.std.proofs.Common.{◌≡◌, ◌∙◌, ◌++◌, ◌∷◌, [], ap, append_assoc}
use Rattle.pipe_frames.specs.Frames.{framed, frames_of}
use Rattle.pipe_frames.proofs.FrameLemmas.{frames_of-last}
use Rattle.pipe_frames.proofs.frames.put_frame.Goals as goal

pub returns-in-Ok-clause-last : goal.returns-in-Ok-clause-last
returns-in-Ok-clause-last c none =
    let joined : c.push.new.self.items ≡ c.args.out.now.items ++ framed c.args.text.now =
    c.in-Ok.ensures.items
    ∙ ap (λ bytes. bytes ++ 0 ∷ []) c.in_ok-extend_from_slice.ensures.items
    ∙ append_assoc c.args.out.now.items c.args.text.now (0 ∷ []) in
    ap frames_of joined ∙ frames_of-last c.args.out.now.items c.args.text.now c.requires none
