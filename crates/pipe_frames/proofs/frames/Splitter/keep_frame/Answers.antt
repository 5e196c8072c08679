use Rattle.std.proofs.Common.{ap, ◌∙◌, map, take, ◌-◌, arith}
use Rattle.std.proofs.lemmas.List.{map_push}
use Rattle.pipe_frames.proofs.FrameLemmas.{frame_kept}
use Rattle.pipe_frames.proofs.frames.Splitter.keep_frame.Goals as goal

pub returns-clause-ok : goal.returns-clause-ok
returns-clause-ok c =
    rw (← c.self.view_is)
    (frame_kept (map (λ frame. frame.items) c.self.inside.whole.items) _ c.self.inside.rest.items c.args.piece.items
    c.pop-zero.new.self.items
    (rw (← c.self.view_is) at c.requires.alone) c.requires.frame
    (c.pop-zero.ensures.rest ∙ ap (λ n. take (n - 1) c.args.piece.items) (omega (arith, c.args.piece.ok)))
    (ap (map (λ frame. frame.items)) c.in_default.ensures.items
    ∙ map_push (λ frame. frame.items) c.self.inside.whole.items c.pop-zero.new.self))
