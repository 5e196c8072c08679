use Rattle.std.proofs.Common.{ap, ◌∙◌, map, ◌++◌, ◌∷◌, []}
use Rattle.std.proofs.lemmas.List.{map_push}
use Rattle.pipe_frames.proofs.FrameLemmas.{ended}
use Rattle.pipe_frames.proofs.frames.Splitter.end_frame.Goals as goal

pub returns-clause-ok : goal.returns-clause-ok
returns-clause-ok c =
    rw (← c.self.view_is)
    (ended (map (λ frame. frame.items) c.self.inside.whole.items) _ c.self.inside.rest.items _ c.self.invariant.partial
    (ap (map (λ frame. frame.items)) c.in_default.ensures.items
    ∙ map_push (λ frame. frame.items) c.self.inside.whole.items c.replace-frame.result
    ∙ ap (λ frame. map (λ frame. frame.items) c.self.inside.whole.items ++ frame.items ∷ []) c.replace-frame.ensures.value)
    (ap (λ rest. rest.items) c.replace-frame.ensures.after ∙ c.new.ensures.items))
