use Rattle.std.proofs.Common.{◌≢◌, length, sym, ap, ◌∙◌, eqb-true}
use Rattle.std.proofs.lemmas.List.{nil_from_length}
use Rattle.std.proofs.lemmas.List.Elements.{All-append}
use Rattle.pipe_frames.specs.Frames.{continued}
use Rattle.pipe_frames.proofs.FrameLemmas.{continued-nil, continued-text}
use Rattle.pipe_frames.proofs.frames.Splitter.add_text.Goals as goal

pub returns-then-is_empty-clause-ok : goal.returns-then-is_empty-clause-ok
returns-then-is_empty-clause-ok c =
    rw (← c.self.view_is)
    (sym (ap (continued _)
    (nil_from_length c.args.text.now (eqb-true (length c.args.text.now) 0 (sym c.is_empty.ensures ∙ c.if-is_empty.true)))
    ∙ continued-nil _ c.self.invariant.partial))

pub returns-clause-ok : goal.returns-clause-ok
returns-clause-ok c =
    rw (← c.self.view_is, c.in_ok-extend_from_slice.ensures.items)
    (sym (continued-text _ c.self.inside.rest.items c.args.text.now
    (All-append (λ byte. byte ≢ 0) c.self.inside.rest.items c.args.text.now c.self.invariant.partial c.requires)))
