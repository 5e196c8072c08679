-- What the first front end shows is printed, and what the second does, where it stands.
use Rattle.std.proofs.Common.{codes, ◌∷◌, ◌++◌, sym, ◌∙◌, ap, subst, OnErr}
use Rattle.front_mirror.specs.Front.{FrontState}
use Rattle.front_mirror.specs.Outline.{outline_text, seen_line}
use Rattle.pipe_frames.specs.Whole.{WrotePart}
use Rattle.pipe_frames.proofs.WholeLemmas.{WrotePart-longer}
use Rattle.pair_replay.specs.PairStarts.{second_end_text}
use Rattle.pair_replay.proofs.ShowLemmas.{second-end, err-after}
use Rattle.pair_replay.proofs.shows.print_end.Goals as goal

pub returns-in-Err-clause-err : goal.returns-in-Err-clause-err
returns-in-Err-clause-err g c =
    let more = second_end_text c.args.ends.now.fronts.pair.two in
    subst (λ t. WrotePart (g.K.Sink.taken c.args.out.now) (g.K.Sink.taken c.print_outline.new.out)
    ((codes "# end" ++ 10 ∷ outline_text seen_line t) ++ more))
    (c.mirror.ensures ∙ ap (λ (f : FrontState). f.value.tree) c.first.ensures)
    (WrotePart-longer _ _ (codes "# end" ++ 10 ∷ outline_text seen_line c.mirror.result.now) more c.in-Err.ensures.err)

pub returns-in-Some-clause-err : goal.returns-in-Some-clause-err
returns-in-Some-clause-err g c =
    let p = c.args.ends.now.fronts.pair in
    let last = c.print_outline-in-Some in
    let first = c.mirror.ensures ∙ ap (λ (f : FrontState). f.value.tree) c.first.ensures in
    let tree = c.mirror-in-Some.ensures ∙ ap (λ (f : FrontState). f.value.tree) c.in-Some.ensures.front in
    let more = ap (λ t. codes "# end 2" ++ 10 ∷ outline_text seen_line t) tree ∙ sym (second-end p (sym c.in-Some.ensures.stands)) in
    subst (λ t. OnErr last.result (WrotePart (g.K.Sink.taken c.args.out.now) (g.K.Sink.taken last.new.out)
    ((codes "# end" ++ 10 ∷ outline_text seen_line t) ++ second_end_text p.two))) first
    (subst (λ x. OnErr last.result (WrotePart (g.K.Sink.taken c.args.out.now) (g.K.Sink.taken last.new.out)
    ((codes "# end" ++ 10 ∷ outline_text seen_line c.mirror.result.now) ++ x))) more
    (err-after last.result _ _ _ (codes "# end" ++ 10 ∷ outline_text seen_line c.mirror.result.now) _ c.in-Ok.ensures.ok last.ensures.err))
