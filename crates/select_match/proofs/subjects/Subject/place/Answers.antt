-- A place is bounded, since there are few siblings.
use Rattle.std.proofs.Common.{◌≡◌, ℕ, Option, IfSome, subst, sym, ◌∙◌}
use Rattle.select_match.specs.Elements.{index}
use Rattle.select_match.proofs.SubjectLemmas.{place-bound}
use Rattle.select_match.proofs.subjects.Subject.place.Goals as goal

pub returns-in-Some-clause-bound : goal.returns-in-Some-clause-bound
returns-in-Some-clause-bound c =
    let z = c.self.inside.node in
    let known : c.in-Some.place ≡ index c.args.kind z = subst (λ (o : Option ℕ). IfSome o (λ n. n ≡ index c.args.kind z))
    (sym c.place.ensures ∙ c.in-Some.is) (c.self.invariant.2 c.args.kind) in
    place-bound c.args.kind z c.node.result.now c.in-Some.place known
    (c.node.ensures ∙ sym c.self.view_is) c.are_few.ensures.earlier c.are_few.ensures.later
