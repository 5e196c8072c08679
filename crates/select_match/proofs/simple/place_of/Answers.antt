-- A place that is known is bounded, since there are few siblings.
use Rattle.std.proofs.Common.{◌≡◌, ℕ, Option, IfSome, subst, sym, ◌∙◌, refl}
use Rattle.select_match.specs.Elements.{index}
use Rattle.select_match.proofs.SubjectLemmas.{place-bound}
use Rattle.select_match.proofs.simple.place_of.Goals as goal

pub returns-in-Some-clause-bound : goal.returns-in-Some-clause-bound
returns-in-Some-clause-bound c =
    let z = c.args.node.now in
    let known : c.in-Some.place ≡ index c.args.kind z = subst (λ (o : Option ℕ). IfSome o (λ n. n ≡ index c.args.kind z))
    (sym c.place.ensures ∙ c.in-Some.is) (c.requires c.args.kind) in
    place-bound c.args.kind z z c.in-Some.place known refl c.are_few.ensures.earlier c.are_few.ensures.later
