-- One more.
use Rattle.std.proofs.Common.{List, ◌∷◌, [], ◌++◌, ap, ◌∙◌}
use Rattle.std.proofs.lemmas.List.{replicate_more}
use Rattle.select_match.specs.declared.steps.Around.{Around}
use Rattle.select_match.specs.Steps.{nothing}
use Rattle.select_match.proofs.stepped.nothing_around.Goals as goal

pub loop-i-preserved : goal.loop-i-preserved
loop-i-preserved c = c.in_ok-push.ensures.items ∙ ap (λ (l : List Around). l ++ nothing ∷ []) c.loop-i.invariant ∙ replicate_more _ nothing
