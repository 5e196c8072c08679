-- The steps are those of the list.
use Rattle.std.proofs.Common.{◌≡◌, Bool, List, map, IfOk, subst, ap, ◌∙◌}
use Rattle.std.specs.List.{find}
use Rattle.std.specs.Option.{option_map}
use Rattle.page_tree.specs.Zippers.{Zipper, serial_of, below}
use Rattle.selectors.specs.Lists.{list_seen}
use Rattle.select_match.specs.declared.steps.Step.{Step}
use Rattle.select_match.specs.Steps.{step_seen}
use Rattle.select_match.proofs.StepLemmas.{steps-match}
use Rattle.select_match.proofs.walks.first_by_steps.Goals as goal

pub returns : goal.returns
returns c =
    let same = ap (λ (l : List Step). map step_seen l) c.as_slice-steps.ensures.value ∙ (c.in_ok-list.ensures {u = tt}) in
    subst (λ (p : Zipper → Bool). IfOk c.first_stepped.result (λ r. r ≡ option_map serial_of (find p (below c.args.node.now))))
    (steps-match (map step_seen c.as_slice-steps.result.now) (list_seen c.args.l.now) same c.requires) c.first_stepped.ensures
