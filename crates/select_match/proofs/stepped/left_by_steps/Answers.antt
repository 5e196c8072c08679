-- What is known of the last step.
use Rattle.std.proofs.Common.{◌≡◌, suc, ◌-◌, List, ◌++◌, map, length, ap, ◌∙◌, arith}
use Rattle.std.proofs.lemmas.List.{length-map}
use Rattle.selectors.specs.Forms.{compound_seen}
use Rattle.select_match.specs.declared.steps.Step.{Step}
use Rattle.select_match.specs.Steps.{step_seen, steps_of_chain}
use Rattle.select_match.proofs.StepLemmas.{left-leads, around-many}
use Rattle.select_match.proofs.stepped.left_by_steps.Goals as goal

pub leads_at-requires : goal.leads_at-requires
leads_at-requires c =
    let cs = map compound_seen c.args.left.now in
    let own = (c.in_ok-add_chain.ensures {u = tt})
    ∙ ap (λ (l : List Step). map step_seen l ++ steps_of_chain cs) c.new-list.ensures.items in
    let steps = ap (λ (l : List Step). map step_seen l) c.as_slice.ensures.value ∙ own in
    let many = around-many c.args.node.now cs (map step_seen c.as_slice.result.now) c.as_slice-2.result.now steps
    (c.as_slice-2.ensures.value ∙ (c.in_ok-around.ensures {u = tt})) in
    omega (arith, many, length-map c.args.left.now compound_seen, c.requires)

pub returns : goal.returns
returns c =
    let cs = map compound_seen c.args.left.now in
    let own = (c.in_ok-add_chain.ensures {u = tt})
    ∙ ap (λ (l : List Step). map step_seen l ++ steps_of_chain cs) c.new-list.ensures.items in
    let steps = ap (λ (l : List Step). map step_seen l) c.as_slice.ensures.value ∙ own in
    let many : length (map compound_seen c.args.left.now) ≡ suc (length c.args.left.now - 1) =
    omega (arith, length-map c.args.left.now compound_seen, c.requires) in
    left-leads c.args.node.now cs (map step_seen c.as_slice.result.now) (length c.args.left.now - 1) c.args.joint c.as_slice-2.result.now
    c.leads_at.result many steps (c.as_slice-2.ensures.value ∙ (c.in_ok-around.ensures {u = tt})) c.leads_at.ensures
