-- From the parent, or from the root.
use Rattle.std.proofs.Common.{◌≡◌, ℕ, ◌+◌, ◌*◌, ◌<◌, [], List, map, length, IfOk, subst}
use Rattle.page_tree.specs.Zippers.{ancestors}
use Rattle.select_match.specs.declared.steps.Around.{Around}
use Rattle.select_match.specs.Steps.{step_seen, chains_in}
use Rattle.select_match.proofs.StepLemmas.{parent-fewer, inside-parent, nothing-around, chains-many}
use Rattle.select_match.proofs.stepped.+around.Goals as goal

pub around_first-inside_node-requires : goal.around_first-inside_node-requires
around_first-inside_node-requires t c = (
  subst (λ (m : ℕ). 3 * length (ancestors c.in-Some.parent) + 2 < m) c.decreases
      (parent-fewer c.args.node.now c.in-Some.parent (c.in-Some.ensures {u = tt})),
  tt,
)

pub around_first-returns-in-Some : goal.around_first-returns-in-Some
around_first-returns-in-Some t c = subst (λ (l : List Around). IfOk c.inside_node.result (λ v. v.items ≡ l))
    (inside-parent c.args.node.now c.in-Some.parent (chains_in [] (map step_seen c.args.steps.now)) (c.in-Some.ensures {u = tt}))
    c.inside_node.ensures

pub around_first-returns-in-None : goal.around_first-returns-in-None
around_first-returns-in-None t c = subst (λ (l : List Around). IfOk c.nothing_around.result (λ v. v.items ≡ l))
    (nothing-around c.args.node.now (chains_in [] (map step_seen c.args.steps.now)) (length c.args.steps.now) (c.in-None.ensures {u = tt})
    (chains-many c.args.steps.now))
    c.nothing_around.ensures
