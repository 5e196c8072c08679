-- A walk back.
use Rattle.std.proofs.Common.{Bool, cond, List, ◌∷◌, ap, sym, ◌∙◌}
use Rattle.page_tree.specs.Zippers.{Zipper, earlier, first_node}
use Rattle.select_match.specs.Elements.{elements}
use Rattle.select_match.proofs.WalkLemmas.{from, earlier-from, walk-start, walk-step, walk-smaller}
use Rattle.select_match.proofs.chains.previous_element.Goals as goal

pub loop-at-init : goal.loop-at-init
loop-at-init c = ap (λ (l : List Zipper). first_node (elements l))
    (walk-start earlier earlier-from c.args.node.now c.previous_sibling-at.result c.previous_sibling-at.ensures)

pub loop-at-smaller : goal.loop-at-smaller
loop-at-smaller c = walk-smaller earlier earlier-from c.loop-at.at c.in-Some.other c.previous_sibling-at-in-Some.result c.in-Some.is
    c.previous_sibling-at-in-Some.ensures

pub loop-at-preserved : goal.loop-at-preserved
loop-at-preserved c =
    let next = c.previous_sibling-at-in-Some.result in
    let step = ap (λ (l : List Zipper). first_node (elements l))
    (walk-step earlier earlier-from c.loop-at.at c.in-Some.other next c.in-Some.is c.previous_sibling-at-in-Some.ensures) in
    let no_element = sym c.is_element.ensures ∙ c.if-is_element.false in
    sym (step ∙ ap (λ (b : Bool). first_node
    (cond b (c.in-Some.other ∷ elements (from earlier next)) (elements (from earlier next)))) no_element) ∙ c.loop-at.invariant
