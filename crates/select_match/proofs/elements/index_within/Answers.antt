-- What was counted and what is left are the index, which is bounded.
use Rattle.std.proofs.Common.{ℕ, Bool, cond, List, length, ap, ◌∙◌, arith}
use Rattle.std.specs.List.{filter}
use Rattle.page_tree.specs.Zippers.{Zipper}
use Rattle.select_match.specs.Elements.{side, counts}
use Rattle.select_match.proofs.WalkLemmas.{side-from, walk-start, walk-smaller, count-step, index-bound}
use Rattle.select_match.proofs.elements.index_within.Goals as goal

pub loop-at-init : goal.loop-at-init
loop-at-init c =
    omega (
      arith,
      ap (λ (l : List Zipper). length (filter (counts c.args.kind c.args.node.now) l))
          (walk-start (side c.args.kind) (side-from c.args.kind) c.args.node.now c.beside-at.result c.beside-at.ensures),
    )

pub overflow_add-count : goal.overflow_add-count
overflow_add-count c =
    let step = count-step c.args.kind c.args.node.now c.loop-at.at c.in-Some.other c.in-Some.is in
    let one = c.one_if-count.ensures ∙ ap (λ (b : Bool). cond {A = ℕ} b 1 0) c.counts.ensures in
    omega (arith, step, one, c.loop-at.invariant, index-bound c.args.kind c.args.node.now c.are_few.ensures.earlier c.are_few.ensures.later)

pub loop-at-smaller : goal.loop-at-smaller
loop-at-smaller c = walk-smaller (side c.args.kind)
    (side-from c.args.kind) c.loop-at.at c.in-Some.other c.beside-at-in-Some.result c.in-Some.is c.beside-at-in-Some.ensures

pub loop-at-preserved : goal.loop-at-preserved
loop-at-preserved c =
    let step = count-step c.args.kind c.args.node.now c.loop-at.at c.in-Some.other c.in-Some.is in
    let one = c.one_if-count.ensures ∙ ap (λ (b : Bool). cond {A = ℕ} b 1 0) c.counts.ensures in
    let next = ap (λ (l : List Zipper). length (filter (counts c.args.kind c.args.node.now) l))
    (walk-start (side c.args.kind) (side-from c.args.kind) c.in-Some.other c.beside-at-in-Some.result c.beside-at-in-Some.ensures) in
    omega (arith, step, one, next, c.loop-at.invariant)

pub returns-clause-bound : goal.returns-clause-bound
returns-clause-bound c = omega
    (arith, c.loop-at.invariant, index-bound c.args.kind c.args.node.now c.are_few.ensures.earlier c.are_few.ensures.later)

pub returns-clause-few : goal.returns-clause-few
returns-clause-few c = index-bound c.args.kind c.args.node.now c.are_few.ensures.earlier c.are_few.ensures.later

pub returns-then-count-limit-clause-bound : goal.returns-then-count-limit-clause-bound
returns-then-count-limit-clause-bound c = omega
    (arith, c.loop-at.invariant, index-bound c.args.kind c.args.node.now c.are_few.ensures.earlier c.are_few.ensures.later)

pub returns-then-count-limit-clause-few : goal.returns-then-count-limit-clause-few
returns-then-count-limit-clause-few c = index-bound c.args.kind c.args.node.now c.are_few.ensures.earlier c.are_few.ensures.later
