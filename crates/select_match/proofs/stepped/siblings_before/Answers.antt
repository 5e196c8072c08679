-- A walk back.
use Rattle.std.proofs.Common.{List, ◌++◌, ap, ◌∙◌}
use Rattle.page_tree.specs.Zippers.{Zipper, earlier}
use Rattle.select_match.proofs.WalkLemmas.{from, earlier-from, walk-start, walk-smaller}
use Rattle.select_match.proofs.StepLemmas.{row-taken}
use Rattle.select_match.proofs.stepped.siblings_before.Goals as goal

pub loop-at-init : goal.loop-at-init
loop-at-init c =
    ap (λ (l : List Zipper). l ++ from earlier c.previous_sibling-at.result) c.new-before.ensures.items
    ∙ walk-start earlier earlier-from c.args.node.now c.previous_sibling-at.result c.previous_sibling-at.ensures

pub loop-at-smaller : goal.loop-at-smaller
loop-at-smaller c = walk-smaller earlier earlier-from c.loop-at.at c.in-Some.other c.previous_sibling-next.result c.in-Some.is
    c.previous_sibling-next.ensures

pub loop-at-preserved : goal.loop-at-preserved
loop-at-preserved c =
    row-taken c.loop-at.before.items c.loop-at.at c.in-Some.other c.previous_sibling-next.result c.in-Some.is
    c.previous_sibling-next.ensures c.push.new.self.items c.in_ok-push.ensures.items ∙ c.loop-at.invariant
