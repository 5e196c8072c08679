-- A walk over the row.
use Rattle.page_tree.specs.Zippers.{later}
use Rattle.select_match.proofs.WalkLemmas.{later-from, walk-smaller}
use Rattle.select_match.proofs.FamilyLemmas.{row-start, row-step, row-end}
use Rattle.select_match.proofs.families.Family.of_row.Goals as goal

pub loop-at-smaller : goal.loop-at-smaller
loop-at-smaller c = walk-smaller later later-from c.loop-at.at c.in-Some.other c.next_sibling-at-in-Some.result c.in-Some.is
    c.next_sibling-at-in-Some.ensures

pub loop-at-init : goal.loop-at-init
loop-at-init c = row-start c.args.first.now c.next_sibling-at.result c.next_sibling-at.ensures c.new-after.result c.add.new.self
    c.new-after.ensures (c.in_ok-add.ensures {u = tt})

pub loop-at-preserved : goal.loop-at-preserved
loop-at-preserved c = row-step c.args.first.now c.in-Some.other c.loop-at.at c.next_sibling-at-in-Some.result c.are_few.ensures.later
    c.in-Some.is c.next_sibling-at-in-Some.ensures c.loop-at.after c.add-in-Some.new.self c.loop-at.invariant
    (c.in_ok-add-2.ensures {u = tt})
