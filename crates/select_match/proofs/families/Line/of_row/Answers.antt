-- A walk over the row.
use Rattle.page_tree.specs.Zippers.{later}
use Rattle.select_match.proofs.WalkLemmas.{later-from, walk-smaller}
use Rattle.select_match.proofs.FamilyLemmas.{line-start, line-walk}
use Rattle.select_match.proofs.families.Line.of_row.Goals as goal

pub loop-at-smaller : goal.loop-at-smaller
loop-at-smaller c = walk-smaller later later-from c.loop-at.at c.in-Some.other c.next_sibling-at-in-Some.result c.in-Some.is
    c.next_sibling-at-in-Some.ensures

pub loop-at-init : goal.loop-at-init
loop-at-init c = line-start c.args.first.now c.next_sibling-at.result c.plus_if-after.result c.is_element.result c.next_sibling-at.ensures
    c.is_element.ensures c.plus_if-after.ensures

pub loop-at-preserved : goal.loop-at-preserved
loop-at-preserved c = line-walk c.args.first.now c.in-Some.other c.loop-at.at c.next_sibling-at-in-Some.result c.loop-at.after
    c.plus_if-after-in-Some.result c.is_element-in-Some.result c.are_few.ensures.later c.in-Some.is c.next_sibling-at-in-Some.ensures
    c.loop-at.invariant c.is_element-in-Some.ensures c.plus_if-after-in-Some.ensures
