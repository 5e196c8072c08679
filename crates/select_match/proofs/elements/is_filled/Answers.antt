-- A walk over the children.
use Rattle.std.proofs.Common.{Option, List, ap, sym, ◌∙◌}
use Rattle.std.specs.List.{list_any}
use Rattle.page_tree.specs.Zippers.{Zipper, later}
use Rattle.select_match.specs.Elements.{fills}
use Rattle.select_match.proofs.WalkLemmas.{from, later-from, children-from, walk-smaller, walk-any}
use Rattle.select_match.proofs.elements.is_filled.Goals as goal

pub loop-at-init : goal.loop-at-init
loop-at-init c = ap (λ (o : Option Zipper). list_any fills (from later o)) c.first_child-at.ensures ∙ ap
    (λ (l : List Zipper). list_any fills l) (sym (children-from c.args.node.now))

pub loop-at-smaller : goal.loop-at-smaller
loop-at-smaller c = walk-smaller later later-from c.loop-at.at c.in-Some.child c.next_sibling-at.result c.in-Some.is
    c.next_sibling-at.ensures

pub loop-at-preserved : goal.loop-at-preserved
loop-at-preserved c =
    walk-any later later-from fills c.loop-at.at c.in-Some.child c.next_sibling-at.result c.in-Some.is c.next_sibling-at.ensures
    (sym c.fills.ensures ∙ c.if-fills.false) ∙ c.loop-at.invariant
