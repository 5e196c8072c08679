use Rattle.std.proofs.Common.{List, ◌++◌, map, ap, ◌∙◌}
use Rattle.page_tree.specs.Zippers.{Zipper, ancestors}
use Rattle.select_match.specs.Elements.{elements}
use Rattle.select_match.proofs.WalkLemmas.{from, ancestors-from, walk-start, walk-smaller}
use Rattle.css_objects.specs.declared.rules.Inherited.{Inherited}
use Rattle.css_agent.specs.MatchedStyles.{told_inherited}
use Rattle.css_agent.proofs.StyleLemmas.{ancestors-turn}
use Rattle.css_agent.proofs.matched_styles.inherited_by.Goals as goal

pub loop-at-init : goal.loop-at-init
loop-at-init c =
    ap (λ (l : List Inherited). l ++ map (told_inherited c.args.medium.now c.args.book.now)
    (elements (from ancestors c.parent-at.result))) c.new-entries.ensures.items
    ∙ ap (λ (l : List Zipper). map (told_inherited c.args.medium.now c.args.book.now) (elements l))
    (walk-start ancestors ancestors-from c.args.node.now c.parent-at.result c.parent-at.ensures)

pub loop-at-smaller : goal.loop-at-smaller
loop-at-smaller c = walk-smaller ancestors ancestors-from c.loop-at.at c.in-Some.ancestor c.parent-at-in-Some.result c.in-Some.is
    c.parent-at-in-Some.ensures

pub loop-at-preserved : goal.loop-at-preserved
loop-at-preserved c =
    ancestors-turn c.args.medium.now c.args.book.now c.loop-at.at c.in-Some.ancestor c.parent-at-in-Some.result c.loop-at.entries.items
    c.add_ancestor.new.entries.items c.in-Some.is c.parent-at-in-Some.ensures
    c.in_ok-add_ancestor.ensures
    ∙ c.loop-at.invariant
