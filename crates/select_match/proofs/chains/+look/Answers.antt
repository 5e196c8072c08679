-- Each outcome tells what its search does.
use Rattle.std.proofs.Common.{List, length, Option, map, reverse, subst, sym, ap, ◌∙◌}
use Rattle.std.specs.List.{list_any}
use Rattle.page_tree.specs.Zippers.{Zipper, ancestors, earlier}
use Rattle.selectors.specs.Forms.{compound_seen}
use Rattle.page_tree.proofs.SiblingLemmas.{some_there}
use Rattle.selectors.specs.declared.selector.Joint.TheVariants.{Descendant, Child, Next, Later}
use Rattle.select_match.specs.declared.outcome.Outcome.{Outcome}
use Rattle.select_match.specs.Elements.{elements}
use Rattle.select_match.specs.Matches.{reached, chain_holds}
use Rattle.select_match.specs.Outcomes.{Tells}
use Rattle.select_match.proofs.WalkLemmas.{from, ancestors-from, earlier-from, walk-start, walk-smaller, walk-any, above_of}
use Rattle.select_match.proofs.WalkLemmas.{above_of-previous, above_of-next}
use Rattle.select_match.proofs.SearchLemmas.{nowhere-above, nowhere-parent, beside-before, beside-previous, tells-above, fails-above}
use Rattle.select_match.proofs.SearchLemmas.{tells-child, tells-before, fails-before, tells-previous, previous-element, tells-last}
use Rattle.select_match.proofs.SearchLemmas.{tells-some, head-none}
use Rattle.select_match.proofs.chains.+look.Goals as goal

pub look_above-loop-at-init : goal.look_above-loop-at-init
look_above-loop-at-init t c = ap (λ (l : List Zipper). list_any (chain_holds (reverse (map compound_seen c.args.left.now))) l)
    (walk-start ancestors ancestors-from c.args.node.now c.parent-at.result c.parent-at.ensures)

pub look_above-returns-then-ends_above : goal.look_above-returns-then-ends_above
look_above-returns-then-ends_above t c =
    let left = ap (λ (o : Option Zipper). list_any (chain_holds (reverse (map compound_seen c.args.left.now)))
    (from ancestors o)) c.in-Some.is in
    tells-above (chain_holds (reverse (map compound_seen c.args.left.now))) c.look_from-outcome.result c.args.node.now c.in-Some.other
    (sym c.ends_above.ensures ∙ c.if-ends_above.true) c.look_from-outcome.ensures (sym left ∙ c.loop-at.invariant)

pub look_above-loop-at-smaller : goal.look_above-loop-at-smaller
look_above-loop-at-smaller t c = walk-smaller ancestors ancestors-from c.loop-at.at c.in-Some.other c.parent-at-in-Some.result c.in-Some.is
    c.parent-at-in-Some.ensures

pub look_above-loop-at-preserved : goal.look_above-loop-at-preserved
look_above-loop-at-preserved t c =
    let fails = fails-above (chain_holds (reverse (map compound_seen c.args.left.now))) c.look_from-outcome.result c.in-Some.other
    (sym c.ends_above.ensures ∙ c.if-ends_above.false) c.look_from-outcome.ensures in
    walk-any ancestors ancestors-from
    (chain_holds (reverse (map compound_seen c.args.left.now))) c.loop-at.at c.in-Some.other c.parent-at-in-Some.result c.in-Some.is
    c.parent-at-in-Some.ensures fails ∙ c.loop-at.invariant

pub look_above-returns : goal.look_above-returns
look_above-returns t c =
    nowhere-above (chain_holds (reverse (map compound_seen c.args.left.now))) c.args.node.now
    (sym c.loop-at.invariant ∙ ap (λ (o : Option Zipper). list_any (chain_holds (reverse (map compound_seen c.args.left.now)))
    (from ancestors o)) c.in_default.is)

pub look_at_parent-returns-in_default : goal.look_at_parent-returns-in_default
look_at_parent-returns-in_default t c =
    let none_above = ancestors-from c.args.node.now ∙ ap (λ (o : Option Zipper). from ancestors o) (sym (c.in_default.ensures {u = tt})) in
    nowhere-parent (chain_holds (reverse (map compound_seen c.args.left.now))) c.args.node.now
    (ap (λ (l : List Zipper). list_any (chain_holds (reverse (map compound_seen c.args.left.now))) l) none_above)

pub look_at_parent-returns : goal.look_at_parent-returns
look_at_parent-returns t c =
    subst (λ (o : Outcome). Tells o
    (λ w. list_any (chain_holds (reverse (map compound_seen c.args.left.now))) (reached Child w)) c.args.node.now)
    (sym c.at_child.ensures)
    (tells-child (chain_holds (reverse (map compound_seen c.args.left.now))) c.look_from.result c.args.node.now c.in-Some.parent
    (sym (c.in-Some.ensures {u = tt})) c.look_from.ensures)

pub look_at_previous-returns-in_default : goal.look_at_previous-returns-in_default
look_at_previous-returns-in_default t c =
    beside-previous (chain_holds (reverse (map compound_seen c.args.left.now))) c.args.node.now
    (ap (λ (l : List Zipper). list_any (chain_holds (reverse (map compound_seen c.args.left.now))) l)
    (head-none (elements (earlier c.args.node.now)) (sym (c.in_default.ensures {u = tt}))))

pub look_at_previous-returns : goal.look_at_previous-returns
look_at_previous-returns t c =
    let found = previous-element c.args.node.now c.in-Some.other (sym (c.in-Some.ensures {u = tt})) in
    tells-previous (chain_holds (reverse
    (map compound_seen c.args.left.now))) c.look_from.result c.args.node.now c.in-Some.other found.0 found.1 c.look_from.ensures

pub look_before-loop-at-init : goal.look_before-loop-at-init
look_before-loop-at-init t c =
    record {
      rest = ap (λ (l : List Zipper). list_any (chain_holds (reverse (map compound_seen c.args.left.now))) l)
          (walk-start earlier earlier-from c.args.node.now c.previous_sibling-at.result c.previous_sibling-at.ensures);
      above = ap (λ (o : Option Zipper). above_of c.args.node.now.above o) c.previous_sibling-at.ensures ∙ above_of-previous
          c.args.node.now;
    }

pub look_before-returns-then-ends_before : goal.look_before-returns-then-ends_before
look_before-returns-then-ends_before t c =
    let left = ap (λ (o : Option Zipper). list_any (chain_holds (reverse (map compound_seen c.args.left.now)))
    (from earlier o)) c.in-Some.is in
    let above = ap (λ (o : Option Zipper). above_of c.args.node.now.above o) c.in-Some.is in
    tells-before (chain_holds (reverse (map compound_seen c.args.left.now))) c.look_from-outcome.result c.args.node.now c.in-Some.other
    (sym c.ends_before.ensures ∙ c.if-ends_before.true) c.look_from-outcome.ensures (sym above ∙ c.loop-at.invariant.above)
    (sym left ∙ c.loop-at.invariant.rest)

pub look_before-loop-at-smaller : goal.look_before-loop-at-smaller
look_before-loop-at-smaller t c = walk-smaller earlier earlier-from c.loop-at.at c.in-Some.other c.previous_sibling-at-in-Some.result
    c.in-Some.is c.previous_sibling-at-in-Some.ensures

pub look_before-loop-at-preserved : goal.look_before-loop-at-preserved
look_before-loop-at-preserved t c =
    let fails = fails-before (chain_holds (reverse (map compound_seen c.args.left.now))) c.look_from-outcome.result c.in-Some.other
    (sym c.ends_before.ensures ∙ c.if-ends_before.false) c.look_from-outcome.ensures in
    let above = ap (λ (o : Option Zipper). above_of c.args.node.now.above o) c.in-Some.is in
    record {
      rest = walk-any earlier earlier-from
          (chain_holds (reverse (map compound_seen c.args.left.now))) c.loop-at.at c.in-Some.other c.previous_sibling-at-in-Some.result
          c.in-Some.is c.previous_sibling-at-in-Some.ensures fails ∙ c.loop-at.invariant.rest;
      above = above_of-next c.args.node.now.above c.in-Some.other c.previous_sibling-at-in-Some.result
          (sym above ∙ c.loop-at.invariant.above) c.previous_sibling-at-in-Some.ensures;
    }

pub look_before-returns : goal.look_before-returns
look_before-returns t c =
    beside-before (chain_holds (reverse (map compound_seen c.args.left.now))) c.args.node.now
    (sym c.loop-at.invariant.rest ∙ ap
    (λ (o : Option Zipper). list_any (chain_holds (reverse (map compound_seen c.args.left.now))) (from earlier o)) c.in_default.is)

pub look_from-returns-else-not-compound_holds : goal.look_from-returns-else-not-compound_holds
look_from-returns-else-not-compound_holds t c =
    tells-last c.args.compounds.now c.in-Some.left.now c.in-Some.last.now c.look_left.result c.args.node.now c.in-Some.ensures.cases.0
    (sym c.compound_holds.ensures ∙ c.if-not-compound_holds.false) c.look_left.ensures

pub look_left-returns-in-Descendant : goal.look_left-returns-in-Descendant
look_left-returns-in-Descendant t c =
    tells-some c.args.left.now c.args.joint Descendant c.look_above.result c.args.node.now c.in-Descendant.is
    (some_there (length c.args.left.now) (c.if-is_empty.ensures {u = tt})) c.look_above.ensures

pub look_left-returns-in-Child : goal.look_left-returns-in-Child
look_left-returns-in-Child t c =
    tells-some c.args.left.now c.args.joint Child c.look_at_parent.result c.args.node.now c.in-Child.is
    (some_there (length c.args.left.now) (c.if-is_empty.ensures {u = tt})) c.look_at_parent.ensures

pub look_left-returns-in-Next : goal.look_left-returns-in-Next
look_left-returns-in-Next t c =
    tells-some c.args.left.now c.args.joint Next c.look_at_previous.result c.args.node.now c.in-Next.is
    (some_there (length c.args.left.now) (c.if-is_empty.ensures {u = tt})) c.look_at_previous.ensures

pub look_left-returns-in-Later : goal.look_left-returns-in-Later
look_left-returns-in-Later t c =
    tells-some c.args.left.now c.args.joint Later c.look_before.result c.args.node.now c.in-Later.is
    (some_there (length c.args.left.now) (c.if-is_empty.ensures {u = tt})) c.look_before.ensures
