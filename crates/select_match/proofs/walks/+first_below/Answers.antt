-- A walk in document order.
use Rattle.std.proofs.Common.{Option, List, ap, sym, ◌∙◌, arith}
use Rattle.std.specs.List.{find}
use Rattle.std.specs.Option.{option_map}
use Rattle.page_tree.specs.Zippers.{Zipper, serial_of}
use Rattle.selectors.specs.Lists.{list_seen}
use Rattle.select_match.specs.Matches.{list_matches}
use Rattle.select_match.proofs.WalkLemmas.{all_from, count_from, below-from, count-first_child, count-smaller, find-below, find-next}
use Rattle.select_match.proofs.walks.+first_below.Goals as goal

pub loop-at-init : goal.loop-at-init
loop-at-init t c =
    record {
      rest = ap (λ (o : Option Zipper). find (list_matches (list_seen c.args.l.now)) (all_from o)) c.first_child-at.ensures ∙ ap
          (λ (l : List Zipper). find (list_matches (list_seen c.args.l.now)) l) (sym (below-from c.args.node.now));
      fewer = omega (arith, ap (λ (o : Option Zipper). count_from o) c.first_child-at.ensures, count-first_child c.args.node.now);
    }

pub returns-in-Some-first_below : goal.returns-in-Some-first_below
returns-in-Some-first_below t c =
    find-below (list_matches (list_seen c.args.l.now)) c.loop-at.at c.in-Some.child c.in-Some.is c.in-Some-first_below.found
    (sym c.list_matches_node.ensures ∙ c.if-list_matches_node.false) (c.in-Some-first_below.ensures {u = tt})
    ∙ ap (λ (o : Option Zipper). option_map serial_of o) c.loop-at.invariant.rest

pub loop-at-smaller : goal.loop-at-smaller
loop-at-smaller t c = omega (
  arith,
  count-smaller c.loop-at.at c.in-Some.child c.next_sibling-at.result c.in-Some.is
      c.next_sibling-at.ensures,
)

pub loop-at-preserved : goal.loop-at-preserved
loop-at-preserved t c =
    record {
      rest =
          find-next (list_matches (list_seen c.args.l.now)) c.loop-at.at c.in-Some.child c.in-Some.is c.next_sibling-at.result
          c.next_sibling-at.ensures (sym c.list_matches_node.ensures ∙ c.if-list_matches_node.false)
          (c.in_default-first_below.ensures {u = tt})
          ∙ c.loop-at.invariant.rest;
      fewer = omega (
        arith,
        count-smaller c.loop-at.at c.in-Some.child c.next_sibling-at.result c.in-Some.is c.next_sibling-at.ensures,
        c.loop-at.invariant.fewer,
      );
    }
