-- A walk in document order.
use Rattle.std.proofs.Common.{ℕ, Bool, cond, Option, List, ◌∷◌, [], ◌++◌, map, ap, sym, ◌∙◌, arith}
use Rattle.std.specs.List.{filter}
use Rattle.page_tree.specs.Zippers.{Zipper, serial_of, below}
use Rattle.selectors.specs.Lists.{list_seen}
use Rattle.select_match.specs.Matches.{list_matches}
use Rattle.select_match.proofs.WalkLemmas.{all_from, count_from, below-from, count-first_child, count-smaller, matching-step, parts-added}
use Rattle.select_match.proofs.walks.+add_below.Goals as goal

pub loop-at-init : goal.loop-at-init
loop-at-init t c =
    let p = list_matches (list_seen c.args.l.now) in
    record {
      rest =
          ap (λ (o : Option Zipper). c.args.found.now.items ++ map serial_of (filter p (all_from o))) c.first_child-at.ensures
          ∙ ap (λ (l : List Zipper). c.args.found.now.items ++ map serial_of (filter p l)) (sym (below-from c.args.node.now));
      fewer = omega (arith, ap (λ (o : Option Zipper). count_from o) c.first_child-at.ensures, count-first_child c.args.node.now);
    }

pub loop-at-smaller : goal.loop-at-smaller
loop-at-smaller t c = omega (
  arith,
  count-smaller c.loop-at.at c.in-Some.child c.next_sibling-at.result c.in-Some.is
      c.next_sibling-at.ensures,
)

pub loop-at-preserved : goal.loop-at-preserved
loop-at-preserved t c =
    let p = list_matches (list_seen c.args.l.now) in
    let z = c.in-Some.child in
    let one = ap (λ (b : Bool). c.loop-at.found.items ++ cond b (c.serial.result ∷ []) []) c.list_matches_node.ensures ∙ ap
    (λ (n : ℕ). c.loop-at.found.items ++ cond (p z) (n ∷ []) []) c.serial.ensures in
    record {
      rest =
          parts-added c.loop-at.found.items c.add_if.new.found.items c.add_below.new.found.items (cond (p z) (serial_of z ∷ []) [])
          (map serial_of (filter p (below z))) (map serial_of (filter p (all_from c.next_sibling-at.result)))
          (map serial_of (filter p (all_from c.loop-at.at))) ((c.in_ok-add_if.ensures {u = tt}) ∙ one) (c.in_ok-add_below.ensures {u = tt})
          (matching-step p c.loop-at.at z c.in-Some.is c.next_sibling-at.result c.next_sibling-at.ensures)
          ∙ c.loop-at.invariant.rest;
      fewer = omega (
        arith,
        count-smaller c.loop-at.at z c.next_sibling-at.result c.in-Some.is c.next_sibling-at.ensures,
        c.loop-at.invariant.fewer,
      );
    }
