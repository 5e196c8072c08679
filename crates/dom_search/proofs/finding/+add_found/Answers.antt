-- A walk in document order, beside a list.
use Rattle.std.proofs.Common.{◌≡◌, ℕ, cond, Option, List, ◌∷◌, [], ◌++◌, ◌||◌, ap, sym, ◌∙◌, arith}
use Rattle.page_tree.specs.Zippers.{Zipper, serial_of, below}
use Rattle.select_match.proofs.WalkLemmas.{all_from, count_from, below-from, count-first_child, count-smaller, parts-added}
use Rattle.dom_search.specs.Found.{has_text}
use Rattle.dom_search.specs.Merged.{waiting, is_next, left_behind, left_after, merged}
use Rattle.dom_search.proofs.MergedLemmas.{merged-step, left-step}
use Rattle.dom_search.proofs.finding.+add_found.Goals as goal

pub loop-at-init : goal.loop-at-init
loop-at-init t c =
    let test = has_text c.args.part.now in
    let listed = waiting c.args.listed.now in
    record {
      rest =
          ap (λ (o : Option Zipper). c.args.found.now.items ++ merged test listed (all_from o)) c.first_child-at.ensures
          ∙ ap (λ (l : List Zipper). c.args.found.now.items ++ merged test listed l) (sym (below-from c.args.node.now));
      left =
          ap (λ (o : Option Zipper). left_after listed (all_from o)) c.first_child-at.ensures
          ∙ ap (λ (l : List Zipper). left_after listed l) (sym (below-from c.args.node.now));
      fewer = omega (arith, ap (λ (o : Option Zipper). count_from o) c.first_child-at.ensures, count-first_child c.args.node.now);
    }

pub loop-at-smaller : goal.loop-at-smaller
loop-at-smaller t c = omega (
  arith,
  count-smaller c.loop-at.at c.in-Some.child c.next_sibling-at.result c.in-Some.is
      c.next_sibling-at.ensures,
)

pub loop-at-preserved : goal.loop-at-preserved
loop-at-preserved t c =
    let test = has_text c.args.part.now in
    let z = c.in-Some.child in
    let next = c.next_sibling-at.result in
    let listed = waiting c.loop-at.listed in
    let behind = left_behind (serial_of z) listed in
    let serial = c.serial-serial.ensures in
    let met = c.takes-is_listed.ensures.met ∙ ap (λ (n : ℕ). is_next n listed) serial in
    let left = c.takes-is_listed.ensures.left ∙ ap (λ (n : ℕ). left_behind n listed) serial in
    let after = (c.in_ok-add_found.ensures {u = tt}).left ∙ ap (λ (l : List ℕ). left_after l (below z)) left in
    record {
      rest =
          ap (λ (l : List ℕ). c.add_found.new.found.items ++ merged test l (all_from next)) after
          ∙ parts-added c.loop-at.found.items c.add_if.new.found.items c.add_found.new.found.items
          (cond (test z || is_next (serial_of z) listed) (serial_of z ∷ []) []) (merged test behind (below z))
          (merged test (left_after behind (below z)) (all_from next)) (merged test listed (all_from c.loop-at.at))
          ((c.in_ok-add_if.ensures {u = tt})
          ∙ (λ i. c.loop-at.found.items ++ cond (c.has_text.ensures i || met i) (serial i ∷ []) []))
          ((c.in_ok-add_found.ensures {u = tt}).found
          ∙ ap (λ (l : List ℕ). c.add_if.new.found.items ++ merged test l (below z)) left)
          (merged-step test listed c.loop-at.at z next c.in-Some.is c.next_sibling-at.ensures)
          ∙ c.loop-at.invariant.rest;
      left =
          ap (λ (l : List ℕ). left_after l (all_from next)) after
          ∙ sym (left-step test listed c.loop-at.at z next c.in-Some.is c.next_sibling-at.ensures)
          ∙ c.loop-at.invariant.left;
      fewer = omega (
        arith,
        count-smaller c.loop-at.at z next c.in-Some.is c.next_sibling-at.ensures,
        c.loop-at.invariant.fewer,
      );
    }
