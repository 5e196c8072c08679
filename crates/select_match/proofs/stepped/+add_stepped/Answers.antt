-- A walk in document order.
use Rattle.std.proofs.Common.{◌≡◌, ℕ, Bool, cond, Option, Some, List, ◌∷◌, [], ◌++◌, map, ap, sym, subst, ◌∙◌, arith}
use Rattle.std.specs.List.{filter}
use Rattle.std.proofs.lemmas.List.{append-nil}
use Rattle.page_tree.specs.Zippers.{Zipper, serial_of, below, first_child_of}
use Rattle.select_match.specs.Steps.{step_seen, chains_in, any_ends, beside_of}
use Rattle.select_match.specs.declared.steps.Around.{Around}
use Rattle.select_match.specs.Families.{SiblingsFace}
use Rattle.select_match.proofs.FamilyLemmas.{first-earlier}
use Rattle.select_match.proofs.StepLemmas.{beside-next, inside-first}
use Rattle.select_match.proofs.WalkLemmas.{all_from, count_from, below-from, count-first_child, count-smaller, matching-step, parts-added}
use Rattle.select_match.proofs.stepped.+add_stepped.Goals as goal

pub siblings_of-requires : goal.siblings_of-requires
siblings_of-requires t c = first-earlier c.args.node.now c.in-Some.first (sym (c.in-Some.ensures {u = tt}))

pub returns-in_default : goal.returns-in_default
returns-in_default t c =
    let p = any_ends [] (map step_seen c.args.steps.now) in
    let nothing : below c.args.node.now ≡ [] = below-from c.args.node.now ∙ ap (λ (o : Option Zipper). all_from o)
    (sym (c.in_default.ensures {u = tt})) in
    sym (ap (λ (l : List Zipper). c.args.found.now.items ++ map serial_of (filter p l)) nothing ∙ append-nil c.args.found.now.items)

pub loop-at-init : goal.loop-at-init
loop-at-init t c =
    let p = any_ends [] (map step_seen c.args.steps.now) in
    let first : Some c.in-Some.first ≡ first_child_of c.args.node.now = c.in-Some.ensures {u = tt} in
    record {
      rest =
          ap (λ (o : Option Zipper). c.args.found.now.items ++ map serial_of (filter p (all_from o))) first
          ∙ ap (λ (l : List Zipper). c.args.found.now.items ++ map serial_of (filter p l)) (sym (below-from c.args.node.now));
      fewer = omega (arith, ap (λ (o : Option Zipper). count_from o) first, count-first_child c.args.node.now);
      faces = λ z e. let same : c.in-Some.first ≡ z = cc in
          subst (λ (w : Zipper). SiblingsFace c.in_ok-family.family w) same (c.in_ok-family.ensures {u = tt});
      fits = λ z e. c.requires
          ∙ inside-first c.args.node.now (chains_in [] (map step_seen c.args.steps.now)) (Some c.in-Some.first) first z e;
    }

pub loop-at-smaller : goal.loop-at-smaller
loop-at-smaller t c = omega (
  arith,
  count-smaller c.loop-at.at c.in-Some-at.child c.next_sibling-at.result c.in-Some-at.is
      c.next_sibling-at.ensures,
)

pub loop-at-preserved : goal.loop-at-preserved
loop-at-preserved t c =
    let p = any_ends [] (map step_seen c.args.steps.now) in
    let z = c.in-Some-at.child in
    let next = c.next_sibling-at.result in
    let chains = chains_in [] (map step_seen c.args.steps.now) in
    let one = ap (λ (b : Bool). c.loop-at.found.items ++ cond b (c.serial.result ∷ []) []) c.in_ok-holds.ensures.found ∙ ap
    (λ (n : ℕ). c.loop-at.found.items ++ cond (p z) (n ∷ []) []) c.serial.ensures in
    record {
      rest =
          parts-added c.loop-at.found.items c.add_if.new.found.items c.add_stepped.new.found.items (cond (p z) (serial_of z ∷ []) [])
          (map serial_of (filter p (below z))) (map serial_of (filter p (all_from next)))
          (map serial_of (filter p (all_from c.loop-at.at))) ((c.in_ok-add_if.ensures {u = tt}) ∙ one)
          (c.in_ok-add_stepped.ensures {u = tt})
          (matching-step p c.loop-at.at z c.in-Some-at.is next c.next_sibling-at.ensures)
          ∙ c.loop-at.invariant.rest;
      fewer = omega (
        arith,
        count-smaller c.loop-at.at z next c.in-Some-at.is c.next_sibling-at.ensures,
        c.loop-at.invariant.fewer,
      );
      faces = λ w e. c.in_ok-places.ensures.next w (sym c.next_sibling-at.ensures ∙ e);
      fits = λ w e. c.in_ok-holds.ensures.beside
          ∙ ap (λ (l : List Around). l ++ map (beside_of z) chains) c.new-beside.ensures.items
          ∙ beside-next z chains next c.next_sibling-at.ensures w e;
    }
