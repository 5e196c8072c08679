-- A walk in document order.
use Rattle.std.proofs.Common.{◌≡◌, ℕ, Bool, false, Option, Some, List, [], ◌++◌, map, ap, sym, subst, ◌∙◌, arith}
use Rattle.std.specs.List.{find}
use Rattle.std.specs.Option.{option_map}
use Rattle.page_tree.specs.Zippers.{Zipper, serial_of, below, first_child_of}
use Rattle.select_match.specs.Steps.{step_seen, chains_in, any_ends, beside_of}
use Rattle.select_match.specs.declared.steps.Around.{Around}
use Rattle.select_match.specs.Families.{SiblingsFace}
use Rattle.select_match.proofs.FamilyLemmas.{first-earlier}
use Rattle.select_match.proofs.StepLemmas.{beside-next, inside-first}
use Rattle.select_match.proofs.WalkLemmas.{all_from, count_from, below-from, count-first_child, count-smaller, find-below, find-next}
use Rattle.select_match.proofs.stepped.+first_stepped.Goals as goal

pub siblings_of-requires : goal.siblings_of-requires
siblings_of-requires t c = first-earlier c.args.node.now c.in-Some.first (sym (c.in-Some.ensures {u = tt}))

pub returns-in_default : goal.returns-in_default
returns-in_default t c =
    let p = any_ends [] (map step_seen c.args.steps.now) in
    let nothing : below c.args.node.now ≡ [] = below-from c.args.node.now ∙ ap (λ (o : Option Zipper). all_from o)
    (sym (c.in_default.ensures {u = tt})) in
    sym (ap (λ (l : List Zipper). option_map serial_of (find p l)) nothing)

pub loop-at-init : goal.loop-at-init
loop-at-init t c =
    let p = any_ends [] (map step_seen c.args.steps.now) in
    let first : Some c.in-Some.first ≡ first_child_of c.args.node.now = c.in-Some.ensures {u = tt} in
    record {
      rest = ap (λ (o : Option Zipper). find p (all_from o)) first ∙ ap (λ (l : List Zipper). find p l)
          (sym (below-from c.args.node.now));
      fewer = omega (arith, ap (λ (o : Option Zipper). count_from o) first, count-first_child c.args.node.now);
      faces = λ z e. let same : c.in-Some.first ≡ z = cc in
          subst (λ (w : Zipper). SiblingsFace c.in_ok-family.family w) same (c.in_ok-family.ensures {u = tt});
      fits = λ z e. c.requires
          ∙ inside-first c.args.node.now (chains_in [] (map step_seen c.args.steps.now)) (Some c.in-Some.first) first z e;
    }

pub returns-in-Some-2 : goal.returns-in-Some-2
returns-in-Some-2 t c =
    let p = any_ends [] (map step_seen c.args.steps.now) in
    find-below p c.loop-at.at c.in-Some-at.child c.in-Some-at.is c.in-Some-2.found
    (sym c.in_ok-visit.ensures.found ∙ c.if-branch.false) (sym c.in-Some-2.is ∙ (c.in_ok-found.ensures {u = tt}))
    ∙ ap (λ (o : Option Zipper). option_map serial_of o) c.loop-at.invariant.rest

pub loop-at-smaller : goal.loop-at-smaller
loop-at-smaller t c = omega (
  arith,
  count-smaller c.loop-at.at c.in-Some-at.child c.next_sibling-at.result c.in-Some-at.is
      c.next_sibling-at.ensures,
)

pub loop-at-preserved : goal.loop-at-preserved
loop-at-preserved t c =
    let p = any_ends [] (map step_seen c.args.steps.now) in
    let z = c.in-Some-at.child in
    let next = c.next_sibling-at.result in
    let chains = chains_in [] (map step_seen c.args.steps.now) in
    record {
      rest =
          find-next p c.loop-at.at z c.in-Some-at.is next c.next_sibling-at.ensures
          (sym c.in_ok-visit.ensures.found ∙ c.if-branch.false) (sym c.in_default-2.is ∙ (c.in_ok-found.ensures {u = tt}))
          ∙ c.loop-at.invariant.rest;
      fewer = omega (
        arith,
        count-smaller c.loop-at.at z next c.in-Some-at.is c.next_sibling-at.ensures,
        c.loop-at.invariant.fewer,
      );
      faces = λ w e. c.in_ok-places.ensures.next w (sym c.next_sibling-at.ensures ∙ e);
      fits = λ w e. c.in_ok-visit.ensures.beside
          ∙ ap (λ (l : List Around). l ++ map (beside_of z) chains) c.new-beside.ensures.items
          ∙ beside-next z chains next c.next_sibling-at.ensures w e;
    }
