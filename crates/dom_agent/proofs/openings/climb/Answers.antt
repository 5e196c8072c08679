-- A walk up. The parent of a shown node is its parent in the page.
use Rattle.std.proofs.Common.{◌≡◌, ℕ, List, Option, IsSome, ◌++◌, map, subst, sym, ap, refl, ◌∙◌}
use Rattle.node_tree.specs.Nodes.{Branch}
use Rattle.page_tree.specs.Pages.{PageRow, PageValue, IsValid, find_in, parent_at}
use Rattle.page_tree.specs.Zippers.{Zipper}
use Rattle.shown_pages.specs.ShownPages.{shown_page}
use Rattle.shown_pages.proofs.ShownTrees.{shown-valid}
use Rattle.shown_pages.proofs.FoundLemmas.{found-both}
use Rattle.shown_pages.proofs.AboveLemmas.{stands-shown}
use Rattle.node_binding.specs.Bindings.{opened_in}
use Rattle.dom_agent.specs.Openings.{opening_of}
use Rattle.dom_agent.specs.Climbs.{up_openings}
use Rattle.dom_agent.proofs.ClimbLemmas.{climb_at, climb-parent, parent-there, climb-step, climb-smaller, climb-end}
use Rattle.dom_agent.proofs.openings.climb.Goals as goal

pub parent-at-requires : goal.parent-at-requires
parent-at-requires c =
    let f = found-both c.args.mode c.args.page.now c.args.serial c.valid.ensures c.requires in
    subst (λ (o : Option (Branch PageRow)). IsSome o) (sym f.in_page) refl

pub loop-at-init : goal.loop-at-init
loop-at-init c =
    let shown : PageValue = shown_page c.args.mode c.args.page.now in
    let valid : IsValid shown = shown-valid c.args.mode c.args.page.now c.valid.ensures in
    let is : c.parent-at.result ≡ parent_at c.args.serial shown.tree =
    c.parent-at.ensures ∙ sym (stands-shown c.args.mode c.args.page.now c.args.serial c.valid.ensures c.requires).parent in
    record {
      rest = ap
          (λ (k : ℕ). map opening_of c.args.openings.now.items ++ up_openings (opened_in c.args.binding.now) (climb_at k shown.tree)) is
          ∙ ap (λ (zs : List Zipper). map opening_of c.args.openings.now.items ++ up_openings (opened_in c.args.binding.now) zs)
          (sym (climb-parent shown.tree valid.distinct valid.least c.args.serial c.requires));
      there = λ some. subst (λ (k : ℕ). IsSome (find_in k shown.tree)) (sym is)
          (parent-there shown.tree valid.distinct valid.least c.args.serial c.requires (λ zero_is. some (is ∙ zero_is)));
    }

pub parent-above-requires : goal.parent-above-requires
parent-above-requires c =
    let f = found-both c.args.mode c.args.page.now c.loop-at.at c.valid.ensures (c.loop-at.invariant.there c.loop-at-test.true) in
    subst (λ (o : Option (Branch PageRow)). IsSome o) (sym f.in_page) refl

pub add_unopened-requires : goal.add_unopened-requires
add_unopened-requires c = c.loop-at.invariant.there c.loop-at-test.true

pub loop-at-smaller : goal.loop-at-smaller
loop-at-smaller c =
    let shown : PageValue = shown_page c.args.mode c.args.page.now in
    let valid : IsValid shown = shown-valid c.args.mode c.args.page.now c.valid.ensures in
    let live = c.loop-at.invariant.there c.loop-at-test.true in
    climb-smaller shown.tree valid.distinct valid.least c.loop-at.at c.parent-above.result c.loop-at-test.true live
    (c.parent-above.ensures ∙ sym (stands-shown c.args.mode c.args.page.now c.loop-at.at c.valid.ensures live).parent)

pub loop-at-preserved : goal.loop-at-preserved
loop-at-preserved c =
    let shown : PageValue = shown_page c.args.mode c.args.page.now in
    let valid : IsValid shown = shown-valid c.args.mode c.args.page.now c.valid.ensures in
    let live = c.loop-at.invariant.there c.loop-at-test.true in
    let is : c.parent-above.result ≡ parent_at c.loop-at.at shown.tree =
    c.parent-above.ensures ∙ sym (stands-shown c.args.mode c.args.page.now c.loop-at.at c.valid.ensures live).parent in
    record {
      rest = climb-step shown.tree valid.distinct valid.least (opened_in c.args.binding.now) c.loop-at.at c.parent-above.result
          c.loop-at-test.true live is (map opening_of c.loop-at.openings.items) (map opening_of c.add_unopened.new.openings.items) _
          (c.in_ok-add_unopened.ensures {u = tt}) c.loop-at.invariant.rest;
      there = λ some. subst (λ (k : ℕ). IsSome (find_in k shown.tree)) (sym is)
          (parent-there shown.tree valid.distinct valid.least c.loop-at.at live (λ zero_is. some (is ∙ zero_is)));
    }

pub returns : goal.returns
returns c =
    climb-end (opened_in c.args.binding.now) (shown_page c.args.mode c.args.page.now).tree c.loop-at.at
    (map opening_of c.loop-at.openings.items) _ c.loop-at-test.false c.loop-at.invariant.rest
