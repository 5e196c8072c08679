use Rattle.std.proofs.Common.{◌≤◌, Option, IsSome, refl, ap, subst, sym, ◌∙◌}
use Rattle.std.specs.Option.{unwrap_or}
use Rattle.node_tree.specs.Nodes.{Branch, width}
use Rattle.page_tree.specs.Pages.{PageRow, find_in, node_at}
use Rattle.shown_pages.specs.declared.modes.Mode.{Mode}
use Rattle.shown_pages.specs.ShownPages.{shown_page}
use Rattle.shown_pages.proofs.ShownTrees.{shown-valid}
use Rattle.shown_pages.proofs.FoundLemmas.{found-both}
use Rattle.shown_pages.proofs.AboveLemmas.{stands-shown}
use Rattle.client_views.specs.Moves.{frames_of_moves}
use Rattle.dom_agent.proofs.EditCode.{removed_live, removed_some, removed_tells, removed_untold, removed_counts}
use Rattle.dom_agent.proofs.ForesightLemmas.{goes_live}
use Rattle.dom_agent.proofs.edits.child_removed.Goals as goal

pub parent-parent-requires : goal.parent-parent-requires
parent-parent-requires c =
    let mode = c.args.binding.now.mode in
    let valid = shown-valid mode c.args.page.now c.valid.ensures in
    let f = found-both mode c.args.page.now c.args.serial c.valid.ensures
    (goes_live (shown_page mode c.args.page.now) c.args.serial valid c.requires) in
    subst (λ (o : Option (Branch PageRow)). IsSome o) (sym f.in_page) refl

pub at-node-requires : goal.at-node-requires
at-node-requires c =
    let mode = c.args.binding.now.mode in
    let valid = shown-valid mode c.args.page.now c.valid.ensures in
    let live = goes_live (shown_page mode c.args.page.now) c.args.serial valid c.requires in
    subst (λ (m : Mode). IsSome (find_in c.parent-parent.result (shown_page m c.args.page.now).tree)) (sym c.mode.ensures)
    (removed_live (shown_page mode c.args.page.now) valid c.args.serial c.requires c.parent-parent.result
    (c.parent-parent.ensures ∙ sym (stands-shown mode c.args.page.now c.args.serial c.valid.ensures live).parent))

pub overflow_sub-count : goal.overflow_sub-count
overflow_sub-count c =
    let mode = c.args.binding.now.mode in
    let valid = shown-valid mode c.args.page.now c.valid.ensures in
    let live = goes_live (shown_page mode c.args.page.now) c.args.serial valid c.requires in
    subst (λ k. 1 ≤ k)
    (sym (c.len.ensures ∙ ap (λ (x : Branch PageRow). width x.children)
    (c.at-node.ensures ∙ ap (λ (m : Mode). node_at c.parent-parent.result (shown_page m c.args.page.now).tree) c.mode.ensures)))
    (removed_some (shown_page mode c.args.page.now) valid c.args.serial c.requires c.parent-parent.result
    (c.parent-parent.ensures ∙ sym (stands-shown mode c.args.page.now c.args.serial c.valid.ensures live).parent))

pub returns-then-is_opened : goal.returns-then-is_opened
returns-then-is_opened c =
    let mode = c.args.binding.now.mode in
    let valid = shown-valid mode c.args.page.now c.valid.ensures in
    let live = goes_live (shown_page mode c.args.page.now) c.args.serial valid c.requires in
    λ n. ap frames_of_moves (removed_tells (shown_page mode c.args.page.now) valid c.args.serial c.requires n c.args.binding.now
    c.parent-parent.result c.unwrap_or-above.result c.unwrap_or-id.result
    (c.parent-parent.ensures ∙ sym (stands-shown mode c.args.page.now c.args.serial c.valid.ensures live).parent)
    (sym (c.if-is_opened.ensures {u = tt})) (c.unwrap_or-above.ensures ∙ ap (λ o. unwrap_or o 0) c.id_of.ensures)
    (c.unwrap_or-id.ensures ∙ ap (λ o. unwrap_or o 0) c.id_of-then-is_opened.ensures))

pub returns-in_default : goal.returns-in_default
returns-in_default c =
    let mode = c.args.binding.now.mode in
    let valid = shown-valid mode c.args.page.now c.valid.ensures in
    let live = goes_live (shown_page mode c.args.page.now) c.args.serial valid c.requires in
    λ n. ap frames_of_moves (removed_untold (shown_page mode c.args.page.now) valid c.args.serial c.requires n c.args.binding.now
    c.parent-parent.result
    (c.parent-parent.ensures ∙ sym (stands-shown mode c.args.page.now c.args.serial c.valid.ensures live).parent)
    (sym (c.if-is_opened.ensures {u = tt})) (sym c.id_of-2.ensures ∙ c.in_default.is))

pub returns : goal.returns
returns c =
    let mode = c.args.binding.now.mode in
    let valid = shown-valid mode c.args.page.now c.valid.ensures in
    let live = goes_live (shown_page mode c.args.page.now) c.args.serial valid c.requires in
    λ n. ap frames_of_moves (removed_counts (shown_page mode c.args.page.now) valid c.args.serial c.requires n c.args.binding.now
    c.parent-parent.result c.in-Some.above c.len.result
    (c.parent-parent.ensures ∙ sym (stands-shown mode c.args.page.now c.args.serial c.valid.ensures live).parent)
    (sym (c.if-is_opened.ensures {u = tt})) (sym c.in-Some.is ∙ c.id_of-2.ensures)
    (c.len.ensures ∙ ap (λ (x : Branch PageRow). width x.children)
    (c.at-node.ensures ∙ ap (λ (m : Mode). node_at c.parent-parent.result (shown_page m c.args.page.now).tree) c.mode.ensures)))
