use Rattle.node_tree.specs.Nodes.{alone}
use Rattle.shown_pages.specs.ShownPages.{shown_page}
use Rattle.shown_pages.proofs.ShownTrees.{shown-valid}
use Rattle.dom_agent.proofs.ForesightLemmas.{goes_live}
use Rattle.dom_agent.proofs.foresight.forget.Goals as goal

pub forget_subtree-requires : goal.forget_subtree-requires
forget_subtree-requires c =
    let mode = c.args.binding.now.mode in
    goes_live (shown_page mode c.args.page.now) c.args.node (shown-valid mode c.args.page.now c.valid.ensures) c.requires

pub returns : goal.returns
returns c =
    (c.child_removed-event.ensures (alone (shown_page c.args.binding.now.mode c.args.page.now).tree), c.forget_subtree.ensures)
