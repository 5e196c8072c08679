use Rattle.node_binding.proofs.OpenDownLemmas.{open_tree_room, open_tree_is}
use Rattle.node_binding.proofs.binding.Binding.open_tree.Goals as goal

pub reveal-requires : goal.reveal-requires
reveal-requires c =
    open_tree_room c.args.levels c.args.node.now c.args.self.now _ _ c.requires.room c.walk-below.ensures c.in_ok-open_reached.ensures

pub returns : goal.returns
returns c =
    open_tree_is c.args.levels _ c.args.node.now c.args.self.now _ _ _ c.requires.container c.less-left.ensures c.walk-below.ensures
    c.in_ok-open_reached.ensures c.in_ok-reveal.ensures
