-- A page is small.
use Rattle.std.proofs.Common.{◌≤◌, ◌<◌, ◌^◌, ◌+◌, sym, subst, arith}
use Rattle.node_tree.specs.Nodes.{Branch, alone, node_count, branch_count}
use Rattle.page_tree.specs.Pages.{PageRow}
use Rattle.node_binding.proofs.StartLemmas.{count-alone}
use Rattle.replay_parts.proofs.page_lines.page_text.Goals as goal

pub write_node-requires : goal.write_node-requires
write_node-requires c =
    let few : node_count (alone c.args.page.now.tree) ≤ 100000 = count-alone c.args.page.now c.valid.ensures in
    let room : 0 + branch_count c.args.page.now.tree < 2 ^ 64 = omega (arith, few) in
    subst (λ (tree : Branch PageRow). 0 + branch_count tree < 2 ^ 64) (sym c.root.ensures) room
