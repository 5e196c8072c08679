-- A node for each serial of the map.
use Rattle.std.proofs.Common.{ap, arith}
use Rattle.node_tree.specs.Nodes.{branch_count}
use Rattle.node_tree.proofs.NodeLemmas.{node_count-map_rows}
use Rattle.page_tree.specs.Pages.{PageValue, row_label}
use Rattle.page_tree.specs.Arenas.{tree_of}
use Rattle.page_tree.proofs.CountLemmas.{count_is}
use Rattle.page_tree.proofs.pages.Page.room.Goals as goal

pub overflow_sub-result : goal.overflow_sub-result
overflow_sub-result c =
    let count = count_is c.self.inside.arena c.self.inside.root c.self.inside.next c.self.invariant c.len.ensures.ordered in
    let room = c.self.invariant.valid.nodes.room in
    omega (arith, count, room, c.len.ensures.len, node_count-map_rows row_label (tree_of c.self.inside.arena c.self.inside.root).children)

pub returns : goal.returns
returns c =
    let count = count_is c.self.inside.arena c.self.inside.root c.self.inside.next c.self.invariant c.len.ensures.ordered in
    let room = c.self.invariant.valid.nodes.room in
    let is = ap (λ (p : PageValue). branch_count p.tree) c.self.view_is in
    omega (
      arith,
      count,
      room,
      is,
      c.len.ensures.len,
      node_count-map_rows row_label
          (tree_of c.self.inside.arena c.self.inside.root).children,
    )
