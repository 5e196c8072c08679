-- A node comes in with what is below it, and one tree more.
use Rattle.std.proofs.Common.{◌+◌, ◌*◌, ◌<◌, List, ℕ, Some, refl, sym, ap, subst, ◌∙◌, arith}
use Rattle.node_tree.specs.Nodes.{Branch, alone, nodes_of, node_count, branch_count, none}
use Rattle.node_tree.specs.Arena.{IsFresh, KeepsOne}
use Rattle.node_tree.proofs.KeyLemmas.{tally_row}
use Rattle.node_tree.proofs.ArenaLemmas.{fresh-absent, planted-keeps, Planting, planting-fresh, planting-turn, planting-end}
use Rattle.page_tree.specs.Pages.{PageRow, row_serial}
use Rattle.page_tree.specs.Arenas.{page_slots, slots_in, keys_in}
use Rattle.page_tree.proofs.ArenaSteps.{none_left}
use Rattle.page_tree.proofs.arenas.Arena.+planting.Goals as goal

pub plant-put-requires-clause-absent : goal.plant-put-requires-clause-absent
plant-put-requires-clause-absent t c =
    fresh-absent page_slots (slots_in c.args.self.now) (keys_in c.args.self.now)
    (alone c.args.tree) c.requires.filed c.requires.fresh c.tree.inside.serial
    (tally_row row_serial c.tree.inside.serial c.args.tree.row c.args.tree.children none
    (sym (ap (λ (y : Branch PageRow). y.row.serial) c.tree.view_is)))

pub plant-returns-clause-ok : goal.plant-returns-clause-ok
plant-returns-clause-ok t c =
    let comes = (c.in_ok-key.ensures {u = tt}).ok in
    let below = c.in_ok-children.ensures {u = tt} in
    let fresh = subst (λ (b : Branch PageRow). IsFresh page_slots (slots_in c.args.self.now) (alone b))
    (sym c.tree.view_is) c.requires.fresh in
    let turns = c.set_children.ensures.slots _ (below.grown.kept _ _ comes.at) in
    let kept = planted-keeps page_slots _ _ _ _ _ _ comes refl fresh _ _ _ _ below.grown below.ok turns refl refl c.args.above refl in
    subst (λ (b : Branch PageRow). KeepsOne page_slots
    (slots_in c.set_children.new.self) b c.args.above c.in_ok-key.key) c.tree.view_is kept

pub plant_all-plant-requires : goal.plant_all-plant-requires
plant_all-plant-requires t c =
    let is_rest = (c.in-Some.ensures {u = tt}).steps.0 in
    let before = subst (λ (l : List (Branch PageRow)). Planting page_slots (slots_in c.args.self.now) (slots_in c.loop-tree.self)
    (nodes_of c.args.trees.items) (nodes_of l) (Some c.args.parent) c.loop-tree.keys) is_rest c.loop-tree.invariant.3 in
    let count = ap (λ (l : List (Branch PageRow)). node_count (nodes_of l)) is_rest in
    let small : 2 * branch_count c.in-Some.tree < 2 * node_count (nodes_of c.args.trees.items)
    + 1 = omega (arith, count, c.loop-tree.invariant.4) in (
      subst (λ (m : ℕ). 2 * branch_count c.in-Some.tree < m) c.decreases small,
      (c.loop-tree.invariant.2, planting-fresh page_slots _ _ _ _ _ _ _ _ before),
    )

pub plant_all-loop-tree-preserved : goal.plant_all-loop-tree-preserved
plant_all-loop-tree-preserved t c =
    let is_rest = (c.in-Some.ensures {u = tt}).steps.0 in
    let before = subst (λ (l : List (Branch PageRow)). Planting page_slots (slots_in c.args.self.now) (slots_in c.loop-tree.self)
    (nodes_of c.args.trees.items) (nodes_of l) (Some c.args.parent) c.loop-tree.keys) is_rest c.loop-tree.invariant.3 in
    let count = ap (λ (l : List (Branch PageRow)). node_count (nodes_of l)) is_rest in
    let turn = planting-turn page_slots _ _ _ _ _ _ _ _ before (slots_in c.plant.new.self) c.in_ok-key.key c.plant.ensures.grown
    (c.in_ok-key.ensures {u = tt}).ok in (
      tt,
      tt,
      c.plant.ensures.filed,
      subst
          (λ (ks : List ℕ). Planting page_slots (slots_in c.args.self.now) (slots_in c.plant.new.self) (nodes_of c.args.trees.items)
          (nodes_of c.next.new.self.rest.items) (Some c.args.parent) ks) (sym (c.in_ok-push.ensures {u = tt}).ok) turn,
      omega
          (arith, count, c.loop-tree.invariant.4),
    )

pub plant_all-returns-clause-ok : goal.plant_all-returns-clause-ok
plant_all-returns-clause-ok t c =
    let rest = c.loop-tree.tree-iterator.rest in
    let empty = sym rest.ok.0 ∙ (c.in-None.ensures {u = tt}).steps.0 in
    let done = subst (λ n. Planting page_slots (slots_in c.args.self.now) (slots_in c.loop-tree.self) (nodes_of c.args.trees.items) n
    (Some c.args.parent) c.loop-tree.keys) (none_left rest.items empty) c.loop-tree.invariant.3 in
    planting-end page_slots _ _ _ _ _ done
