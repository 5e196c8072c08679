-- One tree more is copied, or all are.
use Rattle.std.proofs.Common.{sym, ap, ◌∙◌, ◌+◌, ◌-◌, ◌≤◌, length, arith, drop, Vec, Global}
use Rattle.std.specs.Option.{option_copied}
use Rattle.node_tree.specs.Nodes.{nodes_of, beside}
use Rattle.node_tree.specs.Arena.{slot_trees}
use Rattle.page_tree.specs.declared.trees.Tree.{Tree}
use Rattle.std.proofs.lemmas.List.{drop_all}
use Rattle.page_tree.specs.Arenas.{page_slots, slots_in, stored_trees}
use Rattle.page_tree.proofs.ArenaSteps.{nest_some, nest_none, nest_end}
use Rattle.page_tree.proofs.arenas.Arena.+nesting.Goals as goal
use Rattle.page_tree.proofs.arenas.Arena.+nesting.Goals.{nested_all-in-Some+in_ok-nested+in_ok-push, nested_all-in_default}

pub nested_all-loop-i-preserved : goal.nested_all-loop-i-preserved
nested_all-loop-i-preserved t c =
    let slots = slots_in c.args.self.now in
    let below = stored_trees c.args.self.now (c.args.levels - 1) in
    let here = c.get.ensures in (
      c.loop-i.invariant.0,
      elim c.match-get.branch [
        | nested_all-in-Some+in_ok-nested+in_ok-push w ↦
            let found = sym here ∙ ap (λ o. option_copied o) w.in-Some.is in
            ap (λ (v : Vec Tree Global). beside (nodes_of v.items)
            (slot_trees page_slots slots below (drop (c.loop-i.i + 1) c.args.keys.now))) w.trees-is
            ∙ nest_some slots below c.args.keys.now c.loop-i.i c.at.result c.loop-i.trees.items _ c.at.ensures c.loop-i.invariant.1 _ _ _
            found (w.in_ok-nested.ensures {u = tt}) (w.in_ok-push.ensures {u = tt}).items
        | nested_all-in_default w ↦
            let vacant = sym here ∙ ap (λ o. option_copied o) w.in_default.is in
            ap (λ (v : Vec Tree Global). beside (nodes_of v.items)
            (slot_trees page_slots slots below (drop (c.loop-i.i + 1) c.args.keys.now))) w.trees-is
            ∙ nest_none slots below c.args.keys.now c.loop-i.i c.at.result c.loop-i.trees.items _ c.at.ensures c.loop-i.invariant.1 vacant
      ],
    )

pub nested_all-returns : goal.nested_all-returns
nested_all-returns t c =
    let past : length c.args.keys.now ≤ c.loop-i.i = omega (arith, c.len-i-end.ensures, c.loop-i-test.false) in
    nest_end (slots_in c.args.self.now) c.args.levels c.args.keys.now _ _ c.loop-i.invariant.0
    (drop_all c.loop-i.i c.args.keys.now past) c.loop-i.invariant.1
