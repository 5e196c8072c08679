use Rattle.std.proofs.Common.{drop_of_length-le, append-nil, sym, ◌∙◌, arith}
use Rattle.dom_agent.proofs.ServingLemmas.{opens_start, opens_turn, opens_end, next_container, next_room}
use Rattle.dom_agent.proofs.serving.open_all.Goals as goal

pub loop-opening-init : goal.loop-opening-init
loop-opening-init c = opens_start c.args.openings.now c.args.binding.now c.args.out.now.items c.requires.containers c.requires.room

pub open_tree-requires-clause-container : goal.open_tree-requires-clause-container
open_tree-requires-clause-container c = next_container c.args.openings.now c.loop-opening.opening-index c.opening-item.result _ _ _ _ _
    c.loop-opening-test.true c.opening-item.is c.loop-opening.invariant

pub open_tree-requires-clause-room : goal.open_tree-requires-clause-room
open_tree-requires-clause-room c = next_room c.args.openings.now c.loop-opening.opening-index c.opening-item.result _ _ _ _ _
    c.loop-opening-test.true c.opening-item.is c.loop-opening.invariant

pub loop-opening-preserved : goal.loop-opening-preserved
loop-opening-preserved c = opens_turn c.args.openings.now c.loop-opening.opening-index c.opening-item.result _ _ _ _ _
    c.loop-opening-test.true c.opening-item.is c.loop-opening.invariant _ _ c.in_ok-open_tree.ensures
    (λ n d. c.in_ok-tell_children.ensures n d)

pub returns-clause-known : goal.returns-clause-known
returns-clause-known c = (opens_end c.args.openings.now c.loop-opening.opening-index _ _ _ _ _
    (drop_of_length-le c.args.openings.now c.loop-opening-test.false) c.loop-opening.invariant).state

pub returns-clause-sent : goal.returns-clause-sent
returns-clause-sent c =
    let last = opens_end c.args.openings.now c.loop-opening.opening-index _ _ _ _ _
    (drop_of_length-le c.args.openings.now c.loop-opening-test.false) c.loop-opening.invariant in
    λ n d. sym (append-nil _) ∙ last.frames n d

pub returns-clause-few : goal.returns-clause-few
returns-clause-few c =
    let last = opens_end c.args.openings.now c.loop-opening.opening-index _ _ _ _ _
    (drop_of_length-le c.args.openings.now c.loop-opening-test.false) c.loop-opening.invariant in
    omega (arith, last.few)
