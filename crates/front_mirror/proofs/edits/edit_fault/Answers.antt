-- The slot is the node's, on its level.
use Rattle.front_mirror.proofs.ReadLemmas.{fault_nowhere, found_known, fault_found}
use Rattle.node_tree.specs.Seen.{seen_id}
use Rattle.node_tree.specs.Keys.{find}
use Rattle.front_mirror.proofs.edits.edit_fault.Goals as goal

pub returns-in_default : goal.returns-in_default
returns-in_default c = fault_nowhere c.args.mirror.now c.args.edit.now c.args.id c.in_default.ensures.looks

pub level-requires : goal.level-requires
level-requires c = record { known = found_known c.in-Some.slot.now (find seen_id c.args.id c.args.mirror.now) c.in-Some.ensures.looks }

pub returns : goal.returns
returns c = fault_found c.args.mirror.now c.args.edit.now c.args.id c.level.result c.in-Some.slot.now c.slot_fault.result
    c.in-Some.ensures.looks c.level.ensures.level c.slot_fault.ensures
