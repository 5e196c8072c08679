-- A line without the faults that come before has those of what it says.
use Rattle.std.proofs.Common.{Option, subst, sym, ◌∙◌}
use Rattle.serde_json.specs.View.{view}
use Rattle.serde_json.specs.Written.{has_float}
use Rattle.replay_script.specs.declared.faults.LineFault.{LineFault}
use Rattle.replay_script.specs.Seen.{RefusesLine}
use Rattle.replay_script.proofs.FaultLemmas.{whole_not, fault_said}
use Rattle.replay_script.proofs.reads.read_value.Goals as goal

pub returns-clause-fault : goal.returns-clause-fault
returns-clause-fault c =
    subst (λ (fault : Option LineFault). RefusesLine c.read_by.result fault)
    (sym (fault_said c.args.number (view c.args.line.now) c.in-Some.kind (view c.in-Some.value.now) (sym c.in-Some.ensures)
    (whole_not (has_float (view c.args.line.now)) c.all_whole.result c.all_whole.ensures c.if-not-all_whole.false)
    (sym c.lacks_load.ensures ∙ c.if-lacks_load.false)))
    c.read_by.ensures.fault
