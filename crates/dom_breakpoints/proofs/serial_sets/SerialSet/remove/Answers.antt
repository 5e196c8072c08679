use Rattle.std.proofs.Common.{ap, ◌∙◌}
use Rattle.std.specs.FinSet as set
use Rattle.dom_breakpoints.proofs.SetLemmas.{from_list-remove}
use Rattle.dom_breakpoints.proofs.serial_sets.SerialSet.remove.Goals as goal

pub returns : goal.returns
returns c =
    from_list-remove _ _ c.args.serial (λ q. c.remove.ensures.updates.0 q) ∙ ap (λ s. set.remove s c.args.serial) c.self.view_is
