use Rattle.std.proofs.Common.{ap, ◌∙◌}
use Rattle.std.specs.FinSet as set
use Rattle.dom_breakpoints.proofs.SetLemmas.{from_list-insert}
use Rattle.dom_breakpoints.proofs.serial_sets.SerialSet.insert.Goals as goal

pub returns-clause-ok : goal.returns-clause-ok
returns-clause-ok c =
    from_list-insert _ _ c.args.serial (λ q. c.in_ok-insert.ensures.updates.0 q) ∙ ap (λ s. set.insert s c.args.serial) c.self.view_is
