use Rattle.std.proofs.Common.{sym, ap, ◌∙◌}
use Rattle.std.specs.Cmp.{nat_cmp_total}
use Rattle.std.specs.FinSet as set
use Rattle.dom_breakpoints.proofs.serial_sets.SerialSet.contains.Goals as goal

pub returns : goal.returns
returns c =
    c.contains.ensures ∙ sym (set.contains-from_list nat_cmp_total _ c.args.serial) ∙ ap (λ s. set.contains s c.args.serial) c.self.view_is
