use Rattle.node_binding.proofs.ChangesLemmas.{begins, resets, changes_mode, starts, opens_down, binds_child, passes_attach, forgets}
use Rattle.node_binding.proofs.ChangesLemmas.{passes_label}
use Rattle.node_binding.proofs.laws.binding_law.Goals as goal

pub returns : goal.returns
returns c = record {
  begun = begins;
  reset = resets;
  mode = changes_mode;
  start = starts;
  open_down = opens_down;
  bind_child = binds_child;
  attach_elsewhere = passes_attach;
  forget_subtree = forgets;
  label = passes_label;
}
