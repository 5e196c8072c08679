-- The parent that the slot names.
use Rattle.std.proofs.Common.{ℕ, Some, ap, ◌∙◌}
use Rattle.front_mirror.proofs.mirror.Mirror.parent.Goals as goal

pub returns : goal.returns
returns c = ap (λ (x : ℕ). Some x) c.unwrap_or.ensures ∙ c.at.ensures.parent
