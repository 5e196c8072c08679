-- Nothing in place of nothing.
use Rattle.std.proofs.Common.{sym, ◌∙◌}
use Rattle.front_mirror.proofs.ShelfLemmas.{spliced-nothing}
use Rattle.front_mirror.proofs.orders.stays.Goals as goal

pub returns-then-gone-eq0 : goal.returns-then-gone-eq0
returns-then-gone-eq0 c = λ yes place ids.
    spliced-nothing c.args.gone c.args.new.now place ids c.if-gone-eq0.true (sym c.is_empty.ensures ∙ yes)
