use Rattle.std.proofs.Common.{Ok, sym, ap}
use Rattle.front_mirror.specs.Front.{FrontValue}
use Rattle.front_mirror.proofs.known.Known.take_matched.Goals as goal

pub returns : goal.returns
returns c = (
  ap Ok (sym (c.in_ok-keep_matched.ensures {u = tt})),
  ap (λ (v : FrontValue). v.tree) (c.in_ok-keep_matched.ensures {u = tt}),
)
