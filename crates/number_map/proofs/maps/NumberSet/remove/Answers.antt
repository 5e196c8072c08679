use Rattle.std.proofs.Common.{ap, ◌∙◌}
use Rattle.std.specs.FinSet as set
use Rattle.number_map.proofs.MapLemmas.{keys_set, keys-taken}
use Rattle.number_map.proofs.maps.NumberSet.remove.Goals as goal

pub returns : goal.returns
returns c =
    ap keys_set c.remove.ensures.left ∙ keys-taken _ c.args.number
    ∙ ap (λ s. set.remove s c.args.number) c.self.view_is
