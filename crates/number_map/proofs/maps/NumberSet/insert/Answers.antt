use Rattle.std.proofs.Common.{ap, ◌∙◌}
use Rattle.std.specs.FinSet as set
use Rattle.number_map.proofs.MapLemmas.{keys_set, keys-put}
use Rattle.number_map.proofs.maps.NumberSet.insert.Goals as goal

pub returns-clause-put : goal.returns-clause-put
returns-clause-put c =
    ap keys_set c.in_ok-insert.ensures.put ∙ keys-put _ c.args.number 0
    ∙ ap (λ s. set.insert s c.args.number) c.self.view_is
