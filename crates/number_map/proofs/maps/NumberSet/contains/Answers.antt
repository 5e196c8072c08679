use Rattle.std.proofs.Common.{is_some, sym, ap, ◌∙◌}
use Rattle.std.specs.FinSet as set
use Rattle.number_map.proofs.MapLemmas.{keys-contains}
use Rattle.number_map.proofs.maps.NumberSet.contains.Goals as goal

pub returns : goal.returns
returns c =
    c.is_some.ensures ∙ ap is_some c.get.ensures ∙ sym (keys-contains _ c.args.number)
    ∙ ap (λ s. set.contains s c.args.number) c.self.view_is
