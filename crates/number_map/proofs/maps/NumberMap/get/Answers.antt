use Rattle.std.proofs.Common.{sym, ap, ◌∙◌}
use Rattle.std.specs.FinMap as map
use Rattle.std.specs.Option.{option_or}
use Rattle.number_map.specs.Rows.{row_at}
use Rattle.number_map.proofs.MapLemmas.{get-both}
use Rattle.number_map.proofs.maps.NumberMap.get.Goals as goal

pub returns : goal.returns
returns c =
    c.or.ensures
    ∙ ap (λ o. option_or o c.copied.result) c.get.ensures
    ∙ ap (option_or (row_at c.self.inside.row.first c.self.inside.row.numbers.items c.args.key)) (c.copied.ensures ∙ c.get-2.ensures.value)
    ∙ sym (get-both _ _ _ c.args.key)
    ∙ ap (λ m. map.get m c.args.key) c.self.view_is
