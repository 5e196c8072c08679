use Rattle.std.proofs.Common.{sym, ap, ◌∙◌}
use Rattle.std.specs.FinMap as map
use Rattle.std.specs.Option.{option_or}
use Rattle.number_map.specs.Rows.{row_at}
use Rattle.number_map.proofs.MapLemmas.{get-both, take-both}
use Rattle.number_map.proofs.maps.NumberMap.remove.Goals as goal

pub returns-clause-was : goal.returns-clause-was
returns-clause-was c =
    c.or.ensures
    ∙ ap (λ o. option_or o c.remove.result) c.take-number.ensures.was
    ∙ ap (option_or (row_at c.self.inside.row.first c.self.inside.row.numbers.items c.args.key)) c.remove.ensures.value
    ∙ sym (get-both _ _ _ c.args.key)
    ∙ ap (λ m. map.get m c.args.key) c.self.view_is

pub returns-clause-left : goal.returns-clause-left
returns-clause-left c =
    let old = c.self.inside.row in
    let new = c.take-number.new.self in
    take-both old.first new.first old.numbers.items new.numbers.items _ _ c.args.key c.take-number.ensures.left
    (λ q. c.remove.ensures.updates.0 q)
    ∙ ap (λ m. map.remove m c.args.key) c.self.view_is
