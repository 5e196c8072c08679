use Rattle.number_map.proofs.RowLemmas.{row-fresh}
use Rattle.number_map.proofs.rows.Row.spanning.Goals as goal

pub returns : goal.returns
returns c key =
    row-fresh c.args.first c.args.places _ c.new-numbers.result.items _ key c.new-numbers.ensures.items c.in_ok-resize.ensures.items
